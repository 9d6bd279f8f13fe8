use Rattle.std.proofs.Common.{length, map}
use Rattle.sheet.specs.Schemas.{pair_value}
use Rattle.schema.proofs.SameLists.{SameSoFar}
use Rattle.schema.proofs.fields.Sides.same_pairs.Given as goal

abbrev pub decreases-loop-p : goal.decreases-loop-p
decreases-loop-p l = length l.left

abbrev pub invariant-loop-p : goal.invariant-loop-p
invariant-loop-p l =
    let f = pair_value l.self.first.now in
    let g = pair_value l.self.second.now in
    SameSoFar (map f l.ps) (map g l.qs) (map f l.left) (map g l.right)
