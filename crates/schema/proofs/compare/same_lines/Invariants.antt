use Rattle.std.proofs.Common.{length}
use Rattle.schema.specs.Lines.{lines}
use Rattle.schema.proofs.SameLists.{SameSoFar}
use Rattle.schema.proofs.compare.same_lines.Given as goal

abbrev pub decreases-loop-x : goal.decreases-loop-x
decreases-loop-x l = length l.left.records.now

abbrev pub invariant-loop-x : goal.invariant-loop-x
invariant-loop-x l =
    SameSoFar (lines l.sides.first.now l.a.pairs.now l.a.records.now) (lines l.sides.second.now l.b.pairs.now l.b.records.now)
    (lines l.sides.first.now l.left.pairs.now l.left.records.now) (lines l.sides.second.now l.right.pairs.now l.right.records.now)
