use Rattle.std.proofs.Common.{◌≡◌, ◌≤◌, ℕ, length}
use Rattle.rules.specs.Verdict.{walk_row, walk_field}
use Rattle.rules.proofs.walk.check_fields.Given as goal

abbrev pub decreases-loop-head : goal.decreases-loop-head
decreases-loop-head l = length l.at.records.now

abbrev pub invariant-loop-head : goal.invariant-loop-head
invariant-loop-head l =
    (fuel : ℕ) × (length l.at.records.now ≤ fuel)
    × (walk_row (walk_field l.bytes 32) fuel l.at.records.now l.at.pairs.now
    ≡ walk_row (walk_field l.bytes 32) (length l.initial.at.records.now) l.initial.at.records.now l.initial.at.pairs.now)
