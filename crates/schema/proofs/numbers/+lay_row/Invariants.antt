use Rattle.std.proofs.Common.{◌≡◌, ◌-◌}
use Rattle.roll.specs.Rolls.{items, free}
use Rattle.schema.specs.Numbers.{numbers_row, numbers_at}
use Rattle.schema.proofs.NumberSteps.{Progress}
use Rattle.schema.proofs.numbers.+lay_row.Given as goal

abbrev pub decreases-lay_row : goal.decreases-lay_row
decreases-lay_row l = l.room

-- What is left of the row is told behind what was added so far.
abbrev pub invariant-loop : goal.invariant-loop
invariant-loop l =
    let under = numbers_at (l.room - 1) in
    Progress (items l.fn.out) (free l.fn.out) (items l.out) (free l.out) (numbers_row under (l.n - l.counter) l.rest).numbers (numbers_row under l.n l.records).numbers
    × ((numbers_row under (l.n - l.counter) l.rest).records ≡ (numbers_row under l.n l.records).records)
