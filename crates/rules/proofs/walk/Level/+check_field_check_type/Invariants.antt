use Rattle.std.proofs.Common.{◌≡◌, ◌+◌, ◌-◌, ◌*◌, ◌≤◌, length}
use Rattle.rules.specs.Models.{row_of, ahead, HasRoom}
use Rattle.rules.specs.Sites.{row_under}
use Rattle.rules.specs.Tables.{child_rule}
use Rattle.rules.specs.Verdict.{walk_children, walk_field}
use Rattle.rules.proofs.walk.Level.+check_field_check_type.Given as goal

abbrev pub decreases-check_field : goal.decreases-check_field
decreases-check_field l = 2 * l.self.now.room

abbrev pub decreases-check_type : goal.decreases-check_type
decreases-check_type l = 2 * l.self.now.room + 1

-- The children left are walked as all of them are.
abbrev pub invariant-check_type-loop : goal.invariant-check_type-loop
invariant-check_type-loop l =
    let F = walk_field l.fn.self.bytes.now l.fn.self.room in
    let x = l.fn.head in
    (walk_children F (x.children - l.counter) (row_of l.row) (ahead l.at) ≡ walk_children F x.children (row_under (child_rule x.data_type)) (ahead l.fn.from))
    × (length l.at.records.now ≤ length l.fn.from.records.now)
    × HasRoom (row_of l.row) (x.children - l.counter)
