-- Steps of the rows of type ids.
use Rattle.std.proofs.Common.{◌≡◌, ℕ, ◌+◌, ◌≤◌, true, arith}
use Rattle.std.proofs.lemmas.List.{length_push}
use Rattle.std.proofs.lemmas.Bool.{leb-true}
use Rattle.rules.specs.declared.tables.ChildRule.{ChildRule}
use Rattle.rules.specs.declared.tables.ChildRule.TheVariants.{Leaf, One, Two, Any, OfUnion}
use Rattle.rules.specs.Tables.{count_fits}
use Rattle.rules.specs.Models.{HasRoom}
use Rattle.rules.specs.Sites.{Row, plain, inside_union, after, row_under}

-- Room for as many ids as children are left, from the first child on.
pub room_at_first : (rule : ChildRule) (n : ℕ) → count_fits rule n ≡ true → HasRoom (row_under rule) n
room_at_first Leaf n e = tt
room_at_first One n e = tt
room_at_first Two n e = tt
room_at_first Any n e = tt
room_at_first OfUnion n e = omega (arith, leb-true n 128 e)

pub room_after : (row : Row) (id m n : ℕ) → n ≡ m + 1 → HasRoom row n → HasRoom (after row id) m
room_after plain id m n e h = tt
room_after (inside_union ids) id m n e h = omega (arith, length_push ids id)

pub room_less : (row : Row) (n : ℕ) → 1 ≤ n → HasRoom row n → HasRoom row 1
room_less plain n e h = tt
room_less (inside_union ids) n e h = omega arith
