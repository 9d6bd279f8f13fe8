-- Fields where they stand: how deep, in which row, and which pairs are still to be handed out.
use Rattle.std.specs.Prelude.{ℕ, suc, ◌+◌, List, [], ◌∷◌, ◌++◌, take, drop}
use Rattle.types.specs.declared.FieldRecord.{FieldRecord}
use Rattle.types.specs.declared.Pair.{Pair}
use Rattle.sheet.specs.Contents.{Content}
use Rattle.sheet.specs.Forests.{Forest, none, tree}
use Rattle.rules.specs.declared.tables.ChildRule.{ChildRule}
use Rattle.rules.specs.declared.tables.ChildRule.TheVariants.{Leaf, One, Two, Any, OfUnion}
use Rattle.rules.specs.Tables.{child_rule}

-- The fields before one in its row: of no matter, or children of a union with these type ids.
pub data Row : Type 0 where
  plain : Row
  inside_union : List ℕ → Row

-- The row of a field's children, before the first of them.
abbrev pub row_under : ChildRule → Row
row_under Leaf = plain
row_under One = plain
row_under Two = plain
row_under Any = plain
row_under OfUnion = inside_union []

-- The row after one field more, which has this type id.
abbrev pub after : Row → ℕ → Row
after plain id = plain
after (inside_union ids) id = inside_union (ids ++ id ∷ [])

-- A field where it stands. `left` are the pairs from its first one to the last of the sheet.
pub record Site : Type 0 where
  pub head : FieldRecord
  pub depth : ℕ
  pub row : Row
  pub left : List Pair

-- The pairs of the field.
abbrev pub site_pairs : Site → List Pair
site_pairs s = take s.head.pairs s.left

-- How many pairs the fields of a row have, with all that is nested in them.
abbrev pub pairs_in : Forest FieldRecord → ℕ
pairs_in none = 0
pairs_in (tree x kids rest) = x.pairs + (pairs_in kids + pairs_in rest)

-- The fields of a row where they stand, in preorder.
abbrev pub sites : ℕ → Row → List Pair → Forest FieldRecord → List Site
sites depth row ps none = []
sites depth row ps (tree x kids rest) =
    record { head = x; depth = depth; row = row; left = ps }
    ∷ (sites (suc depth) (row_under (child_rule x.data_type)) (drop x.pairs ps) kids
    ++ sites depth (after row x.type_id) (drop (pairs_in kids) (drop x.pairs ps)) rest)

-- The fields of a sheet where they stand; those in the outermost row have depth 1.
abbrev pub sites_of : Content → Forest FieldRecord → List Site
sites_of c fields = sites 1 plain (drop c.own c.pairs) fields
