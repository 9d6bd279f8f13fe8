-- What stands on a sheet, apart from its free places.
use Rattle.std.specs.Prelude.{ℕ, List}
use Rattle.roll.specs.Rolls.{items}
use Rattle.sheet.specs.declared.memory.Sheet.{Sheet}
use Rattle.types.specs.declared.FieldRecord.{FieldRecord}
use Rattle.types.specs.declared.Pair.{Pair}

-- Field records in preorder, pairs in their owners' order, text bytes, and how many of the pairs are the schema's own.
pub record Content : Type 0 where
  pub records : List FieldRecord
  pub pairs : List Pair
  pub bytes : List ℕ
  pub own : ℕ

-- The content of a sheet: the used places of its three rolls, and the count of the schema's own pairs.
abbrev pub content : Sheet → Content
content s = record { records = items s.records; pairs = items s.pairs; bytes = items s.text; own = s.own_pairs }
