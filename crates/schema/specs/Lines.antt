-- A schema line by line: its fields in preorder with their child counts, as they stand on a sheet.
use Rattle.std.specs.Prelude.{ℕ, List, [], ◌∷◌, map, take, drop}
use Rattle.types.specs.declared.Pair.{Pair}
use Rattle.types.specs.declared.FieldRecord.{FieldRecord}
use Rattle.sheet.specs.Contents.{Content}
use Rattle.sheet.specs.Schemas.{Field, PairValue, pair_value, field_value}

-- What records say one after another, but for dictionary numbers.
abbrev pub lines : List ℕ → List Pair → List FieldRecord → List (Field × ℕ)
lines bytes ps [] = []
lines bytes ps (x ∷ xs) = (field_value bytes (take x.pairs ps) x, x.children) ∷ lines bytes (drop x.pairs ps) xs

abbrev pub lines_of : Content → List (Field × ℕ)
lines_of c = lines c.bytes (drop c.own c.pairs) c.records

-- The schema's own pairs.
abbrev pub own_of : Content → List PairValue
own_of c = map (pair_value c.bytes) (take c.own c.pairs)
