-- The dictionary numbers of records in preorder, those nested in a field before its own.
use Rattle.std.specs.Prelude.{ℕ, zero, suc, List, [], ◌∷◌, ◌++◌, length, ℤ, sum_by}
use Rattle.std.specs.Option.{option_map, option_to_list}
use Rattle.types.specs.declared.FieldRecord.{FieldRecord}

-- The number of a record's own dictionary, if it has one.
abbrev pub own_number : FieldRecord → List ℤ
own_number x = option_to_list (option_map (λ d. d.number) x.dictionary)

-- How many records have one.
abbrev pub how_many : List FieldRecord → ℕ
how_many xs = sum_by (λ x. length (own_number x)) xs

-- Numbers that were told, and the records behind them.
pub record Told : Type 0 where
  pub numbers : List ℤ
  pub records : List FieldRecord

-- Of a field: what is nested in it was told first, and the rest of its row comes after.
abbrev pub around : Told → FieldRecord → (List FieldRecord → Told) → Told
around nested x rest = record { numbers = nested.numbers ++ (own_number x ++ (rest nested.records).numbers); records = (rest nested.records).records }

-- Of n fields in a row, as far as there are records.
abbrev pub numbers_row : (ℕ → List FieldRecord → Told) → ℕ → List FieldRecord → Told
numbers_row under zero xs = record { numbers = []; records = xs }
numbers_row under (suc n) [] = record { numbers = []; records = [] }
numbers_row under (suc n) (x ∷ xs) = around (under x.children xs) x (numbers_row under n)

-- Of n fields in a row with this many levels.
abbrev pub numbers_at : ℕ → ℕ → List FieldRecord → Told
numbers_at zero n xs = record { numbers = []; records = xs }
numbers_at (suc room) n xs = numbers_row (numbers_at room) n xs
