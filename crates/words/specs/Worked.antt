-- The objects of two small schemas, in the order in which they are put in a new store of words, and their prices.
use Rattle.std.specs.Prelude.{◌≡◌, ℕ, ◌+◌, List, [], ◌∷◌, map, pos}
use Rattle.kinds.specs.declared.Kind.TheVariants.{Schema, Field, Int}
use Rattle.store.specs.declared.place.Slot.TheVariants.{Absent, Number, Text, Table, List as Listed}
use Rattle.store.specs.Meaning.{Object, the_text, the_tables, the_table}
use Rattle.word_layout.specs.Words.{words_price}

-- No fields: an empty list of fields, and the schema.
abbrev pub no_fields : List Object
no_fields =
    the_tables Field [] ∷
    the_table Schema (Absent ∷ Listed (record { 0 = 0 }) ∷ Absent ∷ Absent ∷ []) ∷
    []

-- One field "a" of Int32 that is not nullable: its name, its type, an empty list of children, the field, the list of fields, and the schema.
abbrev pub one_field : List Object
one_field =
    the_text (97 ∷ []) ∷
    the_table Int (Number (pos 32) ∷ Number (pos 1) ∷ []) ∷
    the_tables Field [] ∷
    the_table Field (Text (record { 0 = 0 }) ∷ Absent ∷ Number (pos 2) ∷ Table (record { 0 = 2 }) ∷ Absent ∷ Listed (record { 0 = 5 }) ∷ Absent ∷ []) ∷
    the_tables Field (record { 0 = 6 } ∷ []) ∷
    the_table Schema (Absent ∷ Listed (record { 0 = 14 }) ∷ Absent ∷ Absent ∷ []) ∷
    []

abbrev pub total : List ℕ → ℕ
total [] = 0
total (n ∷ ns) = n + total ns

-- What each of these objects costs, and all of them.
pub record WorkedPrices : Type 0 where
  pub none : map words_price no_fields ≡ 8 ∷ 40 ∷ []
  pub one : map words_price one_field ≡ 16 ∷ 24 ∷ 8 ∷ 64 ∷ 16 ∷ 40 ∷ []
  pub none_total : total (map words_price no_fields) ≡ 48
  pub one_total : total (map words_price one_field) ≡ 168
