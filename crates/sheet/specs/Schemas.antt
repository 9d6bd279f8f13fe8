-- A schema as a value, with no place of any memory in it; and which schema a sheet holds.
use Rattle.std.specs.Prelude.{◌≡◌, ℕ, Bool, List, [], ◌∷◌, ◌++◌, map, take, drop, ℤ, Option}
use Rattle.std.specs.Option.{option_map, option_to_list}
use Rattle.types.specs.declared.Pair.{Pair}
use Rattle.types.specs.declared.Dictionary.{Dictionary}
use Rattle.types.specs.declared.IndexType.{IndexType}
use Rattle.types.specs.declared.FieldRecord.{FieldRecord}
use Rattle.sheet.specs.Contents.{Content}
use Rattle.sheet.specs.Forests.{Forest, none, tree, counted, mapped_forest}
use Rattle.sheet.specs.Texts.{said}
use Rattle.types.specs.Types.{TypeValue, type_value}

-- A key and its value, as bytes.
pub record PairValue : Type 0 where
  pub key : List ℕ
  pub value : List ℕ

-- How a field is dictionary-encoded, but for the dictionary's number.
pub record Encoding : Type 0 where
  pub index : IndexType
  pub ordered : Bool

-- A field, but for its children.
pub record Field : Type 0 where
  pub name : List ℕ
  pub nullable : Bool
  pub type : TypeValue
  pub encoding : Option Encoding
  pub type_id : ℕ
  pub pairs : List PairValue

-- A schema: its fields in a row, each with the row of its children, and its own pairs.
-- The numbers of its dictionaries are no part of it, so two schemas are alike when they are equal.
pub record Schema : Type 0 where
  pub fields : Forest Field
  pub pairs : List PairValue

-- A field and, where it is dictionary-encoded, the number of its dictionary.
pub record Numbered : Type 0 where
  pub field : Field
  pub number : Option ℤ

-- The dictionary numbers of a row of fields: those nested in a field before its own, else left to right.
abbrev pub numbers_of : Forest Numbered → List ℤ
numbers_of none = []
numbers_of (tree x kids rest) = numbers_of kids ++ (option_to_list x.number ++ numbers_of rest)

-- What pairs say.
abbrev pub pair_value : List ℕ → Pair → PairValue
pair_value bytes p = record { key = said bytes p.key; value = said bytes p.value }

abbrev pub encoding_value : Dictionary → Encoding
encoding_value d = record { index = d.index_type; ordered = d.ordered }

-- What a record says, where these are its pairs.
abbrev pub field_value : List ℕ → List Pair → FieldRecord → Field
field_value bytes ps x =
    record {
      name = said bytes x.name;
      nullable = x.nullable;
      type = type_value (said bytes) x.data_type;
      encoding = option_map encoding_value x.dictionary;
      type_id = x.type_id;
      pairs = map (pair_value bytes) ps;
    }

abbrev pub numbered_value : List ℕ → List Pair → FieldRecord → Numbered
numbered_value bytes ps x = record { field = field_value bytes ps x; number = option_map (λ d. d.number) x.dictionary }

-- What records say one after another, each with the count of its children; each takes its pairs from the front of those left.
abbrev pub listed : List ℕ → List Pair → List FieldRecord → List (Numbered × ℕ)
listed bytes ps [] = []
listed bytes ps (x ∷ xs) = (numbered_value bytes (take x.pairs ps) x, x.children) ∷ listed bytes (drop x.pairs ps) xs

-- A sheet holds a schema with these dictionary numbers: its records are the schema's fields in preorder.
pub record Holds (c : Content) (schema : Schema) (numbers : List ℤ) : Type 0 where
  pub fields : Forest Numbered
  pub preorder : counted fields ≡ listed c.bytes (drop c.own c.pairs) c.records
  pub same_fields : schema.fields ≡ mapped_forest (λ x. x.field) fields
  pub same_pairs : schema.pairs ≡ map (pair_value c.bytes) (take c.own c.pairs)
  pub same_numbers : numbers ≡ numbers_of fields

-- A sheet holds exactly one schema, with exactly one list of dictionary numbers.
pub record HoldsOne (c : Content) : Type 0 where
  pub schema : Schema
  pub numbers : List ℤ
  pub holds : Holds c schema numbers
  pub only : (other : Schema) (others : List ℤ) → Holds c other others → (other ≡ schema) × (others ≡ numbers)
