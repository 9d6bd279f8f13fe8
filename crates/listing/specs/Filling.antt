-- What a sheet holds after one more pair or field.
use Rattle.std.specs.Prelude.{◌≡◌, ℕ, ◌+◌, List, [], ◌∷◌, ◌++◌, length, Some, None, Option, slice_set}
use Rattle.std.specs.List.{slice_get}
use Rattle.types.specs.declared.Text.{Text}
use Rattle.types.specs.declared.Pair.{Pair}
use Rattle.types.specs.declared.FieldRecord.{FieldRecord}
use Rattle.sheet.specs.Contents.{Content}
use Rattle.listing.specs.declared.fill.Step.{Step}
use Rattle.listing.specs.declared.fill.Step.TheVariants.{Emptied as EmptiedStep, PairLaid as PairStep, FieldLaid as FieldStep}

-- A text as it stands behind so many other bytes.
abbrev pub moved_text : ℕ → Text → Text
moved_text by t = record { start = by + t.start; len = t.len }

abbrev pub moved_pair : ℕ → Pair → Pair
moved_pair by p = record { key = moved_text by p.key; value = moved_text by p.value }

-- A field with one more child, or one more pair.
abbrev pub more_children : FieldRecord → FieldRecord
more_children x =
    record {
      name = x.name;
      nullable = x.nullable;
      data_type = x.data_type;
      dictionary = x.dictionary;
      children = x.children + 1;
      pairs = x.pairs;
      type_id = x.type_id;
    }

abbrev pub more_pairs : FieldRecord → FieldRecord
more_pairs x =
    record {
      name = x.name;
      nullable = x.nullable;
      data_type = x.data_type;
      dictionary = x.dictionary;
      children = x.children;
      pairs = x.pairs + 1;
      type_id = x.type_id;
    }

-- A change of the record at a place, and of no other.
abbrev pub ChangedAt : (FieldRecord → FieldRecord) → ℕ → List FieldRecord → List FieldRecord → Type 0
ChangedAt f i xs ys = (x : FieldRecord) × (slice_get xs i ≡ Some x) × (ys ≡ slice_set xs i (f x))

-- A pair's bytes and the pair stand behind the others; nothing else is changed.
pub record PairLaid (c : Content) (bytes : List ℕ) (p : Pair) (d : Content) : Type 0 where
  pub same_records : d.records ≡ c.records
  pub more_pairs : d.pairs ≡ c.pairs ++ p ∷ []
  pub more_bytes : d.bytes ≡ c.bytes ++ bytes
  pub same_own : d.own ≡ c.own

-- A field's bytes and the field stand behind the others; nothing else is changed.
pub record FieldLaid (c : Content) (bytes : List ℕ) (x : FieldRecord) (d : Content) : Type 0 where
  pub more_records : d.records ≡ c.records ++ x ∷ []
  pub same_pairs : d.pairs ≡ c.pairs
  pub more_bytes : d.bytes ≡ c.bytes ++ bytes
  pub same_own : d.own ≡ c.own

-- A pair is the schema's before the first record, and then the last record's; the owner, none for the schema, counts one more pair.
abbrev pub Counted : Option ℕ → Content → Content → Type 0
Counted None c d = (length c.records ≡ 0) × (d.records ≡ c.records) × (d.own ≡ c.own + 1)
Counted (Some i) c d = (length c.records ≡ i + 1) × ChangedAt more_pairs i c.records d.records × (d.own ≡ c.own)

-- One more pair, which its owner counts.
abbrev pub PairAdded : Option ℕ → Content → List ℕ → Pair → Content → Type 0
PairAdded o c bytes p d = Counted o c d × (d.pairs ≡ c.pairs ++ p ∷ []) × (d.bytes ≡ c.bytes ++ bytes)

-- One more field, which the field above it counts as a child.
abbrev pub FieldAdded : Option ℕ → Content → List ℕ → FieldRecord → Content → Type 0
FieldAdded None c bytes x d = FieldLaid c bytes x d
FieldAdded (Some i) c bytes x d =
    ((y : FieldRecord) × (slice_get c.records i ≡ Some y) × (d.records ≡ slice_set (c.records ++ x ∷ []) i (more_children y)))
    × (d.pairs ≡ c.pairs) × (d.bytes ≡ c.bytes ++ bytes) × (d.own ≡ c.own)

-- What a line did: it took everything off, or added a pair to its owner, or a field behind the others.
abbrev pub Did : Step → Content → Content → Type 0
Did EmptiedStep c d = d ≡ record { records = []; pairs = []; bytes = []; own = 0 }
Did (PairStep key owner) c d = (bytes : List ℕ) × ((p : Pair) × (p.key ≡ key) × PairAdded owner c bytes p d)
Did (FieldStep depth name place) c d =
    (parent : Option ℕ) × ((bytes : List ℕ) × ((x : FieldRecord) × (x.name ≡ name) × (place ≡ length c.records) × FieldAdded parent c bytes x d))
