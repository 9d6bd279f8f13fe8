-- What a table leads to, with no place in it.
use Rattle.std.specs.Prelude.{◌≡◌, ℕ, List, [], ◌∷◌, map, ℤ, Some}
use Rattle.kinds.specs.declared.Kind.{Kind}
use Rattle.kinds.specs.declared.Scalar.{Scalar}
use Rattle.kinds.specs.declared.TagOf.{TagOf}
use Rattle.kinds.specs.declared.Sort.{Sort}
use Rattle.kinds.specs.declared.Sort.TheVariants as sort
use Rattle.kinds.specs.Slots.{sorts, by_tag}
use Rattle.store.specs.declared.place.TextAt.{TextAt}
use Rattle.store.specs.declared.place.ListAt.{ListAt}
use Rattle.store.specs.declared.place.TableAt.{TableAt}
use Rattle.store.specs.declared.place.Slot.{Slot}
use Rattle.store.specs.declared.place.Slot.TheVariants.{Absent, Number, Text, Table, List as Listed}
use Rattle.store.specs.Meaning.{Meaning, Grows, tag_of}

-- What slots lead to, one after another: nothing, a number, a text, numbers, a table of a kind with what its slots lead to, or a list of tables.
pub data Image : Type 0 where
  end : Image
  absent : Image → Image
  number : ℤ → Image → Image
  text : List ℕ → Image → Image
  numbers : List ℤ → Image → Image
  table : Kind → Image → Image → Image
  tables : Image → Image → Image

-- The elements of a list of tables, as slots that hold tables of the kind.
abbrev pub each : Kind → List TableAt → List Sort
each k [] = []
each k (p ∷ ps) = sort.Table k ∷ each k ps

-- Slots of these sorts lead to an image; before is the slot before the first, which may be its tag.
pub data Leads (m : Meaning) : Slot → List Sort → List Slot → Image → Type 0 where
  at_end : {before : Slot} → Leads m before [] [] end
  to_none : {before : Slot} {so : Sort} {sos : List Sort} {ss : List Slot} {rest : Image} → Leads m Absent sos ss rest → Leads m before (so ∷ sos) (Absent ∷ ss) (absent rest)
  to_number : {before : Slot} {c : Scalar} {default n : ℤ} {sos : List Sort} {ss : List Slot} {rest : Image} → Leads m (Number n) sos ss rest → Leads m before (sort.Number c default ∷ sos) (Number n ∷ ss) (number n rest)
  to_text : {before : Slot} {p : TextAt} {t : List ℕ} {sos : List Sort} {ss : List Slot} {rest : Image} → m.text p ≡ Some t → Leads m (Text p) sos ss rest → Leads m before (sort.Text ∷ sos) (Text p ∷ ss) (text t rest)
  to_numbers : {before : Slot} {p : ListAt} {l : List ℤ} {sos : List Sort} {ss : List Slot} {rest : Image} → m.numbers p ≡ Some l → Leads m (Listed p) sos ss rest → Leads m before (sort.Numbers ∷ sos) (Listed p ∷ ss) (numbers l rest)
  to_table : {before : Slot} {k : Kind} {p : TableAt} {l : List Slot} {sos : List Sort} {ss : List Slot} {inner rest : Image} → m.table k p ≡ Some l → Leads m Absent (sorts k) l inner → Leads m (Table p) sos ss rest → Leads m before (sort.Table k ∷ sos) (Table p ∷ ss) (table k inner rest)
  to_chosen : {before : Slot} {t : TagOf} {k : Kind} {p : TableAt} {l : List Slot} {sos : List Sort} {ss : List Slot} {inner rest : Image} → by_tag t (tag_of before) ≡ Some k → m.table k p ≡ Some l → Leads m Absent (sorts k) l inner → Leads m (Table p) sos ss rest → Leads m before (sort.ByTag t ∷ sos) (Table p ∷ ss) (table k inner rest)
  to_tables : {before : Slot} {k : Kind} {p : ListAt} {l : List TableAt} {sos : List Sort} {ss : List Slot} {inner rest : Image} → m.tables p ≡ Some l → Leads m Absent (each k l) (map Table l) inner → Leads m (Listed p) sos ss rest → Leads m before (sort.Tables k ∷ sos) (Listed p ∷ ss) (tables inner rest)

-- A table of a kind stands at a place and its slots lead to an image.
pub record LeadsTo (m : Meaning) (k : Kind) (p : TableAt) (image : Image) : Type 0 where
  pub slots : List Slot
  pub stands : m.table k p ≡ Some slots
  pub leads : Leads m Absent (sorts k) slots image

-- A table leads to at most one image.
abbrev pub OneImage : Type 0
OneImage = (m : Meaning) (k : Kind) (p : TableAt) (x y : Image) → LeadsTo m k p x → LeadsTo m k p y → x ≡ y

-- What a table leads to stays, as long as all that stood stands.
abbrev pub ImagesStay : Type 0
ImagesStay = (m n : Meaning) (k : Kind) (p : TableAt) (x : Image) → Grows m n → LeadsTo m k p x → LeadsTo n k p x
