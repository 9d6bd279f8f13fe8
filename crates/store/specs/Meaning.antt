-- What stands in a store, and which objects are filled as their kinds say.
use Rattle.std.specs.Prelude.{◌≡◌, ℕ, Bool, true, false, ◌&&◌, List, [], ◌∷◌, ℤ, pos, negsuc, is_some, Some, None, Option, int_le}
use Rattle.std.specs.List.{slice_get}
use Rattle.kinds.specs.declared.Kind.{Kind}
use Rattle.kinds.specs.declared.Scalar.{Scalar}
use Rattle.kinds.specs.declared.Scalar.TheVariants.{Flag, U8, I16, I32, I64}
use Rattle.kinds.specs.declared.Sort.{Sort}
use Rattle.kinds.specs.declared.Sort.TheVariants as sort
use Rattle.kinds.specs.Slots.{sorts, by_tag}
use Rattle.store.specs.declared.place.TextAt.{TextAt}
use Rattle.store.specs.declared.place.ListAt.{ListAt}
use Rattle.store.specs.declared.place.TableAt.{TableAt}
use Rattle.store.specs.declared.place.Slot.{Slot}
use Rattle.store.specs.declared.place.Slot.TheVariants.{Absent, Number, Text, Table, List as Listed}

-- What stands at each place: a text, a list of tables, a list of numbers, and for each kind a table's slots.
pub record Meaning : Type 0 where
  pub text : TextAt → Option (List ℕ)
  pub tables : ListAt → Option (List TableAt)
  pub numbers : ListAt → Option (List ℤ)
  pub table : Kind → TableAt → Option (List Slot)

-- What stands by the first stands by the second.
abbrev pub Keeps : {P X : Type 0} → (P → Option X) → (P → Option X) → Type 0
Keeps {P} {X} f g = (p : P) (x : X) → f p ≡ Some x → g p ≡ Some x

-- All that stands in m stands in n.
pub record Grows (m n : Meaning) : Type 0 where
  pub text : Keeps m.text n.text
  pub tables : Keeps m.tables n.tables
  pub numbers : Keeps m.numbers n.numbers
  pub table : (k : Kind) → Keeps (m.table k) (n.table k)

-- Nothing stands at any place.
pub record Nothing (m : Meaning) : Type 0 where
  pub text : (p : TextAt) → m.text p ≡ None
  pub tables : (p : ListAt) → m.tables p ≡ None
  pub numbers : (p : ListAt) → m.numbers p ≡ None
  pub table : (k : Kind) (p : TableAt) → m.table k p ≡ None

-- An element of a list that may not stand.
abbrev pub picked : {X : Type 0} → Option (List X) → ℕ → Option X
picked None i = None
picked (Some xs) i = slice_get xs i

-- The numbers that a slot can hold, by how it keeps them.
abbrev pub number_fits : Scalar → ℤ → Bool
number_fits Flag n = int_le (pos 0) n && int_le n (pos 1)
number_fits U8 n = int_le (pos 0) n && int_le n (pos 255)
number_fits I16 n = int_le (negsuc 32767) n && int_le n (pos 32767)
number_fits I32 n = int_le (negsuc 2147483647) n && int_le n (pos 2147483647)
number_fits I64 n = int_le (negsuc 9223372036854775807) n && int_le n (pos 9223372036854775807)

-- Whether a slot of this sort takes a number, a text, a list or a table.
abbrev pub takes_number : Sort → ℤ → Bool
takes_number (sort.Number scalar default) n = number_fits scalar n
takes_number sort.Text n = false
takes_number (sort.Table k) n = false
takes_number (sort.ByTag t) n = false
takes_number (sort.Tables k) n = false
takes_number sort.Numbers n = false
takes_number sort.Longs n = false

abbrev pub takes_text : Sort → Bool
takes_text (sort.Number scalar default) = false
takes_text sort.Text = true
takes_text (sort.Table k) = false
takes_text (sort.ByTag t) = false
takes_text (sort.Tables k) = false
takes_text sort.Numbers = false
takes_text sort.Longs = false

abbrev pub takes_list : Sort → Bool
takes_list (sort.Number scalar default) = false
takes_list sort.Text = false
takes_list (sort.Table k) = false
takes_list (sort.ByTag t) = false
takes_list (sort.Tables k) = true
takes_list sort.Numbers = true
takes_list sort.Longs = false

abbrev pub takes_table : Sort → Bool
takes_table (sort.Number scalar default) = false
takes_table sort.Text = false
takes_table (sort.Table k) = true
takes_table (sort.ByTag t) = true
takes_table (sort.Tables k) = false
takes_table sort.Numbers = false
takes_table sort.Longs = false

-- A slot holds what its sort says, wherever it may lead.
abbrev pub slot_typed : Sort → Slot → Bool
slot_typed so Absent = true
slot_typed so (Number n) = takes_number so n
slot_typed so (Text p) = takes_text so
slot_typed so (Listed p) = takes_list so
slot_typed so (Table p) = takes_table so

abbrev pub slots_typed : List Sort → List Slot → Bool
slots_typed [] [] = true
slots_typed [] (s ∷ ss) = false
slots_typed (so ∷ sos) [] = false
slots_typed (so ∷ sos) (s ∷ ss) = slot_typed so s && slots_typed sos ss

-- Each table that stands has the slots of its kind, each with what its sort says.
abbrev pub Typed : Meaning → Type 0
Typed m = (k : Kind) (p : TableAt) (l : List Slot) → m.table k p ≡ Some l → slots_typed (sorts k) l ≡ true

-- At each of these places a table of the kind stands.
abbrev pub tables_fit : Meaning → Kind → List TableAt → Bool
tables_fit m k [] = true
tables_fit m k (p ∷ ps) = is_some (m.table k p) && tables_fit m k ps

-- A list of tables of the kind stands.
abbrev pub tables_stand : Meaning → Kind → Option (List TableAt) → Bool
tables_stand m k None = false
tables_stand m k (Some l) = tables_fit m k l

-- An element of such a list is there, and is a table of the kind.
abbrev pub element_fits : Meaning → Kind → Option TableAt → Bool
element_fits m k None = false
element_fits m k (Some p) = is_some (m.table k p)

-- What a slot says as a tag: its number, and 0 where it has none.
abbrev pub tag_of : Slot → ℤ
tag_of Absent = pos 0
tag_of (Number n) = n
tag_of (Text p) = pos 0
tag_of (Listed p) = pos 0
tag_of (Table p) = pos 0

-- A table of the kind chosen stands, where one is chosen.
abbrev pub chosen_stands : Meaning → Option Kind → TableAt → Bool
chosen_stands m None p = false
chosen_stands m (Some k) p = is_some (m.table k p)

-- A text, a list or a table stands where a slot of this sort names it; before is the slot before it, which may be its tag.
abbrev pub text_fits : Meaning → Sort → TextAt → Bool
text_fits m so p = takes_text so && is_some (m.text p)

abbrev pub list_fits : Meaning → Sort → ListAt → Bool
list_fits m (sort.Number scalar default) p = false
list_fits m sort.Text p = false
list_fits m (sort.Table k) p = false
list_fits m (sort.ByTag t) p = false
list_fits m (sort.Tables k) p = tables_stand m k (m.tables p)
list_fits m sort.Numbers p = is_some (m.numbers p)
list_fits m sort.Longs p = false

abbrev pub table_fits : Meaning → Slot → Sort → TableAt → Bool
table_fits m before (sort.Number scalar default) p = false
table_fits m before sort.Text p = false
table_fits m before (sort.Table k) p = is_some (m.table k p)
table_fits m before (sort.ByTag t) p = chosen_stands m (by_tag t (tag_of before)) p
table_fits m before (sort.Tables k) p = false
table_fits m before sort.Numbers p = false
table_fits m before sort.Longs p = false

-- A slot is filled as its sort says, and names what stands.
abbrev pub slot_fits : Meaning → Slot → Sort → Slot → Bool
slot_fits m before so Absent = true
slot_fits m before so (Number n) = takes_number so n
slot_fits m before so (Text p) = text_fits m so p
slot_fits m before so (Listed p) = list_fits m so p
slot_fits m before so (Table p) = table_fits m before so p

-- As many slots as sorts, each filled as its sort says.
abbrev pub slots_fit : Meaning → Slot → List Sort → List Slot → Bool
slots_fit m before [] [] = true
slots_fit m before [] (s ∷ ss) = false
slots_fit m before (so ∷ sos) [] = false
slots_fit m before (so ∷ sos) (s ∷ ss) = slot_fits m before so s && slots_fit m s sos ss

-- What can be put.
pub data Object : Type 0 where
  the_text : List ℕ → Object
  the_tables : Kind → List TableAt → Object
  the_numbers : List ℤ → Object
  the_table : Kind → List Slot → Object

-- The type of an object's place.
abbrev pub Place : Object → Type 0
Place (the_text t) = TextAt
Place (the_tables k l) = ListAt
Place (the_numbers l) = ListAt
Place (the_table k l) = TableAt

-- An object stands at a place.
abbrev pub Stands : Meaning → (o : Object) → Place o → Type 0
Stands m (the_text t) p = m.text p ≡ Some t
Stands m (the_tables k l) p = m.tables p ≡ Some l
Stands m (the_numbers l) p = m.numbers p ≡ Some l
Stands m (the_table k l) p = m.table k p ≡ Some l

-- An object is filled as its kind says, and every place that it names is one where something of that sort and kind stands.
abbrev pub filled : Meaning → Object → Bool
filled m (the_text t) = true
filled m (the_tables k l) = tables_fit m k l
filled m (the_numbers l) = true
filled m (the_table k l) = slots_fit m Absent (sorts k) l
