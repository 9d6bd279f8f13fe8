-- How an object is read off a row of words: a head word, and the words behind it.
use Rattle.std.specs.Prelude.{ℕ, ◌+◌, ◌*◌, ◌/◌, ◌%◌, ◌^◌, ◌<◌, Bool, cond, ◌&&◌, List, [], ◌∷◌, map, length, ℤ, pos, Some, None, Option, ◌==◌, nat_lt, slice_index, slice_index_or}
use Rattle.std.proofs.Common.{to_z, of_z}
use Rattle.std.specs.Int.{w16, w32, w64}
use Rattle.std.specs.List.{range_with_len}
use Rattle.std.specs.Option.{option_map}
use Rattle.kinds.specs.declared.Kind.{Kind}
use Rattle.kinds.specs.declared.Scalar.{Scalar}
use Rattle.kinds.specs.declared.Scalar.TheVariants.{Flag, U8, I16, I32, I64}
use Rattle.kinds.specs.declared.Sort.{Sort}
use Rattle.kinds.specs.declared.Sort.TheVariants as sort
use Rattle.kinds.specs.Slots.{sorts, code}
use Rattle.store.specs.declared.place.TableAt.{TableAt}
use Rattle.store.specs.declared.place.Slot.{Slot}
use Rattle.store.specs.declared.place.Slot.TheVariants.{Absent, Number, Text, Table, List as Listed}
use Rattle.word_layout.specs.Lists.{list_size, list_word, list_part}

-- The bytes of a word, the lowest first.
unfoldable pub le_bytes : ℕ → List ℕ
le_bytes w = (w % 256) ∷ (w / 256 % 256) ∷ (w / 65536 % 256) ∷ (w / 16777216 % 256) ∷ (w / 4294967296 % 256) ∷ (w / 1099511627776 % 256) ∷ (w / 281474976710656 % 256) ∷ (w / 72057594037927936 % 256) ∷ []

-- How a sort of object is read: which heads it has, how many elements and how many words come behind a head, in which of these words an element is, and what it is there.
pub record View (X : Type 0) : Type 0 where
  pub ok : ℕ → Bool
  pub count : ℕ → ℕ
  pub size : ℕ → ℕ
  pub at : ℕ → ℕ
  pub elem : ℕ → ℕ → ℕ → X

-- The head of a whole object at the front of a row.
abbrev pub standing : {X : Type 0} → View X → List ℕ → Option ℕ
standing v xs = cond (v.ok (slice_index xs 0) && nat_lt (v.size (slice_index xs 0)) (length xs)) (Some (slice_index xs 0)) None

abbrev pub element : {X : Type 0} → View X → List ℕ → ℕ → ℕ → X
element v xs h i = v.elem h i (slice_index xs (1 + v.at i))

-- The object at the front of a row, where a whole one is there.
abbrev pub seen : {X : Type 0} → View X → List ℕ → Option (List X)
seen v xs = option_map (λ h. map (element v xs h) (range_with_len 0 (v.count h))) (standing v xs)

-- A text: its head is 1 + 8 n for n bytes, eight of which are in each word, the first in the lowest byte.
abbrev pub text_view : View ℕ
text_view = record { ok = λ h. (h % 8 == 1); count = λ h. h / 8; size = λ h. (h / 8 + 7) / 8; at = λ i. i / 8; elem = λ h i w. slice_index (le_bytes w) (i % 8) }

-- A list: its head is its mark + 8 n for n elements, which `of` tells from their bits.
abbrev pub list_view : {X : Type 0} → (ℕ → X) → ℕ → View X
list_view of mark = record { ok = λ h. (h % 8 == mark); count = λ h. h / 8; size = λ h. list_size (h / 8); at = list_word; elem = λ h i w. of (list_part i w) }

abbrev pub table_at : ℕ → TableAt
table_at n = record { 0 = n }

-- Lists of tables have the mark 2, lists of numbers 3.
abbrev pub tables_view : View TableAt
tables_view = list_view table_at 2

abbrev pub numbers_view : View ℤ
numbers_view = list_view (to_z w32) 3

-- The number in a slot's word: the low bytes of its width, as a two's complement where it is signed; a flag is 1 unless its byte is 0.
abbrev pub number_of : Scalar → ℕ → ℤ
number_of Flag w = cond (w % 256 == 0) (pos 0) (pos 1)
number_of U8 w = pos (w % 256)
number_of I16 w = to_z w16 (w % 65536)
number_of I32 w = to_z w32 (w % 4294967296)
number_of I64 w = to_z w64 w

-- What a slot's word holds, by the slot's sort.
abbrev pub slot_of : Sort → ℕ → Slot
slot_of (sort.Number c default) w = Number (number_of c w)
slot_of sort.Text w = Text (record { 0 = w % 4294967296 })
slot_of (sort.Table k) w = Table (record { 0 = w % 4294967296 })
slot_of (sort.ByTag t) w = Table (record { 0 = w % 4294967296 })
slot_of (sort.Tables k) w = Listed (record { 0 = w % 4294967296 })
slot_of sort.Numbers w = Listed (record { 0 = w % 4294967296 })
slot_of sort.Longs w = Absent

-- Bit i of m.
abbrev pub bit : ℕ → ℕ → Bool
bit m i = m / 2 ^ i % 2 == 1

-- The low byte of a table's head, by its kind.
abbrev pub table_mark : Kind → ℕ
table_mark k = 4 + 8 * code k

-- A table: its head is its mark + 256 m, where bit i of m is 1 if slot i is there; each slot has a word.
abbrev pub table_view : Kind → View Slot
table_view k = record { ok = λ h. (h % 256 == table_mark k); count = λ h. length (sorts k); size = λ h. length (sorts k); at = λ i. i; elem = λ h i w. cond (bit (h / 256) i) (slot_of (slice_index_or (sorts k) i sort.Text) w) Absent }

-- The word that a slot is laid as.
abbrev pub raw_of : Slot → ℕ
raw_of Absent = 0
raw_of (Number n) = of_z w64 n
raw_of (Text p) = p.0
raw_of (Listed p) = p.0
raw_of (Table p) = p.0

abbrev pub there : Slot → ℕ
there Absent = 0
there (Number n) = 1
there (Text p) = 1
there (Listed p) = 1
there (Table p) = 1

-- A bit for each slot that is there.
abbrev pub mask_of : List Slot → ℕ
mask_of [] = 0
mask_of (s ∷ ss) = there s + 2 * mask_of ss

-- A slot's place has 32 bits.
abbrev pub Placed : Slot → Type 0
Placed Absent = Unit {0}
Placed (Number n) = Unit {0}
Placed (Text p) = p.0 < 4294967296
Placed (Listed p) = p.0 < 4294967296
Placed (Table p) = p.0 < 4294967296
