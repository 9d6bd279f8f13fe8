-- What is known of the slots of a kind, and of a slot that is laid and read again.
use Rattle.std.proofs.Common.{◌≡◌, ℕ, suc, ◌+◌, ◌-◌, ◌/◌, ◌%◌, ◌<◌, ◌≤◌, Bool, true, false, cond, ◌&&◌, eqb, ltb, List, length, get_or, ℤ, pos, negsuc, refl, ap, ◌∙◌, arith, w16, w32, w64, to_z, of_z}
use lib.Signed.{le_z}
use mir.Val.{sel}
use Rattle.std.proofs.lemmas.Int.{to_z-of_z}
use Rattle.std.proofs.lemmas.Bool.Decides.{nat_tests}
use Rattle.kinds.specs.declared.Kind.{Kind}
use Rattle.kinds.specs.declared.Kind.TheVariants.{Schema, Field, KeyValue, DictionaryEncoding, Message, Null, Int, FloatingPoint, Binary, Utf8, Bool as BoolKind, Decimal, Date, Time, Timestamp, Interval, Struct, Union, FixedSizeBinary, FixedSizeList, Map, Duration, LargeBinary, LargeUtf8, LargeList, RunEndEncoded, BinaryView, Utf8View, ListView, LargeListView, List as ListKind}
use Rattle.kinds.specs.declared.Scalar.{Scalar}
use Rattle.kinds.specs.declared.Scalar.TheVariants.{Flag, U8, I16, I32, I64}
use Rattle.kinds.specs.Slots.{sorts, code}
use Rattle.kinds.specs.declared.Sort.{Sort}
use Rattle.kinds.specs.declared.Sort.TheVariants as sort
use Rattle.store.specs.Meaning.{number_fits, slot_typed, slots_typed}
use Rattle.store.specs.declared.place.Slot.{Slot}
use Rattle.store.specs.declared.place.Slot.TheVariants.{Absent, Number, Text, Table, List as Listed}
use Rattle.store.proofs.Typing.{typed_at}
use Rattle.word_layout.specs.Views.{number_of, slot_of, raw_of, there, mask_of, bit, table_mark, Placed}
use Rattle.word_layout.specs.Words.{table_head}
use Rattle.word_layout.proofs.Masks.{mask_bit}

pub few : (k : Kind) → (length (sorts k) ≤ 7) × (code k < 32)
few Schema = (omega arith, omega arith)
few Field = (omega arith, omega arith)
few KeyValue = (omega arith, omega arith)
few DictionaryEncoding = (omega arith, omega arith)
few Message = (omega arith, omega arith)
few Null = (omega arith, omega arith)
few Int = (omega arith, omega arith)
few FloatingPoint = (omega arith, omega arith)
few Binary = (omega arith, omega arith)
few Utf8 = (omega arith, omega arith)
few BoolKind = (omega arith, omega arith)
few Decimal = (omega arith, omega arith)
few Date = (omega arith, omega arith)
few Time = (omega arith, omega arith)
few Timestamp = (omega arith, omega arith)
few Interval = (omega arith, omega arith)
few ListKind = (omega arith, omega arith)
few Struct = (omega arith, omega arith)
few Union = (omega arith, omega arith)
few FixedSizeBinary = (omega arith, omega arith)
few FixedSizeList = (omega arith, omega arith)
few Map = (omega arith, omega arith)
few Duration = (omega arith, omega arith)
few LargeBinary = (omega arith, omega arith)
few LargeUtf8 = (omega arith, omega arith)
few LargeList = (omega arith, omega arith)
few RunEndEncoded = (omega arith, omega arith)
few BinaryView = (omega arith, omega arith)
few Utf8View = (omega arith, omega arith)
few ListView = (omega arith, omega arith)
few LargeListView = (omega arith, omega arith)

-- A number as it is laid and read again.
pub number_back : (c : Scalar) (n : ℤ) → number_fits c n ≡ true → number_of c (of_z w64 n) ≡ n
number_back Flag (pos n) e = grind (arith, nat_tests)
number_back Flag (negsuc n) e = grind arith
number_back U8 (pos n) e = ap pos (grind (arith, nat_tests))
number_back U8 (negsuc n) e = grind arith
number_back I16 (pos n) e = let s : n ≤ 32767 = grind (arith, nat_tests) in let q : n % 65536 ≡ n = omega arith in ap (to_z w16) q ∙ to_z-of_z w16 (pos n) (record { sfits = omega arith })
number_back I16 (negsuc n) e = let s : n ≤ 32767 = grind (arith, nat_tests) in let q : (18446744073709551616 - suc n) % 65536 ≡ 65536 - suc n = omega arith in ap (to_z w16) q ∙ to_z-of_z w16 (negsuc n) (record { sfits = omega arith })
number_back I32 (pos n) e = let s : n ≤ 2147483647 = grind (arith, nat_tests) in let q : n % 4294967296 ≡ n = omega arith in ap (to_z w32) q ∙ to_z-of_z w32 (pos n) (record { sfits = omega arith })
number_back I32 (negsuc n) e = let s : n ≤ 2147483647 = grind (arith, nat_tests) in let q : (18446744073709551616 - suc n) % 4294967296 ≡ 4294967296 - suc n = omega arith in ap (to_z w32) q ∙ to_z-of_z w32 (negsuc n) (record { sfits = omega arith })
number_back I64 (pos n) e = let s : n ≤ 9223372036854775807 = grind (arith, nat_tests) in to_z-of_z w64 (pos n) (record { sfits = omega arith })
number_back I64 (negsuc n) e = let s : n ≤ 9223372036854775807 = grind (arith, nat_tests) in to_z-of_z w64 (negsuc n) (record { sfits = omega arith })

-- A number read off a word is in the range of its width.
flag_in : (b : Bool) → (le_z (pos 0) (cond b (pos 0) (pos 1)) && le_z (cond b (pos 0) (pos 1)) (pos 1)) ≡ true
flag_in true = refl
flag_in false = refl

signed_in : (n half : ℕ) (b : Bool) → ltb n (suc half) ≡ b → (le_z (negsuc half) (sel b (pos n) (negsuc (suc half + suc half - suc n))) && le_z (sel b (pos n) (negsuc (suc half + suc half - suc n))) (pos half)) ≡ true
signed_in n half true e = let h : n ≤ half = grind (arith, nat_tests) in grind (arith, nat_tests)
signed_in n half false e = let h : suc half + suc half - suc n ≤ half = grind (arith, nat_tests) in grind (arith, nat_tests)

pub number_in : (c : Scalar) (w : ℕ) → number_fits c (number_of c w) ≡ true
number_in Flag w = flag_in (eqb (w % 256) 0)
number_in U8 w = grind (arith, nat_tests)
number_in I16 w = signed_in (w % 65536) 32767 (ltb (w % 65536) 32768) refl
number_in I32 w = signed_in (w % 4294967296) 2147483647 (ltb (w % 4294967296) 2147483648) refl
number_in I64 w = signed_in w 9223372036854775807 (ltb w 9223372036854775808) refl

-- A word reads as what its slot's sort says.
pub slot_in : (so : Sort) (w : ℕ) → slot_typed so (slot_of so w) ≡ true
slot_in (sort.Number c d) w = number_in c w
slot_in sort.Text w = refl
slot_in (sort.Table k) w = refl
slot_in (sort.ByTag t) w = refl
slot_in (sort.Tables k) w = refl
slot_in sort.Numbers w = refl
slot_in sort.Longs w = refl

pub element_in : (b : Bool) (so : Sort) (w : ℕ) → slot_typed so (cond b (slot_of so w) Absent) ≡ true
element_in true so w = slot_in so w
element_in false so w = refl

-- A place as it is laid and read again.
place_back : {X : Type 0} (f : ℕ → X) (n : ℕ) → n < 4294967296 → f (n % 4294967296) ≡ f n
place_back f n h = ap f (omega arith)

never : {X : Type 0} (x y : X) → false ≡ true → x ≡ y
never x y e = grind arith

-- A slot as it is laid and read again.
slot_back : (so : Sort) (s : Slot) → slot_typed so s ≡ true → Placed s → cond (eqb (there s) 1) (slot_of so (raw_of s)) Absent ≡ s
slot_back so Absent e p = refl
slot_back (sort.Number c d) (Number n) e p = ap Number (number_back c n e)
slot_back sort.Text (Number n) e p = never _ _ e
slot_back (sort.Table k) (Number n) e p = never _ _ e
slot_back (sort.ByTag t) (Number n) e p = never _ _ e
slot_back (sort.Tables k) (Number n) e p = never _ _ e
slot_back sort.Numbers (Number n) e p = never _ _ e
slot_back sort.Longs (Number n) e p = never _ _ e
slot_back (sort.Number c d) (Text q) e p = never _ _ e
slot_back sort.Text (Text q) e p = place_back (λ n. Text (record { 0 = n })) q.0 p
slot_back (sort.Table k) (Text q) e p = never _ _ e
slot_back (sort.ByTag t) (Text q) e p = never _ _ e
slot_back (sort.Tables k) (Text q) e p = never _ _ e
slot_back sort.Numbers (Text q) e p = never _ _ e
slot_back sort.Longs (Text q) e p = never _ _ e
slot_back (sort.Number c d) (Listed q) e p = never _ _ e
slot_back sort.Text (Listed q) e p = never _ _ e
slot_back (sort.Table k) (Listed q) e p = never _ _ e
slot_back (sort.ByTag t) (Listed q) e p = never _ _ e
slot_back (sort.Tables k) (Listed q) e p = place_back (λ n. Listed (record { 0 = n })) q.0 p
slot_back sort.Numbers (Listed q) e p = place_back (λ n. Listed (record { 0 = n })) q.0 p
slot_back sort.Longs (Listed q) e p = never _ _ e
slot_back (sort.Number c d) (Table q) e p = never _ _ e
slot_back sort.Text (Table q) e p = never _ _ e
slot_back (sort.Table k) (Table q) e p = place_back (λ n. Table (record { 0 = n })) q.0 p
slot_back (sort.ByTag t) (Table q) e p = place_back (λ n. Table (record { 0 = n })) q.0 p
slot_back (sort.Tables k) (Table q) e p = never _ _ e
slot_back sort.Numbers (Table q) e p = never _ _ e
slot_back sort.Longs (Table q) e p = never _ _ e

-- A slot of a table, read by the table's head.
pub table_back : (k : Kind) (l : List Slot) (i w : ℕ) → slots_typed (sorts k) l ≡ true → i < length l → w ≡ raw_of (get_or l i Absent) → Placed (get_or l i Absent) →
    cond (bit (table_head k l / 256) i) (slot_of (get_or (sorts k) i sort.Text) w) Absent ≡ get_or l i Absent
table_back k l i w e h r p =
    let c = (few k).1 in
    let q : table_head k l / 256 ≡ mask_of l = omega arith in
    let so = get_or (sorts k) i sort.Text in
    ap (λ x. cond (bit x i) (slot_of so w) Absent) q ∙ (ap (λ x. cond (eqb x 1) (slot_of so w) Absent) (mask_bit l i h) ∙ (ap (λ x. cond (eqb (there (get_or l i Absent)) 1) (slot_of so x) Absent) r ∙ slot_back so (get_or l i Absent) (typed_at (sorts k) l i sort.Text Absent e h) p))

-- A table's head is one of its kind.
pub table_ok : (k : Kind) (l : List Slot) → eqb (table_head k l % 256) (table_mark k) ≡ true
table_ok k l = let c = (few k).1 in grind (arith, nat_tests)
