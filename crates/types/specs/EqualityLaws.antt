-- Proofs that the tests of equality hold exactly where the values are equal. The impl of `PartialEq` cites them as its law.
use Rattle.std.proofs.Common.{◌≡◌, Bool, true, true≢false, Option, None, Some, Decides, nat_eq, sym, refl, ap, subst}
use Rattle.std.specs.Ordering.{int_eq}
use Rattle.std.specs.Option.{option_eq}
use Rattle.std.specs.Cmp.{IsEquivalence, decided, signed_Decides, unsigned_Decides, booleans_Decides, first_so, second_so}
use Rattle.std.specs.Cmp.Derive.{both_true}
use Rattle.types.specs.Equality.{text_eq, time_unit_eq, interval_unit_eq, union_mode_eq, data_type_eq}
use Rattle.types.specs.declared.Text.{Text}
use Rattle.types.specs.declared.TimeUnit.{TimeUnit}
use Rattle.types.specs.declared.TimeUnit.TheVariants.{Second, Millisecond, Microsecond, Nanosecond}
use Rattle.types.specs.declared.IntervalUnit.{IntervalUnit}
use Rattle.types.specs.declared.IntervalUnit.TheVariants.{YearMonth, DayTime, MonthDayNano}
use Rattle.types.specs.declared.UnionMode.{UnionMode}
use Rattle.types.specs.declared.UnionMode.TheVariants.{Sparse, Dense}
use Rattle.types.specs.declared.DataType.{DataType}
use Rattle.types.specs.declared.DataType.TheVariants.{Null, Boolean, Int8, Int16, Int32, Int64, UInt8, UInt16, UInt32, UInt64, Float16, Float32, Float64, Binary, LargeBinary, BinaryView, Utf8, LargeUtf8, Utf8View, FixedSizeBinary, Date32, Date64, Time32, Time64, Timestamp, Interval, Duration, List as ListType, LargeList, ListView, LargeListView, FixedSizeList, Struct, RunEndEncoded, Map, Decimal32, Decimal64, Decimal128, Decimal256, Union}

both : {A B C : Type 0} (f : A → B → C) {x y : A} {u v : B} → x ≡ y → u ≡ v → f x u ≡ f y v
both f p q = λ i. f (p i) (q i)

-- A test decides equality if it holds of each value with itself, and of no two others.
deciding : {A : Type 0} (E : A → A → Bool) → ((x : A) → E x x ≡ true) → ((x y : A) → E x y ≡ true → x ≡ y) → (x y : A) → Decides (E x y) (x ≡ y)
deciding E own to x y = (to x y, λ e. subst (λ z. E x z ≡ true) e (own x))

text_decides : (s t : Text) → Decides (text_eq s t) (s ≡ t)
text_decides s t = (
  λ e. both (λ a b. let r : Text = record { start = a; len = b } in r) ((unsigned_Decides s.start t.start).0 (first_so (nat_eq s.start t.start) (nat_eq s.len t.len) e)) ((unsigned_Decides s.len t.len).0 (second_so (nat_eq s.start t.start) (nat_eq s.len t.len) e)),
  λ e. both_true ((unsigned_Decides s.start t.start).1 (ap (λ x. x.start) e)) ((unsigned_Decides s.len t.len).1 (ap (λ x. x.len) e)),
)

zone_own : (x : Option Text) → option_eq text_eq x x ≡ true
zone_own None = refl
zone_own (Some t) = (text_decides t t).1 refl

zone_to : (x y : Option Text) → option_eq text_eq x y ≡ true → x ≡ y
zone_to None None e = refl
zone_to None (Some t) e = absurd (true≢false (sym e))
zone_to (Some s) None e = absurd (true≢false (sym e))
zone_to (Some s) (Some t) e = ap (λ z. Some z) ((text_decides s t).0 e)

zone_decides : (x y : Option Text) → Decides (option_eq text_eq x y) (x ≡ y)
zone_decides = deciding (option_eq text_eq) zone_own zone_to

time_unit_own : (u : TimeUnit) → time_unit_eq u u ≡ true
time_unit_own Second = refl
time_unit_own Millisecond = refl
time_unit_own Microsecond = refl
time_unit_own Nanosecond = refl

time_unit_to : (u v : TimeUnit) → time_unit_eq u v ≡ true → u ≡ v
time_unit_to Second Second e = refl
time_unit_to Millisecond Millisecond e = refl
time_unit_to Microsecond Microsecond e = refl
time_unit_to Nanosecond Nanosecond e = refl
time_unit_to _ _ e = absurd (true≢false (sym e))

time_unit_decides : (u v : TimeUnit) → Decides (time_unit_eq u v) (u ≡ v)
time_unit_decides = deciding time_unit_eq time_unit_own time_unit_to

interval_unit_own : (u : IntervalUnit) → interval_unit_eq u u ≡ true
interval_unit_own YearMonth = refl
interval_unit_own DayTime = refl
interval_unit_own MonthDayNano = refl

interval_unit_to : (u v : IntervalUnit) → interval_unit_eq u v ≡ true → u ≡ v
interval_unit_to YearMonth YearMonth e = refl
interval_unit_to DayTime DayTime e = refl
interval_unit_to MonthDayNano MonthDayNano e = refl
interval_unit_to _ _ e = absurd (true≢false (sym e))

interval_unit_decides : (u v : IntervalUnit) → Decides (interval_unit_eq u v) (u ≡ v)
interval_unit_decides = deciding interval_unit_eq interval_unit_own interval_unit_to

union_mode_own : (m : UnionMode) → union_mode_eq m m ≡ true
union_mode_own Sparse = refl
union_mode_own Dense = refl

union_mode_to : (m n : UnionMode) → union_mode_eq m n ≡ true → m ≡ n
union_mode_to Sparse Sparse e = refl
union_mode_to Dense Dense e = refl
union_mode_to _ _ e = absurd (true≢false (sym e))

union_mode_decides : (m n : UnionMode) → Decides (union_mode_eq m n) (m ≡ n)
union_mode_decides = deciding union_mode_eq union_mode_own union_mode_to

own : (t : DataType) → data_type_eq t t ≡ true
unfolding data_type_eq
own Null = refl
own Boolean = refl
own Int8 = refl
own Int16 = refl
own Int32 = refl
own Int64 = refl
own UInt8 = refl
own UInt16 = refl
own UInt32 = refl
own UInt64 = refl
own Float16 = refl
own Float32 = refl
own Float64 = refl
own Binary = refl
own LargeBinary = refl
own BinaryView = refl
own Utf8 = refl
own LargeUtf8 = refl
own Utf8View = refl
own (FixedSizeBinary a) = (signed_Decides a a).1 refl
own Date32 = refl
own Date64 = refl
own (Time32 a) = (time_unit_decides a a).1 refl
own (Time64 a) = (time_unit_decides a a).1 refl
own (Timestamp a c) = both_true ((time_unit_decides a a).1 refl) ((zone_decides c c).1 refl)
own (Interval a) = (interval_unit_decides a a).1 refl
own (Duration a) = (time_unit_decides a a).1 refl
own ListType = refl
own LargeList = refl
own ListView = refl
own LargeListView = refl
own (FixedSizeList a) = (signed_Decides a a).1 refl
own Struct = refl
own RunEndEncoded = refl
own (Map a) = (booleans_Decides a a).1 refl
own (Decimal32 a c) = both_true ((unsigned_Decides a a).1 refl) ((signed_Decides c c).1 refl)
own (Decimal64 a c) = both_true ((unsigned_Decides a a).1 refl) ((signed_Decides c c).1 refl)
own (Decimal128 a c) = both_true ((unsigned_Decides a a).1 refl) ((signed_Decides c c).1 refl)
own (Decimal256 a c) = both_true ((unsigned_Decides a a).1 refl) ((signed_Decides c c).1 refl)
own (Union a) = (union_mode_decides a a).1 refl

to : (s t : DataType) → data_type_eq s t ≡ true → s ≡ t
unfolding data_type_eq
to Null Null e = refl
to Boolean Boolean e = refl
to Int8 Int8 e = refl
to Int16 Int16 e = refl
to Int32 Int32 e = refl
to Int64 Int64 e = refl
to UInt8 UInt8 e = refl
to UInt16 UInt16 e = refl
to UInt32 UInt32 e = refl
to UInt64 UInt64 e = refl
to Float16 Float16 e = refl
to Float32 Float32 e = refl
to Float64 Float64 e = refl
to Binary Binary e = refl
to LargeBinary LargeBinary e = refl
to BinaryView BinaryView e = refl
to Utf8 Utf8 e = refl
to LargeUtf8 LargeUtf8 e = refl
to Utf8View Utf8View e = refl
to (FixedSizeBinary a) (FixedSizeBinary b) e = ap FixedSizeBinary ((signed_Decides a b).0 e)
to Date32 Date32 e = refl
to Date64 Date64 e = refl
to (Time32 a) (Time32 b) e = ap Time32 ((time_unit_decides a b).0 e)
to (Time64 a) (Time64 b) e = ap Time64 ((time_unit_decides a b).0 e)
to (Timestamp a c) (Timestamp b d) e = both Timestamp ((time_unit_decides a b).0 (first_so (time_unit_eq a b) (option_eq text_eq c d) e)) ((zone_decides c d).0 (second_so (time_unit_eq a b) (option_eq text_eq c d) e))
to (Interval a) (Interval b) e = ap Interval ((interval_unit_decides a b).0 e)
to (Duration a) (Duration b) e = ap Duration ((time_unit_decides a b).0 e)
to ListType ListType e = refl
to LargeList LargeList e = refl
to ListView ListView e = refl
to LargeListView LargeListView e = refl
to (FixedSizeList a) (FixedSizeList b) e = ap FixedSizeList ((signed_Decides a b).0 e)
to Struct Struct e = refl
to RunEndEncoded RunEndEncoded e = refl
to (Map a) (Map b) e = ap Map ((booleans_Decides a b).0 e)
to (Decimal32 a c) (Decimal32 b d) e = both Decimal32 ((unsigned_Decides a b).0 (first_so (nat_eq a b) (int_eq c d) e)) ((signed_Decides c d).0 (second_so (nat_eq a b) (int_eq c d) e))
to (Decimal64 a c) (Decimal64 b d) e = both Decimal64 ((unsigned_Decides a b).0 (first_so (nat_eq a b) (int_eq c d) e)) ((signed_Decides c d).0 (second_so (nat_eq a b) (int_eq c d) e))
to (Decimal128 a c) (Decimal128 b d) e = both Decimal128 ((unsigned_Decides a b).0 (first_so (nat_eq a b) (int_eq c d) e)) ((signed_Decides c d).0 (second_so (nat_eq a b) (int_eq c d) e))
to (Decimal256 a c) (Decimal256 b d) e = both Decimal256 ((unsigned_Decides a b).0 (first_so (nat_eq a b) (int_eq c d) e)) ((signed_Decides c d).0 (second_so (nat_eq a b) (int_eq c d) e))
to (Union a) (Union b) e = ap Union ((union_mode_decides a b).0 e)
to _ _ e = absurd (true≢false (sym e))

pub data_type_decides : (s t : DataType) → Decides (data_type_eq s t) (s ≡ t)
data_type_decides = deciding data_type_eq own to

pub data_type_equiv : IsEquivalence data_type_eq
data_type_equiv = decided data_type_eq data_type_decides
