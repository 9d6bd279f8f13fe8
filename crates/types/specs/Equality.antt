-- Whether two types of fields are the same, as a test.
use Rattle.std.specs.Prelude.{Bool, true, false, ◌&&◌, nat_eq}
use Rattle.std.specs.Bool.{beq}
use Rattle.std.specs.Ordering.{int_eq}
use Rattle.std.specs.Option.{option_eq}
use Rattle.types.specs.declared.Text.{Text}
use Rattle.types.specs.declared.TimeUnit.{TimeUnit}
use Rattle.types.specs.declared.TimeUnit.TheVariants.{Second, Millisecond, Microsecond, Nanosecond}
use Rattle.types.specs.declared.IntervalUnit.{IntervalUnit}
use Rattle.types.specs.declared.IntervalUnit.TheVariants.{YearMonth, DayTime, MonthDayNano}
use Rattle.types.specs.declared.UnionMode.{UnionMode}
use Rattle.types.specs.declared.UnionMode.TheVariants.{Sparse, Dense}
use Rattle.types.specs.declared.DataType.{DataType}
use Rattle.types.specs.declared.DataType.TheVariants.{Null, Boolean, Int8, Int16, Int32, Int64, UInt8, UInt16, UInt32, UInt64, Float16, Float32, Float64, Binary, LargeBinary, BinaryView, Utf8, LargeUtf8, Utf8View, FixedSizeBinary, Date32, Date64, Time32, Time64, Timestamp, Interval, Duration, List as ListType, LargeList, ListView, LargeListView, FixedSizeList, Struct, RunEndEncoded, Map, Decimal32, Decimal64, Decimal128, Decimal256, Union}

-- The same place and length.
abbrev pub text_eq : Text → Text → Bool
text_eq s t = nat_eq s.start t.start && nat_eq s.len t.len

abbrev pub time_unit_eq : TimeUnit → TimeUnit → Bool
time_unit_eq Second Second = true
time_unit_eq Millisecond Millisecond = true
time_unit_eq Microsecond Microsecond = true
time_unit_eq Nanosecond Nanosecond = true
time_unit_eq _ _ = false

abbrev pub interval_unit_eq : IntervalUnit → IntervalUnit → Bool
interval_unit_eq YearMonth YearMonth = true
interval_unit_eq DayTime DayTime = true
interval_unit_eq MonthDayNano MonthDayNano = true
interval_unit_eq _ _ = false

abbrev pub union_mode_eq : UnionMode → UnionMode → Bool
union_mode_eq Sparse Sparse = true
union_mode_eq Dense Dense = true
union_mode_eq _ _ = false

-- The same type, with the same parameters.
unfoldable pub data_type_eq : DataType → DataType → Bool
data_type_eq Null Null = true
data_type_eq Boolean Boolean = true
data_type_eq Int8 Int8 = true
data_type_eq Int16 Int16 = true
data_type_eq Int32 Int32 = true
data_type_eq Int64 Int64 = true
data_type_eq UInt8 UInt8 = true
data_type_eq UInt16 UInt16 = true
data_type_eq UInt32 UInt32 = true
data_type_eq UInt64 UInt64 = true
data_type_eq Float16 Float16 = true
data_type_eq Float32 Float32 = true
data_type_eq Float64 Float64 = true
data_type_eq Binary Binary = true
data_type_eq LargeBinary LargeBinary = true
data_type_eq BinaryView BinaryView = true
data_type_eq Utf8 Utf8 = true
data_type_eq LargeUtf8 LargeUtf8 = true
data_type_eq Utf8View Utf8View = true
data_type_eq (FixedSizeBinary a) (FixedSizeBinary b) = int_eq a b
data_type_eq Date32 Date32 = true
data_type_eq Date64 Date64 = true
data_type_eq (Time32 a) (Time32 b) = time_unit_eq a b
data_type_eq (Time64 a) (Time64 b) = time_unit_eq a b
data_type_eq (Timestamp a c) (Timestamp b d) = time_unit_eq a b && option_eq text_eq c d
data_type_eq (Interval a) (Interval b) = interval_unit_eq a b
data_type_eq (Duration a) (Duration b) = time_unit_eq a b
data_type_eq ListType ListType = true
data_type_eq LargeList LargeList = true
data_type_eq ListView ListView = true
data_type_eq LargeListView LargeListView = true
data_type_eq (FixedSizeList a) (FixedSizeList b) = int_eq a b
data_type_eq Struct Struct = true
data_type_eq RunEndEncoded RunEndEncoded = true
data_type_eq (Map a) (Map b) = beq a b
data_type_eq (Decimal32 a c) (Decimal32 b d) = nat_eq a b && int_eq c d
data_type_eq (Decimal64 a c) (Decimal64 b d) = nat_eq a b && int_eq c d
data_type_eq (Decimal128 a c) (Decimal128 b d) = nat_eq a b && int_eq c d
data_type_eq (Decimal256 a c) (Decimal256 b d) = nat_eq a b && int_eq c d
data_type_eq (Union a) (Union b) = union_mode_eq a b
data_type_eq _ _ = false
