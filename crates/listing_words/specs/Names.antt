-- How the parts of a schema are spelt.
use Rattle.std.specs.Prelude.{ℕ, List, codes}
use Rattle.types.specs.declared.TimeUnit.{TimeUnit}
use Rattle.types.specs.declared.TimeUnit.TheVariants.{Second, Millisecond, Microsecond, Nanosecond}
use Rattle.types.specs.declared.IntervalUnit.{IntervalUnit}
use Rattle.types.specs.declared.IntervalUnit.TheVariants.{YearMonth, DayTime, MonthDayNano}
use Rattle.types.specs.declared.UnionMode.{UnionMode}
use Rattle.types.specs.declared.UnionMode.TheVariants.{Sparse, Dense}
use Rattle.types.specs.declared.IndexType.{IndexType}
use Rattle.types.specs.declared.IndexType.TheVariants.{Int8 as I8, Int16 as I16, Int32 as I32, Int64 as I64, UInt8 as U8, UInt16 as U16, UInt32 as U32, UInt64 as U64}
use Rattle.types.specs.declared.DataType.{DataType}
use Rattle.types.specs.declared.DataType.TheVariants.{Null, Boolean, Int8, Int16, Int32, Int64, UInt8, UInt16, UInt32, UInt64, Float16, Float32, Float64, Binary, LargeBinary, BinaryView, Utf8, LargeUtf8, Utf8View, FixedSizeBinary, Date32, Date64, Time32, Time64, Timestamp, Interval, Duration, List as ListType, LargeList, ListView, LargeListView, FixedSizeList, Struct, RunEndEncoded, Map, Decimal32, Decimal64, Decimal128, Decimal256, Union}

abbrev pub unit_name : TimeUnit → List ℕ
unit_name Second = codes "Second"
unit_name Millisecond = codes "Millisecond"
unit_name Microsecond = codes "Microsecond"
unit_name Nanosecond = codes "Nanosecond"

abbrev pub interval_name : IntervalUnit → List ℕ
interval_name YearMonth = codes "YearMonth"
interval_name DayTime = codes "DayTime"
interval_name MonthDayNano = codes "MonthDayNano"

abbrev pub mode_name : UnionMode → List ℕ
mode_name Sparse = codes "Sparse"
mode_name Dense = codes "Dense"

abbrev pub index_name : IndexType → List ℕ
index_name I8 = codes "Int8"
index_name I16 = codes "Int16"
index_name I32 = codes "Int32"
index_name I64 = codes "Int64"
index_name U8 = codes "UInt8"
index_name U16 = codes "UInt16"
index_name U32 = codes "UInt32"
index_name U64 = codes "UInt64"

-- The name of a type, but for its parameters.
abbrev pub type_name : DataType → List ℕ
type_name Null = codes "Null"
type_name Boolean = codes "Boolean"
type_name Int8 = codes "Int8"
type_name Int16 = codes "Int16"
type_name Int32 = codes "Int32"
type_name Int64 = codes "Int64"
type_name UInt8 = codes "UInt8"
type_name UInt16 = codes "UInt16"
type_name UInt32 = codes "UInt32"
type_name UInt64 = codes "UInt64"
type_name Float16 = codes "Float16"
type_name Float32 = codes "Float32"
type_name Float64 = codes "Float64"
type_name Binary = codes "Binary"
type_name LargeBinary = codes "LargeBinary"
type_name BinaryView = codes "BinaryView"
type_name Utf8 = codes "Utf8"
type_name LargeUtf8 = codes "LargeUtf8"
type_name Utf8View = codes "Utf8View"
type_name (FixedSizeBinary a) = codes "FixedSizeBinary"
type_name Date32 = codes "Date32"
type_name Date64 = codes "Date64"
type_name (Time32 a) = codes "Time32"
type_name (Time64 a) = codes "Time64"
type_name (Timestamp a b) = codes "Timestamp"
type_name (Interval a) = codes "Interval"
type_name (Duration a) = codes "Duration"
type_name ListType = codes "List"
type_name LargeList = codes "LargeList"
type_name ListView = codes "ListView"
type_name LargeListView = codes "LargeListView"
type_name (FixedSizeList a) = codes "FixedSizeList"
type_name Struct = codes "Struct"
type_name RunEndEncoded = codes "RunEndEncoded"
type_name (Map a) = codes "Map"
type_name (Decimal32 a b) = codes "Decimal32"
type_name (Decimal64 a b) = codes "Decimal64"
type_name (Decimal128 a b) = codes "Decimal128"
type_name (Decimal256 a b) = codes "Decimal256"
type_name (Union a) = codes "Union"
