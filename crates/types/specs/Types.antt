-- The type of a field as a value: as `DataType`, with the zone as its bytes and no place in any text.
use Rattle.std.specs.Prelude.{ℕ, Bool, List, ℤ, None, Option}
use Rattle.std.specs.Option.{option_map}
use Rattle.types.specs.declared.Text.{Text}
use Rattle.types.specs.declared.TimeUnit.{TimeUnit}
use Rattle.types.specs.declared.IntervalUnit.{IntervalUnit}
use Rattle.types.specs.declared.UnionMode.{UnionMode}
use Rattle.types.specs.declared.DataType.{DataType}
use Rattle.types.specs.declared.DataType.TheVariants.{Null, Boolean, Int8, Int16, Int32, Int64, UInt8, UInt16, UInt32, UInt64, Float16, Float32, Float64, Binary, LargeBinary, BinaryView, Utf8, LargeUtf8, Utf8View, FixedSizeBinary, Date32, Date64, Time32, Time64, Timestamp, Interval, Duration, List as ListType, LargeList, ListView, LargeListView, FixedSizeList, Struct, RunEndEncoded, Map, Decimal32, Decimal64, Decimal128, Decimal256, Union}

pub data TypeValue : Type 0 where
  null : TypeValue
  boolean : TypeValue
  int8 : TypeValue
  int16 : TypeValue
  int32 : TypeValue
  int64 : TypeValue
  uint8 : TypeValue
  uint16 : TypeValue
  uint32 : TypeValue
  uint64 : TypeValue
  float16 : TypeValue
  float32 : TypeValue
  float64 : TypeValue
  binary : TypeValue
  large_binary : TypeValue
  binary_view : TypeValue
  utf8 : TypeValue
  large_utf8 : TypeValue
  utf8_view : TypeValue
  fixed_size_binary : ℤ → TypeValue
  date32 : TypeValue
  date64 : TypeValue
  time32 : TimeUnit → TypeValue
  time64 : TimeUnit → TypeValue
  timestamp : TimeUnit → Option (List ℕ) → TypeValue
  interval : IntervalUnit → TypeValue
  duration : TimeUnit → TypeValue
  list : TypeValue
  large_list : TypeValue
  list_view : TypeValue
  large_list_view : TypeValue
  fixed_size_list : ℤ → TypeValue
  struct : TypeValue
  run_end_encoded : TypeValue
  map : Bool → TypeValue
  decimal32 : ℕ → ℤ → TypeValue
  decimal64 : ℕ → ℤ → TypeValue
  decimal128 : ℕ → ℤ → TypeValue
  decimal256 : ℕ → ℤ → TypeValue
  union : UnionMode → TypeValue

-- What a type says, where a text t says `said t`.
abbrev pub type_value : (Text → List ℕ) → DataType → TypeValue
type_value said Null = null
type_value said Boolean = boolean
type_value said Int8 = int8
type_value said Int16 = int16
type_value said Int32 = int32
type_value said Int64 = int64
type_value said UInt8 = uint8
type_value said UInt16 = uint16
type_value said UInt32 = uint32
type_value said UInt64 = uint64
type_value said Float16 = float16
type_value said Float32 = float32
type_value said Float64 = float64
type_value said Binary = binary
type_value said LargeBinary = large_binary
type_value said BinaryView = binary_view
type_value said Utf8 = utf8
type_value said LargeUtf8 = large_utf8
type_value said Utf8View = utf8_view
type_value said (FixedSizeBinary n) = fixed_size_binary n
type_value said Date32 = date32
type_value said Date64 = date64
type_value said (Time32 u) = time32 u
type_value said (Time64 u) = time64 u
type_value said (Timestamp u z) = timestamp u (option_map said z)
type_value said (Interval u) = interval u
type_value said (Duration u) = duration u
type_value said ListType = list
type_value said LargeList = large_list
type_value said ListView = list_view
type_value said LargeListView = large_list_view
type_value said (FixedSizeList n) = fixed_size_list n
type_value said Struct = struct
type_value said RunEndEncoded = run_end_encoded
type_value said (Map s) = map s
type_value said (Decimal32 p s) = decimal32 p s
type_value said (Decimal64 p s) = decimal64 p s
type_value said (Decimal128 p s) = decimal128 p s
type_value said (Decimal256 p s) = decimal256 p s
type_value said (Union m) = union m

-- The text of a type's zone, where it has one.
abbrev pub zone_of : DataType → Option Text
zone_of Null = None
zone_of Boolean = None
zone_of Int8 = None
zone_of Int16 = None
zone_of Int32 = None
zone_of Int64 = None
zone_of UInt8 = None
zone_of UInt16 = None
zone_of UInt32 = None
zone_of UInt64 = None
zone_of Float16 = None
zone_of Float32 = None
zone_of Float64 = None
zone_of Binary = None
zone_of LargeBinary = None
zone_of BinaryView = None
zone_of Utf8 = None
zone_of LargeUtf8 = None
zone_of Utf8View = None
zone_of (FixedSizeBinary n) = None
zone_of Date32 = None
zone_of Date64 = None
zone_of (Time32 u) = None
zone_of (Time64 u) = None
zone_of (Timestamp u z) = z
zone_of (Interval u) = None
zone_of (Duration u) = None
zone_of ListType = None
zone_of LargeList = None
zone_of ListView = None
zone_of LargeListView = None
zone_of (FixedSizeList n) = None
zone_of Struct = None
zone_of RunEndEncoded = None
zone_of (Map s) = None
zone_of (Decimal32 p s) = None
zone_of (Decimal64 p s) = None
zone_of (Decimal128 p s) = None
zone_of (Decimal256 p s) = None
zone_of (Union m) = None
