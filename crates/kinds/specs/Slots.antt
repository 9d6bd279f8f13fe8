-- What the slots of each kind of table may hold, and which kind a tag chooses.
use Rattle.std.specs.Prelude.{ℕ, zero, suc, List, [], ◌∷◌, ℤ, pos, negsuc, None, Option}
use Rattle.std.specs.List.{slice_get}
use Rattle.kinds.specs.declared.Kind.{Kind}
use Rattle.kinds.specs.declared.Kind.TheVariants.{Schema, Field, KeyValue, DictionaryEncoding, Message, Null, Int, FloatingPoint, Binary, Utf8, Bool, Decimal, Date, Time, Timestamp, Interval, Struct, Union, FixedSizeBinary, FixedSizeList, Map, Duration, LargeBinary, LargeUtf8, LargeList, RunEndEncoded, BinaryView, Utf8View, ListView, LargeListView, List as ListKind}
use Rattle.kinds.specs.declared.Scalar.{Scalar}
use Rattle.kinds.specs.declared.Scalar.TheVariants.{Flag, U8, I16, I32, I64}
use Rattle.kinds.specs.declared.TagOf.{TagOf}
use Rattle.kinds.specs.declared.TagOf.TheVariants.{FieldType, MessageHeader}
use Rattle.kinds.specs.declared.Sort.{Sort}
use Rattle.kinds.specs.declared.Sort.TheVariants.{Number, Text, Table, ByTag, Tables, Numbers, Longs}

-- How many bytes a number takes in FlatBuffers.
abbrev pub width : Scalar → ℕ
width Flag = 1
width U8 = 1
width I16 = 2
width I32 = 4
width I64 = 8

-- The slots of each kind, in the order of the format, each number with what an absent one stands for.
abbrev pub sorts : Kind → List Sort
sorts Schema = Number I16 (pos 0) ∷ Tables Field ∷ Tables KeyValue ∷ Longs ∷ []
sorts Field = Text ∷ Number Flag (pos 0) ∷ Number U8 (pos 0) ∷ ByTag FieldType ∷ Table DictionaryEncoding ∷ Tables Field ∷ Tables KeyValue ∷ []
sorts KeyValue = Text ∷ Text ∷ []
sorts DictionaryEncoding = Number I64 (pos 0) ∷ Table Int ∷ Number Flag (pos 0) ∷ Number I16 (pos 0) ∷ []
sorts Message = Number I16 (pos 0) ∷ Number U8 (pos 0) ∷ ByTag MessageHeader ∷ Number I64 (pos 0) ∷ Tables KeyValue ∷ []
sorts Null = []
sorts Int = Number I32 (pos 0) ∷ Number Flag (pos 0) ∷ []
sorts FloatingPoint = Number I16 (pos 0) ∷ []
sorts Binary = []
sorts Utf8 = []
sorts Bool = []
sorts Decimal = Number I32 (pos 0) ∷ Number I32 (pos 0) ∷ Number I32 (pos 128) ∷ []
sorts Date = Number I16 (pos 1) ∷ []
sorts Time = Number I16 (pos 1) ∷ Number I32 (pos 32) ∷ []
sorts Timestamp = Number I16 (pos 0) ∷ Text ∷ []
sorts Interval = Number I16 (pos 0) ∷ []
sorts ListKind = []
sorts Struct = []
sorts Union = Number I16 (pos 0) ∷ Numbers ∷ []
sorts FixedSizeBinary = Number I32 (pos 0) ∷ []
sorts FixedSizeList = Number I32 (pos 0) ∷ []
sorts Map = Number Flag (pos 0) ∷ []
sorts Duration = Number I16 (pos 1) ∷ []
sorts LargeBinary = []
sorts LargeUtf8 = []
sorts LargeList = []
sorts RunEndEncoded = []
sorts BinaryView = []
sorts Utf8View = []
sorts ListView = []
sorts LargeListView = []

-- Each kind's own number.
abbrev pub code : Kind → ℕ
code Schema = 0
code Field = 1
code KeyValue = 2
code DictionaryEncoding = 3
code Message = 4
code Null = 5
code Int = 6
code FloatingPoint = 7
code Binary = 8
code Utf8 = 9
code Bool = 10
code Decimal = 11
code Date = 12
code Time = 13
code Timestamp = 14
code Interval = 15
code ListKind = 16
code Struct = 17
code Union = 18
code FixedSizeBinary = 19
code FixedSizeList = 20
code Map = 21
code Duration = 22
code LargeBinary = 23
code LargeUtf8 = 24
code LargeList = 25
code RunEndEncoded = 26
code BinaryView = 27
code Utf8View = 28
code ListView = 29
code LargeListView = 30

-- The kinds that a tag chooses among, in the order of their tags from 1 on.
abbrev pub members : TagOf → List Kind
members FieldType = Null ∷ Int ∷ FloatingPoint ∷ Binary ∷ Utf8 ∷ Bool ∷ Decimal ∷ Date ∷ Time ∷ Timestamp ∷ Interval ∷ ListKind ∷ Struct ∷ Union ∷ FixedSizeBinary ∷ FixedSizeList ∷ Map ∷ Duration ∷ LargeBinary ∷ LargeUtf8 ∷ LargeList ∷ RunEndEncoded ∷ BinaryView ∷ Utf8View ∷ ListView ∷ LargeListView ∷ []
members MessageHeader = Schema ∷ []

-- The kind that a tag chooses; none where the tag is 0 or is not listed.
abbrev pub by_tag : TagOf → ℤ → Option Kind
by_tag t (pos zero) = None
by_tag t (pos (suc n)) = slice_get (members t) n
by_tag t (negsuc n) = None
