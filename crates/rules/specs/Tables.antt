-- What a type asks of its field: how many children, and which unit.
use Rattle.std.specs.Prelude.{◌≡◌, ℕ, ◌≤◌, Bool, true, false, ◌==◌, nat_le}
use Rattle.types.specs.declared.TimeUnit.{TimeUnit}
use Rattle.types.specs.declared.TimeUnit.TheVariants.{Second, Millisecond, Microsecond, Nanosecond}
use Rattle.types.specs.declared.DataType.{DataType}
use Rattle.types.specs.declared.DataType.TheVariants.{Null, Boolean, Int8, Int16, Int32, Int64, UInt8, UInt16, UInt32, UInt64, Float16, Float32, Float64, Binary, LargeBinary, BinaryView, Utf8, LargeUtf8, Utf8View, FixedSizeBinary, Date32, Date64, Time32, Time64, Timestamp, Interval, Duration, List, LargeList, ListView, LargeListView, FixedSizeList, Struct, RunEndEncoded, Map, Decimal32, Decimal64, Decimal128, Decimal256, Union}
use Rattle.rules.specs.declared.tables.ChildRule.{ChildRule}
use Rattle.rules.specs.declared.tables.ChildRule.TheVariants.{Leaf, One, Two, Any, OfUnion}

-- The children that a field of each type has.
abbrev pub child_rule : DataType → ChildRule
child_rule Null = Leaf
child_rule Boolean = Leaf
child_rule Int8 = Leaf
child_rule Int16 = Leaf
child_rule Int32 = Leaf
child_rule Int64 = Leaf
child_rule UInt8 = Leaf
child_rule UInt16 = Leaf
child_rule UInt32 = Leaf
child_rule UInt64 = Leaf
child_rule Float16 = Leaf
child_rule Float32 = Leaf
child_rule Float64 = Leaf
child_rule Binary = Leaf
child_rule LargeBinary = Leaf
child_rule BinaryView = Leaf
child_rule Utf8 = Leaf
child_rule LargeUtf8 = Leaf
child_rule Utf8View = Leaf
child_rule (FixedSizeBinary n) = Leaf
child_rule Date32 = Leaf
child_rule Date64 = Leaf
child_rule (Time32 u) = Leaf
child_rule (Time64 u) = Leaf
child_rule (Timestamp u z) = Leaf
child_rule (Interval u) = Leaf
child_rule (Duration u) = Leaf
child_rule List = One
child_rule LargeList = One
child_rule ListView = One
child_rule LargeListView = One
child_rule (FixedSizeList n) = One
child_rule Struct = Any
child_rule RunEndEncoded = Two
child_rule (Map s) = One
child_rule (Decimal32 p s) = Leaf
child_rule (Decimal64 p s) = Leaf
child_rule (Decimal128 p s) = Leaf
child_rule (Decimal256 p s) = Leaf
child_rule (Union m) = OfUnion

-- A union has at most this many children.
abbrev pub max_union_children : ℕ
max_union_children = 128

-- How many children a rule allows: the fact, and the test.
abbrev pub CountFits : ChildRule → ℕ → Type 0
CountFits Leaf n = n ≡ 0
CountFits One n = n ≡ 1
CountFits Two n = n ≡ 2
CountFits Any n = Unit {0}
CountFits OfUnion n = n ≤ max_union_children

abbrev pub count_fits : ChildRule → ℕ → Bool
count_fits Leaf n = n == 0
count_fits One n = n == 1
count_fits Two n = n == 2
count_fits Any n = true
count_fits OfUnion n = nat_le n max_union_children

-- The units of the shorter and of the longer time of day.
abbrev pub coarse : TimeUnit → Bool
coarse Second = true
coarse Millisecond = true
coarse Microsecond = false
coarse Nanosecond = false

abbrev pub fine : TimeUnit → Bool
fine Second = false
fine Millisecond = false
fine Microsecond = true
fine Nanosecond = true

-- Time32 is in seconds or milliseconds, Time64 in microseconds or nanoseconds; other types take any unit they have.
abbrev pub unit_fits : DataType → Bool
unit_fits Null = true
unit_fits Boolean = true
unit_fits Int8 = true
unit_fits Int16 = true
unit_fits Int32 = true
unit_fits Int64 = true
unit_fits UInt8 = true
unit_fits UInt16 = true
unit_fits UInt32 = true
unit_fits UInt64 = true
unit_fits Float16 = true
unit_fits Float32 = true
unit_fits Float64 = true
unit_fits Binary = true
unit_fits LargeBinary = true
unit_fits BinaryView = true
unit_fits Utf8 = true
unit_fits LargeUtf8 = true
unit_fits Utf8View = true
unit_fits (FixedSizeBinary n) = true
unit_fits Date32 = true
unit_fits Date64 = true
unit_fits (Time32 u) = coarse u
unit_fits (Time64 u) = fine u
unit_fits (Timestamp u z) = true
unit_fits (Interval u) = true
unit_fits (Duration u) = true
unit_fits List = true
unit_fits LargeList = true
unit_fits ListView = true
unit_fits LargeListView = true
unit_fits (FixedSizeList n) = true
unit_fits Struct = true
unit_fits RunEndEncoded = true
unit_fits (Map s) = true
unit_fits (Decimal32 p s) = true
unit_fits (Decimal64 p s) = true
unit_fits (Decimal128 p s) = true
unit_fits (Decimal256 p s) = true
unit_fits (Union m) = true
