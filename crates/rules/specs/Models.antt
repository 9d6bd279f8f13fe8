-- What the memory of the check stands for.
use Rattle.std.specs.Prelude.{ℕ, ◌+◌, ◌≤◌, List, length, take, Some, None, Ok, Err, Option, Result}
use Rattle.rules.specs.declared.refusal.SheetRefusal.{SheetRefusal}
use Rattle.rules.specs.declared.noted.Noted.{Noted}
use Rattle.rules.specs.declared.siblings.Siblings.{Siblings}
use Rattle.sheet.specs.declared.unread.Unread.{Unread}
use Rattle.rules.specs.Sites.{Row, plain, inside_union}
use Rattle.rules.specs.Verdict.{Ahead, Walked}

-- The type ids noted so far.
abbrev pub ids_of : Noted → List ℕ
ids_of n = take n.len n.ids

-- A row with these type ids so far, where it is a union's.
abbrev pub row_with : Option Noted → Row
row_with None = plain
row_with (Some noted) = inside_union (ids_of noted)

-- The row up to a field.
abbrev pub row_of : Siblings → Row
row_of s = row_with s.noted

-- A row has a place for the ids of m fields more.
abbrev pub HasRoom : Row → ℕ → Type 0
HasRoom plain m = Unit {0}
HasRoom (inside_union ids) m = length ids + m ≤ 128

-- What is ahead of a walk.
abbrev pub ahead : Unread → Ahead
ahead a = record { records = a.records.now; pairs = a.pairs.now }

-- How far a walk came.
abbrev pub walked : Result Unread SheetRefusal → Walked
walked (Ok a) = Ok (ahead a)
walked (Err e) = Err e

-- The refusal that an answer tells, or none.
abbrev pub told : {T : Type 0} → Result T SheetRefusal → Option SheetRefusal
told (Ok x) = None
told (Err e) = Some e
