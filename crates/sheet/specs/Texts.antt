-- What a text says, and the first element of a list with a given text.
use Rattle.std.specs.Prelude.{◌≡◌, ℕ, ◌+◌, ◌<◌, ◌≤◌, List, length, take, drop, Some, None, Option}
use Rattle.std.specs.List.{slice_get}
use Rattle.types.specs.declared.Text.{Text}

-- The bytes of a text.
abbrev pub said : List ℕ → Text → List ℕ
said bytes t = take t.len (drop t.start bytes)

-- A text lies wholly within the bytes.
abbrev pub Within : List ℕ → Text → Type 0
Within bytes t = t.start + t.len ≤ length bytes

-- A text says just these bytes; one that leaves the bytes says nothing.
abbrev pub Spells : List ℕ → Text → List ℕ → Type 0
Spells bytes t wanted = Within bytes t × (said bytes t ≡ wanted)

-- No element before the place n has P.
abbrev pub NoneBefore : {E : Type 0} → (E → Type 0) → List E → ℕ → Type 0
NoneBefore {E} P xs n = (k : ℕ) (e : E) → k < n → slice_get xs k ≡ Some e → P e → ⊥

-- The place of the first element that has P, or none.
abbrev pub First : {E : Type 0} → (E → Type 0) → List E → Option ℕ → Type 0
First {E} P xs None = NoneBefore P xs (length xs)
First {E} P xs (Some i) = ((e : E) × (slice_get xs i ≡ Some e) × P e) × NoneBefore P xs i
