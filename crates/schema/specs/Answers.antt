-- What the calls on schemas promise.
use Rattle.std.specs.Prelude.{◌≡◌, ℕ, ◌<◌, Bool, List, ◌++◌, length, drop, ℤ, Some, Decides}
use Rattle.sheet.specs.Contents.{Content}
use Rattle.sheet.specs.Schemas.{Schema, Holds}
use Rattle.rules.specs.Verdict.{verdict}
use Rattle.schema.specs.declared.numbers.NumbersRefusal.{NumbersRefusal}
use Rattle.schema.specs.declared.numbers.NumbersRefusal.TheVariants.{OfSheet, Full}

-- An answer tells whether two sheets hold alike schemas.
abbrev pub TellsAlike : Content → Content → Bool → Type 0
TellsAlike a b r = (s t : Schema) (m n : List ℤ) → Holds a s m → Holds b t n → Decides r (s ≡ t)

-- The dictionary numbers of a sheet's schema were added to a roll behind what stood there.
pub record Laid (c : Content) (items_before free_before items_after free_after : List ℤ) : Type 0 where
  pub schema : Schema
  pub numbers : List ℤ
  pub holds : Holds c schema numbers
  pub items : items_after ≡ items_before ++ numbers
  pub free : free_after ≡ drop (length numbers) free_before

-- Why numbers are not told: the sheet breaks a rule, or the roll has fewer free places than there are numbers.
abbrev pub WhyNot : Content → ℕ → NumbersRefusal → Type 0
WhyNot c places (OfSheet e) = verdict c ≡ Some e
WhyNot c places Full = (schema : Schema) × (numbers : List ℤ) × Holds c schema numbers × (places < length numbers)
