-- The number of each refusal of a sheet.
use Rattle.std.specs.Prelude.{ℕ}
use Rattle.rules.specs.declared.refusal.SheetRefusal.{SheetRefusal}
use Rattle.rules.specs.declared.refusal.SheetRefusal.TheVariants.{TooLarge, Counts, TooDeep, Parameter, BadText, RepeatedKey}

abbrev pub refusal_number : SheetRefusal → ℕ
refusal_number TooLarge = 10
refusal_number Counts = 11
refusal_number TooDeep = 12
refusal_number Parameter = 13
refusal_number BadText = 14
refusal_number RepeatedKey = 15
