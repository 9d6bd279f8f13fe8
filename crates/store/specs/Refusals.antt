-- The number of each refusal of a put.
use Rattle.std.specs.Prelude.{ℕ}
use Rattle.store.specs.declared.refusal.StoreRefusal.{StoreRefusal}
use Rattle.store.specs.declared.refusal.StoreRefusal.TheVariants.{RoomTooSmall, Misfilled}

abbrev pub refusal_number : StoreRefusal → ℕ
refusal_number (RoomTooSmall price) = 21
refusal_number Misfilled = 22
