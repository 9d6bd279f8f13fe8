-- A pair of texts as it stands in a store.
use Rattle.std.specs.Prelude.{◌≡◌, ℕ, List, [], ◌∷◌, Some}
use Rattle.kinds.specs.declared.Kind.TheVariants.{KeyValue}
use Rattle.store.specs.declared.place.TextAt.{TextAt}
use Rattle.store.specs.declared.place.TableAt.{TableAt}
use Rattle.store.specs.declared.place.Slot.TheVariants.{Text}
use Rattle.store.specs.declared.refusal.StoreRefusal.{StoreRefusal}
use Rattle.store.specs.declared.refusal.StoreRefusal.TheVariants.{RoomTooSmall}
use Rattle.store.specs.Meaning.{Meaning}

-- A KeyValue table stands at p, and its slots lead to these two texts.
pub record PairStands (m : Meaning) (p : TableAt) (key value : List ℕ) : Type 0 where
  pub key_at : TextAt
  pub value_at : TextAt
  pub table : m.table KeyValue p ≡ Some (Text key_at ∷ Text value_at ∷ [])
  pub key_is : m.text key_at ≡ Some key
  pub value_is : m.text value_at ≡ Some value

-- The refusal is for want of room.
abbrev pub ForRoom : StoreRefusal → Type 0
ForRoom e = (price : ℕ) × (e ≡ RoomTooSmall price)
