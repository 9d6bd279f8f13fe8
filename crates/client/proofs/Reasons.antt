-- Why a put of a filled object is refused.
use Rattle.std.proofs.Common.{◌≡◌, ℕ, true, false, ◌&&◌, List, [], ◌∷◌, is_some, Some, Ok, Err, Result, sym, refl, ◌∙◌, ap₂, arith, MatchResult}
use Rattle.kinds.specs.declared.Kind.TheVariants.{KeyValue}
use Rattle.store.specs.declared.place.TextAt.{TextAt}
use Rattle.store.specs.declared.place.Slot.TheVariants.{Text}
use Rattle.store.specs.declared.refusal.StoreRefusal.{StoreRefusal}
use Rattle.store.specs.declared.refusal.StoreRefusal.TheVariants.{RoomTooSmall, Misfilled}
use Rattle.store.specs.Meaning.{Meaning, Object, Place, the_table, filled}
use Rattle.store.specs.State.{State, Puts, Put, Refuses, Why, Later, held}
use Rattle.store.proofs.Laters.{later_puts, later_refuses}
use Rattle.client.specs.Pairs.{ForRoom}

why_room : (o : Object) (a : State) (e : StoreRefusal) → filled (held a) o ≡ true → Why o a e → ForRoom e
why_room o a (RoomTooSmall n) f w = (n, refl)
why_room o a Misfilled f w = let z : true ≡ false = sym f ∙ w in grind arith

pub for_room : {o : Object} {a b : State} {e : StoreRefusal} → filled (held a) o ≡ true → Refuses o a b e → ForRoom e
for_room {o} {a} {b} {e} f r = why_room o a e f r.why

-- A table of two texts that stand is filled.
pub pair_fills : (m : Meaning) (k v : TextAt) {key value : List ℕ} → m.text k ≡ Some key → m.text v ≡ Some value → filled m (the_table KeyValue (Text k ∷ Text v ∷ [])) ≡ true
pair_fills m k v e f = ap₂ (λ x y. is_some x && (is_some y && true)) e f

-- A put, whether it is refused or not, makes a later state.
pub put_later : (o : Object) (a b : State) (r : Result (Place o) StoreRefusal) → Put o a b r → Later a b
put_later o a b (Ok p) h = later_puts h
put_later o a b (Err e) h = later_refuses h

-- A put of a filled object does what a put does, or is refused for want of room.
pub put_cases : (o : Object) (a b : State) (P : Place o → Type 0) (r : Result (Place o) StoreRefusal) → Put o a b r → filled (held a) o ≡ true → ((p : Place o) → Puts o a b p → P p) → MatchResult r P ForRoom
put_cases o a b P (Ok p) h f g = g p h
put_cases o a b P (Err e) h f g = for_room f h
