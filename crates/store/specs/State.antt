-- The state of a store that is written, and what its calls do to it.
use Rattle.std.specs.Prelude.{◌≡◌, ℕ, ◌+◌, ◌-◌, ◌*◌, ◌%◌, ◌<◌, ◌≤◌, Bool, true, false, ◌&&◌, List, ◌++◌, length, drop, replicate, Ok, Err, Result, ◌==◌, nat_le}
use Rattle.kinds.specs.Slots.{sorts}
use Rattle.store.specs.declared.refusal.StoreRefusal.{StoreRefusal}
use Rattle.store.specs.declared.refusal.StoreRefusal.TheVariants.{RoomTooSmall, Misfilled}
use Rattle.store.specs.Meaning.{Meaning, Grows, Nothing, Object, Place, Stands, filled, the_text, the_tables, the_numbers, the_table}

-- Sizes and heights are in bytes. `under h` is what stands after a cut to the height h. `free` has the bytes of free memory, in the order in which puts take them.
pub record State : Type 0 where
  pub size : ℕ
  pub height : ℕ
  pub under : ℕ → Meaning
  pub price : Object → ℕ
  pub free : List ℕ

-- What stands now.
abbrev pub held : State → Meaning
held s = s.under s.height

abbrev pub room : State → ℕ
room s = s.size - s.height

-- A price is at most this.
abbrev pub most : Object → ℕ
most (the_text t) = length t + 16
most (the_tables k l) = 8 * length l + 16
most (the_numbers l) = 8 * length l + 16
most (the_table k l) = 10 * length (sorts k) + 24

-- What holds of every store that is written, however it was made.
pub record Sound (s : State) : Type 0 where
  pub within : s.height ≤ s.size
  pub whole_height : s.height % 8 ≡ 0
  pub whole_size : s.size % 8 ≡ 0
  pub grows : (h k : ℕ) → h ≤ k → k ≤ s.height → Grows (s.under h) (s.under k)
  pub cheap : (o : Object) → s.price o ≤ most o
  pub free : length s.free ≡ room s

-- All free memory is zero.
abbrev pub Clear : State → Type 0
Clear s = s.free ≡ replicate (room s) 0

-- A store that was just made: nothing is in it, all of its memory is room, and zero.
pub record Fresh (s : State) (bytes : ℕ) : Type 0 where
  pub size : s.size ≡ bytes
  pub height : s.height ≡ 0
  pub empty : Nothing (held s)
  pub clear : Clear s

-- The object was put at p: it stands there, it was paid from the front of free memory, and what a cut to an earlier height brings back is as before.
pub record Puts (o : Object) (a b : State) (p : Place o) : Type 0 where
  pub fills : filled (held a) o ≡ true
  pub size : b.size ≡ a.size
  pub paid : b.height ≡ a.height + a.price o
  pub kept : (h : ℕ) → h ≤ a.height → b.under h ≡ a.under h
  pub stands : Stands (held b) o p
  pub free : b.free ≡ drop (a.price o) a.free

-- Why the object was not put: it is misfilled; or else its price, which is told, is above the room.
abbrev pub Why : Object → State → StoreRefusal → Type 0
Why o a Misfilled = filled (held a) o ≡ false
Why o a (RoomTooSmall price) = (filled (held a) o ≡ true) × (price ≡ a.price o) × (room a < price)

pub record Refuses (o : Object) (a b : State) (e : StoreRefusal) : Type 0 where
  pub same : b ≡ a
  pub why : Why o a e

-- What a put answers.
abbrev pub Put : (o : Object) → State → State → Result (Place o) StoreRefusal → Type 0
Put o a b (Ok p) = Puts o a b p
Put o a b (Err e) = Refuses o a b e

-- The numbers that a cut takes.
abbrev pub cuttable : State → ℕ → Bool
cuttable a h = nat_le h a.height && h % 8 == 0

-- The store was cut to the height h, and what it frees is zero.
pub record Cuts (a b : State) (h : ℕ) : Type 0 where
  pub size : b.size ≡ a.size
  pub height : b.height ≡ h
  pub kept : (k : ℕ) → k ≤ h → b.under k ≡ a.under k
  pub free : b.free ≡ replicate (a.height - h) 0 ++ a.free

pub record Cut (a b : State) (h : ℕ) : Type 0 where
  pub takes : cuttable a h ≡ true → Cuts a b h
  pub leaves : cuttable a h ≡ false → b ≡ a

-- b came from a by puts, and by cuts that did not go below a.
pub record Later (a b : State) : Type 0 where
  pub size : b.size ≡ a.size
  pub up : a.height ≤ b.height
  pub kept : (h : ℕ) → h ≤ a.height → b.under h ≡ a.under h
  pub clear : Clear a → Clear b
