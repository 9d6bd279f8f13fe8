-- What a row of words means as a store.
use Rattle.std.specs.Prelude.{◌≡◌, ℕ, ◌+◌, ◌*◌, ◌/◌, ◌<◌, ◌≤◌, true, min, List, [], ◌∷◌, ◌++◌, map, length, take, drop, Some, None, Option, Ok, Err, Result, slice_index, slice_index_or, slice_set}
use Rattle.std.specs.List.{range_with_len}
use Rattle.kinds.specs.declared.Kind.{Kind}
use Rattle.kinds.specs.Slots.{sorts}
use Rattle.store.specs.declared.place.Slot.{Slot}
use Rattle.store.specs.declared.place.Slot.TheVariants.{Absent}
use Rattle.store.specs.Meaning.{Meaning, Object, slots_typed, the_text, the_tables, the_numbers, the_table}
use Rattle.store.specs.State.{State}
use Rattle.store.specs.declared.refusal.StoreRefusal.{StoreRefusal}
use Rattle.store.specs.declared.refusal.StoreRefusal.TheVariants.{RoomTooSmall}
use Rattle.word_layout.specs.Lists.{list_size, ListWord}
use Rattle.word_layout.specs.Views.{View, le_bytes, seen, text_view, list_view, tables_view, numbers_view, table_view, table_mark, mask_of, raw_of, Placed}

-- An object stands at a place where its head and all the words behind it are in the row.
abbrev pub words_meaning : List ℕ → Meaning
words_meaning ws =
    record {
      text = λ p. seen text_view (drop p.0 ws);
      tables = λ p. seen tables_view (drop p.0 ws);
      numbers = λ p. seen numbers_view (drop p.0 ws);
      table = λ k p. seen (table_view k) (drop p.0 ws);
    }

-- How many words come behind an object's head.
abbrev pub words_behind : Object → ℕ
words_behind (the_text t) = (length t + 7) / 8
words_behind (the_tables k l) = list_size (length l)
words_behind (the_numbers l) = list_size (length l)
words_behind (the_table k l) = length (sorts k)

-- A price is 8 for each word.
abbrev pub words_price : Object → ℕ
words_price o = 8 * (1 + words_behind o)

-- How many words may be used.
abbrev pub limit : List ℕ → ℕ
limit ws = min (length ws) 65536

-- How many are: a count above the limit stands for all of them.
abbrev pub used_words : List ℕ → ℕ → ℕ
used_words ws used = min used (limit ws)

unfoldable pub bytes : List ℕ → List ℕ
bytes [] = []
bytes (w ∷ ws) = le_bytes w ++ bytes ws

-- The state of a store over these words, of which so many from the front are used. Every row of words with any count is one.
abbrev pub words_state : List ℕ → ℕ → State
words_state ws used =
    record {
      size = 8 * limit ws;
      height = 8 * used_words ws used;
      under = λ h. words_meaning (take (h / 8) ws);
      price = words_price;
      free = bytes (drop (used_words ws used) (take (limit ws) ws));
    }

-- k words were written from a place on, the j-th of them as P says, and no other.
pub record Laid (ws : List ℕ) (at : ℕ) (ws' : List ℕ) (k : ℕ) (P : ℕ → ℕ → Type 0) : Type 0 where
  pub long : length ws' ≡ length ws
  pub front : take at ws' ≡ take at ws
  pub back : drop (at + k) ws' ≡ drop (at + k) ws
  pub each : (j : ℕ) → j < k → P j (slice_index ws' (at + j))

-- An object was laid at a place, in n words, and no other word was written.
pub record Lays {X : Type 0} (v : View X) (l : List X) (ws : List ℕ) (at : ℕ) (ws' : List ℕ) (n : ℕ) : Type 0 where
  pub long : length ws' ≡ length ws
  pub front : take at ws' ≡ take at ws
  pub back : drop (at + n) ws' ≡ drop (at + n) ws
  pub stands : seen v (drop at (take (at + n) ws')) ≡ Some l

-- What laying an object with this head answers, where its n words behind the head are as P says: how many words it takes, where they fit in the words that may be used; else none, and nothing is written.
abbrev pub LaidIf : ℕ → ℕ → (ℕ → ℕ → Type 0) → List ℕ → ℕ → List ℕ → Option ℕ → Type 0
LaidIf h n P ws at ws' (Some m) = (m ≡ 1 + n) × (at + (1 + n) ≤ limit ws) × Laid (slice_set ws at h) (at + 1) ws' n P
LaidIf h n P ws at ws' None = (limit ws < at + (1 + n)) × (ws' ≡ ws)

-- What the k-th word behind a text's head is.
abbrev pub TextWord : List ℕ → ℕ → ℕ → Type 0
TextWord t k w = le_bytes w ≡ map (λ j. slice_index t (8 * k + j)) (range_with_len 0 8)

-- What the k-th word behind a table's head is.
abbrev pub SlotWord : List Slot → ℕ → ℕ → Type 0
SlotWord l k w = (w ≡ raw_of (slice_index_or l k Absent)) × Placed (slice_index_or l k Absent)

-- The head of a table with these slots.
abbrev pub table_head : Kind → List Slot → ℕ
table_head k l = table_mark k + 256 * mask_of l

-- A table's head and the words of its slots were laid at a place, and no other word was written.
abbrev pub TableLaid : Kind → List Slot → List ℕ → ℕ → List ℕ → Type 0
TableLaid k l ws at ws' = Laid (slice_set ws at (table_head k l)) (at + 1) ws' (length l) (SlotWord l)

-- Where a text was laid it stands, and no other word was written.
abbrev pub TextsStand : Type 0
TextsStand = (t : List ℕ) (ws ws' : List ℕ) (at n : ℕ) → LaidIf (1 + 8 * length t) ((length t + 7) / 8) (TextWord t) ws at ws' (Some n) → Lays text_view t ws at ws' n

-- So does a list, whose elements are told from their bits by `of`.
abbrev pub ListsStand : {X : Type 0} → (ℕ → X) → ℕ → Type 0
ListsStand {X} of mark = (l : List X) (ws ws' : List ℕ) (at n : ℕ) → LaidIf (mark + 8 * length l) (list_size (length l)) (ListWord of l) ws at ws' (Some n) → Lays (list_view of mark) l ws at ws' n

-- So does a table whose slots hold what their sorts say.
abbrev pub TablesStand : Type 0
TablesStand = (k : Kind) (l : List Slot) (ws ws' : List ℕ) (at n : ℕ) → slots_typed (sorts k) l ≡ true → LaidIf (table_head k l) (length l) (SlotWord l) ws at ws' (Some n) → Lays (table_view k) l ws at ws' n

-- What laying an object behind the used words answers: its place, with so many words more used; else its price, which does not fit, and all is as it was.
abbrev pub LaidBehind : ℕ → ℕ → (ℕ → ℕ → Type 0) → List ℕ → ℕ → List ℕ → ℕ → Result ℕ StoreRefusal → Type 0
LaidBehind h n P ws used ws' used' (Ok p) = (p ≡ used_words ws used) × (used' ≡ p + (1 + n)) × (p + (1 + n) ≤ limit ws) × Laid (slice_set ws p h) (p + 1) ws' n P
LaidBehind h n P ws used ws' used' (Err e) = (e ≡ RoomTooSmall (8 * (1 + n))) × (limit ws < used_words ws used + (1 + n)) × (ws' ≡ ws) × (used' ≡ used)
