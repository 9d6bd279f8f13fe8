-- How the elements of a list, 32 bits each, lie in the words behind its head: one to a word, in its low half.
use Rattle.std.specs.Prelude.{◌≡◌, ℕ, ◌%◌, ◌<◌, List, length, slice_index_or}

-- How many words n elements take.
unfoldable pub list_size : ℕ → ℕ
list_size n = n

-- In which of these words an element is.
unfoldable pub list_word : ℕ → ℕ
list_word i = i

-- The bits of an element in its word.
unfoldable pub list_part : ℕ → ℕ → ℕ
list_part i w = w % 4294967296

-- The k-th word of a list holds each element that is in it, where `of` tells an element from its bits.
abbrev pub ListWord : {X : Type 0} → (ℕ → X) → List X → ℕ → ℕ → Type 0
ListWord of l k w = (i : ℕ) → i < length l → list_word i ≡ k → of (list_part i w) ≡ slice_index_or l i (of 0)
