-- The laws of how lists lie in words. What uses lists uses these alone.
use Rattle.std.proofs.Common.{◌≡◌, ℕ, ◌*◌, ◌%◌, ◌<◌, ◌≤◌, List, get_or, sym, ap, ◌∙◌, arith}
use Rattle.std.proofs.lemmas.List.{get_or_default}
use Rattle.word_layout.specs.Lists.{list_size, list_word, list_part, ListWord}

-- An element is in one of the words of its list.
pub list_inside : (n i : ℕ) → i < n → list_word i < list_size n
unfolding list_word list_size
list_inside n i h = h

-- A list takes at most a word for each element.
pub list_small : (n : ℕ) → list_size n ≤ n
unfolding list_size
list_small n = omega arith

-- It takes at least half a word for each.
pub list_large : (n : ℕ) → n ≤ 2 * list_size n
unfolding list_size
list_large n = omega arith

-- A word with the bits of an element, and nothing above them, is the element's word.
pub list_holds : {X : Type 0} (of : ℕ → X) (l : List X) (k b : ℕ) (x : X) → b < 4294967296 → of b ≡ x → x ≡ get_or l k x → ListWord of l k b
unfolding list_word list_part
list_holds of l k b x small e is i h q =
    let z : b % 4294967296 ≡ b = omega arith in
    ap of z ∙ (e ∙ (is ∙ (ap (λ j. get_or l j x) (sym q) ∙ get_or_default l i x (of 0) h)))
