-- Steps of the sums of text lengths.
use Rattle.std.proofs.Common.{◌≡◌, ℕ, ◌+◌, ◌<◌, ◌≤◌, List, length, get_or, drop, sum_by, arith}
use Rattle.std.proofs.lemmas.List.{at_drop_all}
use Rattle.std.proofs.lemmas.List.Sums.{sum_by-drop_more}

module _ {X : Type 0} (f : X → ℕ) (xs : List X) (i total : ℕ) where
  pub sum_more : (r s : ℕ) (d : X) → i < length xs → r ≡ f (get_or xs i d) → total + sum_by f (drop i xs) ≡ s → (total + r) + sum_by f (drop (i + 1) xs) ≡ s
  sum_more r s d h e sums = omega (arith, sum_by-drop_more f xs i d h)

  pub sum_done : (s : ℕ) → length xs ≤ i → total + sum_by f (drop i xs) ≡ s → total ≡ s
  sum_done s h sums = omega (arith, at_drop_all (sum_by f) xs i h)
