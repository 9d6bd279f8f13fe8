-- A list that is cut at a place u: what a change of the list or of the cut does to the two parts.
use Rattle.std.proofs.Common.{◌≡◌, ℕ, zero, suc, ◌+◌, ◌-◌, ◌<◌, ◌≤◌, min, List, [], ◌∷◌, ◌++◌, length, take, drop, set, Some, None, sym, refl, ap, ◌∙◌, ⊎_elim, arith}
use Rattle.std.specs.List.{slice_get}
use Rattle.std.proofs.lemmas.List.{take-append-drop, drop-drop, append_assoc, take_at, drop_at, length-append, length-take, length-drop, drop_all, take_all}
use Rattle.std.proofs.lemmas.Bool.{cases_lt}

pub take_set_lt : {X : Type 0} (u : ℕ) (xs : List X) (i : ℕ) (x : X) → take u (set xs i x) ≡ set (take u xs) i x
take_set_lt zero [] i x = refl
take_set_lt zero (y ∷ xs) i x = refl
take_set_lt (suc u) [] i x = refl
take_set_lt (suc u) (y ∷ xs) zero x = refl
take_set_lt (suc u) (y ∷ xs) (suc i) x = ap (λ ys. y ∷ ys) (take_set_lt u xs i x)

pub rest_is : {X : Type 0} (n u : ℕ) (xs : List X) → n ≤ u → drop n xs ≡ drop n (take u xs) ++ drop u xs
rest_is zero u xs h = sym (take-append-drop u xs)
rest_is (suc n) zero xs h = absurd (omega arith)
rest_is (suc n) (suc u) [] h = refl
rest_is (suc n) (suc u) (x ∷ xs) h = rest_is n u xs (omega arith)

pub nth_take : {X : Type 0} (u : ℕ) (xs : List X) (i : ℕ) → i < u → slice_get (take u xs) i ≡ slice_get xs i
nth_take zero xs i h = absurd (omega arith)
nth_take (suc u) [] i h = refl
nth_take (suc u) (x ∷ xs) zero h = refl
nth_take (suc u) (x ∷ xs) (suc i) h = nth_take u xs i (omega arith)

pub take_own_length : {X : Type 0} (u : ℕ) (xs : List X) → take (length (take u xs)) xs ≡ take u xs
take_own_length zero xs = refl
take_own_length (suc u) [] = refl
take_own_length (suc u) (x ∷ xs) = ap (λ ys. x ∷ ys) (take_own_length u xs)

pub drop_own_length : {X : Type 0} (u : ℕ) (xs : List X) → drop (length (take u xs)) xs ≡ drop u xs
drop_own_length zero xs = refl
drop_own_length (suc u) [] = refl
drop_own_length (suc u) (x ∷ xs) = drop_own_length u xs

module _ {X : Type 0} (a : ℕ) (ps xs : List X) (h : a ≤ length ps) where
  long : length (take a ps ++ xs) ≡ a + length xs
  long = simp (length-append, length-take) (omega arith)

  pub take_placed : take (a + length xs) (take a ps ++ (xs ++ drop (a + length xs) ps)) ≡ take a ps ++ xs
  take_placed = ap (take (a + length xs)) (sym (append_assoc (take a ps) xs (drop (a + length xs) ps))) ∙ take_at (take a ps ++ xs) (drop (a + length xs) ps) (a + length xs) long

  pub drop_placed : drop (a + length xs) (take a ps ++ (xs ++ drop (a + length xs) ps)) ≡ drop (length xs) (drop a ps)
  drop_placed =
      ap (drop (a + length xs)) (sym (append_assoc (take a ps) xs (drop (a + length xs) ps)))
      ∙ drop_at (take a ps ++ xs) (drop (a + length xs) ps) (a + length xs) long
      ∙ sym (drop-drop (length xs) a ps)

-- A part that is cut off at the list's end.
module _ {X : Type 0} (from n : ℕ) (xs : List X) (a size : ℕ) (start : a ≡ min from (length xs)) (sized : size ≡ min n (length xs - a)) where
  inside : from ≤ length xs → take ((a + size) - a) (drop a xs) ≡ take n (drop from xs)
  inside h =
      let same : a ≡ from = omega arith in
      let own : (a + size) - a ≡ length (take n (drop from xs)) = omega (arith, length-take n (drop from xs), length-drop from xs) in
      ap (λ m. take m (drop a xs)) own ∙ ap (λ m. take (length (take n (drop from xs))) (drop m xs)) same ∙ take_own_length n (drop from xs)

  outside : length xs ≤ from → take ((a + size) - a) (drop a xs) ≡ take n (drop from xs)
  outside h =
      ap (take ((a + size) - a)) (drop_all a xs (omega arith)) ∙ take_all ((a + size) - a) [] (omega arith) ∙ sym (ap (take n) (drop_all from xs h) ∙ take_all n [] (omega arith))

  pub clipped : take ((a + size) - a) (drop a xs) ≡ take n (drop from xs)
  clipped = ⊎_elim (λ h. inside (omega arith)) outside (cases_lt from (length xs))

-- Where no element stands.
pub past_end : {X : Type 0} (xs : List X) (i : ℕ) → slice_get xs i ≡ None → length xs ≤ i
past_end [] i e = omega arith
past_end (x ∷ xs) zero e = let z : ◌≡◌ {A = ℕ} 0 1 = cc in absurd (omega arith)
past_end (x ∷ xs) (suc i) e = let h = past_end xs i e in omega arith

-- What is left of a list from one element on.
pub drop_at_none : {X : Type 0} (xs : List X) (i : ℕ) → slice_get xs i ≡ None → drop i xs ≡ []
drop_at_none [] zero e = refl
drop_at_none [] (suc i) e = refl
drop_at_none (x ∷ xs) zero e = let z : ◌≡◌ {A = ℕ} 0 1 = cc in absurd (omega arith)
drop_at_none (x ∷ xs) (suc i) e = drop_at_none xs i e

pub drop_at_some : {X : Type 0} (xs : List X) (i : ℕ) (x : X) → slice_get xs i ≡ Some x → drop i xs ≡ x ∷ drop (i + 1) xs
drop_at_some [] i x e = let z : ◌≡◌ {A = ℕ} 0 1 = cc in absurd (omega arith)
drop_at_some (y ∷ xs) zero x e = let same : y ≡ x = cc in ap (λ z. z ∷ xs) same
drop_at_some (y ∷ xs) (suc i) x e =
    let more : suc i + 1 ≡ suc (i + 1) = omega arith in
    drop_at_some xs i x e ∙ ap (λ n. x ∷ drop n (y ∷ xs)) (sym more)
