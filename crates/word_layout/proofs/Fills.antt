-- A row of words that was written, seen again.
use Rattle.std.proofs.Common.{◌≡◌, ℕ, ◌+◌, ◌*◌, ◌/◌, ◌%◌, ◌<◌, Bool, true, false, cond, ◌&&◌, ltb, List, ◌++◌, map, length, get_or, Some, None, Option, sym, refl, ap, ◌∙◌, subst, arith}
use Rattle.std.specs.List.{range_with_len}
use Rattle.std.proofs.lemmas.List.FromFn.{length-map-range_with_len, get_or-map-range_with_len, fill_by_all}
use Rattle.std.proofs.lemmas.List.{get_or_append_left, length-append, same_lists}
use Rattle.std.proofs.lemmas.Bool.Decides.{nat_tests}
use Rattle.word_layout.specs.Views.{View, standing, seen, element, le_bytes}
use Rattle.word_layout.proofs.Sights.{whole, seen_some, seen_none}

standing_from : (a : Bool) (n m w : ℕ) → a ≡ true → n < m → cond (a && ltb n m) (Some w) None ≡ Some w
standing_from true n m w e h = grind (arith, nat_tests)
standing_from false n m w e h = grind arith

-- the elements of a sight, one by one
same_map : {X : Type 0} (f g : ℕ → X) (n : ℕ) → ((i : ℕ) → i < n → f i ≡ g i) → map f (range_with_len 0 n) ≡ map g (range_with_len 0 n)
same_map f g n e =
    same_lists _ _ (length-map-range_with_len f 0 n ∙ sym (length-map-range_with_len g 0 n))
    (λ k d h. let l : k < n = subst (λ m. k < m) (length-map-range_with_len f 0 n) h in get_or-map-range_with_len f 0 n k k d l (omega arith) ∙ (e k l ∙ sym (get_or-map-range_with_len g 0 n k k d l (omega arith))))

module _ {X : Type 0} (v : View X) where
  -- a row that was written as its head says is seen
  pub seen_from : (xs : List ℕ) (l : List X) (h : ℕ) (d : X) → get_or xs 0 0 ≡ h → v.ok h ≡ true → v.count h ≡ length l → v.size h < length xs → ((i : ℕ) → i < length l → element v xs h i ≡ get_or l i d) → seen v xs ≡ Some l
  seen_from xs l h d e o n s each =
      let st : standing v xs ≡ Some h = subst (λ w. cond (v.ok w && ltb (v.size w) (length xs)) (Some w) None ≡ Some h) (sym e) (standing_from (v.ok h) (v.size h) (length xs) h o s) in
      seen_some v xs h st ∙ ap Some (ap (λ m. map (element v xs h) (range_with_len 0 m)) n ∙ sym (fill_by_all (element v xs h) l (length l) d refl (λ k q. sym (each k q))))

  -- an object stays, whatever comes behind it
  pub seen_append : (inside : (h i : ℕ) → i < v.count h → v.at i < v.size h) (xs ys : List ℕ) (l : List X) → seen v xs ≡ Some l → seen v (xs ++ ys) ≡ Some l
  seen_append inside xs ys l e = go (standing v xs) refl
    where
      go : (o : Option ℕ) → standing v xs ≡ o → seen v (xs ++ ys) ≡ Some l
      go None st = let z : ◌≡◌ {A = ℕ} 0 1 = (let n = seen_none v xs st in cc) in absurd (omega arith)
      go (Some h) st =
          let w = whole v xs h st in
          let in' : v.size h < length xs = rw w.head w.inside in
          let ok' : v.ok h ≡ true = rw w.head w.ok in
          let front : get_or (xs ++ ys) 0 0 ≡ h = get_or_append_left xs ys 0 0 (omega arith) ∙ sym w.head in
          let st' : standing v (xs ++ ys) ≡ Some h = subst (λ w. cond (v.ok w && ltb (v.size w) (length (xs ++ ys))) (Some w) None ≡ Some h) (sym front) (standing_from (v.ok h) (v.size h) (length (xs ++ ys)) h ok' (omega (arith, length-append xs ys))) in
          seen_some v (xs ++ ys) h st' ∙ (ap Some (same_map (element v (xs ++ ys) h) (element v xs h) (v.count h) (λ i q. ap (v.elem h i) (get_or_append_left xs ys 0 (1 + v.at i) (let b = inside h i q in omega arith)))) ∙ (sym (seen_some v xs h st) ∙ e))

pub text_back : (t : List ℕ) (w i : ℕ) → le_bytes w ≡ map (λ b. get_or t (8 * (i / 8) + b) 0) (range_with_len 0 8) → get_or (le_bytes w) (i % 8) 0 ≡ get_or t i 0
text_back t w i e =
    let m : 8 * (i / 8) + i % 8 ≡ i = omega arith in
    ap (λ l. get_or l (i % 8) 0) e ∙ (get_or-map-range_with_len (λ b. get_or t (8 * (i / 8) + b) 0) 0 8 (i % 8) (i % 8) 0 (omega arith) (omega arith) ∙ ap (λ n. get_or t n 0) m)
