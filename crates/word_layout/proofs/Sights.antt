-- What a view sees, by its head.
use Rattle.std.proofs.Common.{◌≡◌, ℕ, ◌+◌, ◌<◌, ◌≤◌, Bool, true, false, cond, ◌&&◌, ltb, List, map, length, get_or, drop, Some, None, Option, refl, sym, ap, ◌∙◌, arith}
use Rattle.std.specs.List.{range_with_len}
use Rattle.std.specs.Option.{option_map}
use Rattle.std.proofs.lemmas.List.FromFn.{length-map-range_with_len, get_or-map-range_with_len}
use Rattle.std.proofs.lemmas.Option.{slice_get-get_or, slice_get_past}
use Rattle.std.proofs.lemmas.List.{get_or-drop, length-drop}
use Rattle.std.proofs.lemmas.Bool.Decides.{nat_tests}
use Rattle.store.specs.Meaning.{picked}
use Rattle.word_layout.specs.Views.{View, standing, seen, element}

-- a whole object's head is the first word, and it reaches
pub record Whole {X : Type 0} (v : View X) (xs : List ℕ) (h : ℕ) : Type 0 where
  pub ok : v.ok (get_or xs 0 0) ≡ true
  pub inside : v.size (get_or xs 0 0) < length xs
  pub head : h ≡ get_or xs 0 0

whole_cases : (a : Bool) (n m w h : ℕ) → cond (a && ltb n m) (Some w) None ≡ Some h → (a ≡ true) × (n < m) × (h ≡ w)
whole_cases true n m w h e = grind (arith, nat_tests)
whole_cases false n m w h e = grind arith

module _ {X : Type 0} (v : View X) (xs : List ℕ) where
  pub whole : (h : ℕ) → standing v xs ≡ Some h → Whole v xs h
  whole h e = let t = whole_cases (v.ok (get_or xs 0 0)) (v.size (get_or xs 0 0)) (length xs) (get_or xs 0 0) h e in record { ok = t.0; inside = t.1; head = t.2 }

  pub seen_some : (h : ℕ) → standing v xs ≡ Some h → seen v xs ≡ Some (map (element v xs h) (range_with_len 0 (v.count h)))
  seen_some h e = ap (option_map (λ h. map (element v xs h) (range_with_len 0 (v.count h)))) e

  pub seen_none : standing v xs ≡ None → seen v xs ≡ None
  seen_none e = ap (option_map (λ h. map (element v xs h) (range_with_len 0 (v.count h)))) e

  -- how many elements are seen, by the head
  pub seen_length : option_map v.count (standing v xs) ≡ option_map length (seen v xs)
  seen_length = go (standing v xs)
    where
      go : (o : Option ℕ) → option_map v.count o ≡ option_map length (option_map (λ h. map (element v xs h) (range_with_len 0 (v.count h))) o)
      go None = refl
      go (Some h) = ap Some (sym (length-map-range_with_len (element v xs h) 0 (v.count h)))

  pub pick_some : (h i : ℕ) → standing v xs ≡ Some h → i < v.count h → picked (seen v xs) i ≡ Some (element v xs h i)
  pick_some h i e l =
      let f = element v xs h in
      let n : length (map f (range_with_len 0 (v.count h))) ≡ v.count h = length-map-range_with_len f 0 (v.count h) in
      ap (λ o. picked o i) (seen_some h e) ∙ (slice_get-get_or (map f (range_with_len 0 (v.count h))) i (f 0) (omega arith) ∙ ap Some (get_or-map-range_with_len f 0 (v.count h) i i (f 0) l (omega arith)))

  pub pick_past : (h i : ℕ) → standing v xs ≡ Some h → v.count h ≤ i → picked (seen v xs) i ≡ None
  pick_past h i e l =
      let f = element v xs h in
      let n : length (map f (range_with_len 0 (v.count h))) ≡ v.count h = length-map-range_with_len f 0 (v.count h) in
      ap (λ o. picked o i) (seen_some h e) ∙ slice_get_past (map f (range_with_len 0 (v.count h))) i (omega arith)

-- the same, of a place in a row
module _ {X : Type 0} (v : View X) (ws : List ℕ) (p h : ℕ) where
  pub reach : Some h ≡ standing v (drop p ws) → p + v.size h < length ws
  reach e =
      let w = whole v (drop p ws) h (sym e) in
      let n : v.size h < length (drop p ws) = rw w.head w.inside in
      omega (arith, length-drop p ws)

  pub pick_at : (i : ℕ) → Some h ≡ standing v (drop p ws) → i < v.count h → Some (v.elem h i (get_or ws (p + 1 + v.at i) 0)) ≡ picked (seen v (drop p ws)) i
  pick_at i e l =
      let r : get_or (drop p ws) (1 + v.at i) 0 ≡ get_or ws (p + 1 + v.at i) 0 = get_or-drop p ws (1 + v.at i) 0 ∙ ap (λ j. get_or ws j 0) (omega arith) in
      ap (λ w. Some (v.elem h i w)) (sym r) ∙ sym (pick_some v (drop p ws) h i (sym e) l)
