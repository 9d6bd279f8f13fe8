-- A head and the words behind it, as they were laid.
use Rattle.std.proofs.Common.{◌≡◌, ℕ, ◌+◌, ◌-◌, ◌<◌, ◌≤◌, true, List, ◌++◌, length, get_or, take, drop, set, sym, ap, ◌∙◌, subst, arith}
use borrow.Rule.Slice.PartMut.{mid_of, put_mid, same_len_mid}
use Rattle.std.proofs.lemmas.Slice.{take-put_mid, take-put_mid_below, drop-put_mid}
use Rattle.std.proofs.lemmas.List.{get_or-append_right, length-take-le, length-drop, take-take, get_or-drop, get_or-take, get_or-set_same, length-set, take-set-le, drop-set-lt}
use Rattle.word_layout.specs.Views.{View}
use Rattle.word_layout.specs.Words.{Laid, Lays}
use Rattle.word_layout.proofs.Fills.{seen_from}

-- the words of a part that was written as P says
pub laid_part : (P : ℕ → ℕ → Type 0) (ws : List ℕ) (at n k : ℕ) (ys : List ℕ) → k ≡ n → length ys ≡ length (mid_of at k ws) → at + n ≤ length ws → ((j : ℕ) → j < n → P j (get_or ys j 0)) → Laid ws at (put_mid at k ws ys) n P
laid_part P ws at n k ys e same fits each =
    let long : length ys ≡ k = same ∙ length-take-le k (drop at ws) (omega (arith, length-drop at ws)) in
    let front : take (at + n) (put_mid at k ws ys) ≡ take at ws ++ ys = take-put_mid at k ws ys (at + n) (omega arith) (omega arith) in
    let first : length (take at ws) ≡ at = length-take-le at ws (omega arith) in
    let word : (j : ℕ) → j < n → get_or (put_mid at k ws ys) (at + j) 0 ≡ get_or ys j 0 = λ j h.
    let z : at + j - at ≡ j = omega arith in
    sym (get_or-take (at + n) (put_mid at k ws ys) (at + j) 0 (omega arith)) ∙ (ap (λ x. get_or x (at + j) 0) front ∙ (get_or-append_right (take at ws) ys at (at + j) 0 first (omega arith) ∙ ap (λ i. get_or ys i 0) z)) in
    record {
      long = same_len_mid at k ws ys same;
      front = take-put_mid_below at k ws ys at (omega arith) (omega arith);
      back = drop-put_mid at k ws ys (at + n) (omega arith) (omega arith) long;
      each = λ j h. subst (P j) (sym (word j h)) (each j h);
    }

-- a head and the words behind it are an object
pub lays_from : {X : Type 0} (v : View X) (l : List X) (h n : ℕ) (d : X) (P : ℕ → ℕ → Type 0) (ws ws' : List ℕ) (at : ℕ) → at + (1 + n) ≤ length ws →
    Laid (set ws at h) (at + 1) ws' n P → v.ok h ≡ true → v.count h ≡ length l → v.size h ≡ n →
    ((i : ℕ) → i < length l → v.at i < n) → ((i w : ℕ) → i < length l → P (v.at i) w → v.elem h i w ≡ get_or l i d) → Lays v l ws at ws' (1 + n)
lays_from v l h n d P ws ws' at fits laid ok count size inside each =
    let long : length ws' ≡ length ws = laid.long ∙ length-set ws at h in
    let part = drop at (take (at + (1 + n)) ws') in
    let n_take : length (take (at + (1 + n)) ws') ≡ at + (1 + n) = length-take-le (at + (1 + n)) ws' (omega arith) in
    let word : (i : ℕ) → i < 1 + n → get_or part i 0 ≡ get_or ws' (at + i) 0 = λ i q. get_or-drop at (take (at + (1 + n)) ws') i 0 ∙ get_or-take (at + (1 + n)) ws' (at + i) 0 (omega arith) in
    let head : get_or ws' at 0 ≡ h = sym (get_or-take (at + 1) ws' at 0 (omega arith)) ∙ (ap (λ x. get_or x at 0) laid.front ∙ (get_or-take (at + 1) (set ws at h) at 0 (omega arith) ∙ get_or-set_same ws at h 0 (omega arith))) in
    let z : at + 0 ≡ at = omega arith in
    let b : at + 1 + n ≡ at + (1 + n) = omega arith in
    record {
      long = long;
      front = sym (take-take at (at + 1) ws' (omega arith)) ∙ (ap (take at) laid.front ∙ (take-take at (at + 1) (set ws at h) (omega arith) ∙ take-set-le at ws at h (omega arith)));
      back = ap (λ i. drop i ws') (sym b) ∙ (laid.back ∙ (ap (λ i. drop i (set ws at h)) b ∙ drop-set-lt (at + (1 + n)) ws at h (omega arith)));
      stands = seen_from v part l h d (word 0 (omega arith) ∙ (ap (λ x. get_or ws' x 0) z ∙ head)) ok count (omega (arith, length-drop at (take (at + (1 + n)) ws')))
          (λ i q. let b = inside i q in let m : at + (1 + v.at i) ≡ at + 1 + v.at i = omega arith in each i (get_or part (1 + v.at i) 0) q (subst (P (v.at i)) (sym (word (1 + v.at i) (omega arith) ∙ ap (λ x. get_or ws' x 0) m)) (laid.each (v.at i) (omega arith))));
    }
