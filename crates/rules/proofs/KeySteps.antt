-- Steps of the test that keys differ.
use Rattle.std.proofs.Common.{◌≡◌, ℕ, zero, suc, true, false, not, List, [], ◌∷◌, length, is_some, Some, None, Option, sym, refl, ap, ◌∙◌, ⊎_elim, arith}
use Rattle.std.specs.List.{slice_get}
use Rattle.std.specs.Str.{bytes_eq}
use Rattle.std.proofs.lemmas.Slice.Eq.{bytes_eq-Decides}
use Rattle.std.proofs.lemmas.Bool.{and_parts, and_from, and_left, and_right, leb-true, cases_Bool, not_from_true, not_from_false}
use Rattle.types.specs.declared.Text.{Text}
use Rattle.types.specs.declared.Pair.{Pair}
use Rattle.sheet.specs.Texts.{said, Within, Spells, NoneBefore, First}
use Rattle.rules.specs.Tests.{text_fits, pair_fits, every, keys, lacks}

module _ (bytes : List ℕ) where
  pub text_within : (t : Text) → text_fits bytes t ≡ true → Within bytes t
  text_within t e = leb-true _ _ (and_parts _ _ e).0

  pub key_within : (p : Pair) → pair_fits bytes p ≡ true → Within bytes p.key
  key_within p e = text_within p.key (and_parts _ _ e).0

  module _ (key : List ℕ) where
    lacks_none : (ps : List Pair) → every (pair_fits bytes) ps ≡ true → NoneBefore (λ p. Spells bytes p.key key) ps (length ps) → lacks key (keys bytes ps) ≡ true
    lacks_none [] fit before = refl
    lacks_none (p ∷ ps) fit before =
        let parts = and_parts (pair_fits bytes p) (every (pair_fits bytes) ps) fit in
        let apart : bytes_eq (said bytes p.key) key ≡ false =
        ⊎_elim (λ e. absurd (before 0 p (omega arith) refl (key_within p parts.0, (bytes_eq-Decides (said bytes p.key) key).0 e))) (λ e. e) (cases_Bool (bytes_eq (said bytes p.key) key)) in
        and_from _ _ (not_from_false _ apart) (lacks_none ps parts.1 (λ k e h q s. before (suc k) e (omega arith) q s))

    lacks_found : (ps : List Pair) (j : ℕ) (p : Pair) → slice_get ps j ≡ Some p → said bytes p.key ≡ key → lacks key (keys bytes ps) ≡ false
    lacks_found [] j p at e = let z : ◌≡◌ {A = ℕ} 0 1 = cc in absurd (omega arith)
    lacks_found (x ∷ ps) zero p at e =
        let same : x ≡ p = cc in
        and_left _ _ (not_from_true _ ((bytes_eq-Decides (said bytes x.key) key).1 (ap (λ y. said bytes y.key) same ∙ e)))
    lacks_found (x ∷ ps) (suc j) p at e = and_right _ _ (lacks_found ps j p at e)

    -- The search for a key tells whether it is lacking.
    pub lacks_told : (ps : List Pair) (r : Option ℕ) → every (pair_fits bytes) ps ≡ true → First (λ p. Spells bytes p.key key) ps r → not (is_some r) ≡ lacks key (keys bytes ps)
    lacks_told ps None fit f = sym (lacks_none ps fit f)
    lacks_told ps (Some j) fit f = sym (lacks_found ps j f.0.0 f.0.1 f.0.2.1)
