-- A row with each node changed has the same counts.
use Rattle.std.proofs.Common.{◌≡◌, ℕ, suc, ◌∷◌, ◌++◌, map, sym, refl, ap, ◌∙◌}
use Rattle.std.proofs.lemmas.List.{map-append}
use Rattle.sheet.specs.Forests.{Forest, none, tree, width, counted, mapped_forest}

module _ {A B : Type 0} (h : A → B) where
  width_mapped : (g : Forest A) → width (mapped_forest h g) ≡ width g
  width_mapped none = refl
  width_mapped (tree x kids rest) = ap suc (width_mapped rest)

  pub counted_mapped : (g : Forest A) → counted (mapped_forest h g) ≡ map (λ p. (h p.0, p.1)) (counted g)
  counted_mapped none = refl
  counted_mapped (tree x kids rest) =
      ap (λ n. (h x, n) ∷ (counted (mapped_forest h kids) ++ counted (mapped_forest h rest))) (width_mapped kids)
      ∙ ap (λ l. (h x, width kids) ∷ l)
      (ap (λ l. l ++ counted (mapped_forest h rest)) (counted_mapped kids) ∙ ap (λ l. map (λ (p : A × ℕ). (h p.0, p.1)) (counted kids) ++ l) (counted_mapped rest)
      ∙ sym (map-append (λ (p : A × ℕ). (h p.0, p.1)) (counted kids) (counted rest)))
