-- Whether places and slots are filled, asked of one after another.
use Rattle.std.proofs.Common.{◌≡◌, ℕ, suc, ◌+◌, ap₂, false, ◌&&◌, List, [], ◌∷◌, length, slice_get, is_some, Some, None, Option, sym, refl, ap, ◌∙◌, arith}
use Rattle.std.proofs.lemmas.Bool.{and_right}
use Rattle.std.specs.List.{list_all, range_with_len}
use Rattle.std.specs.Option.{option_map}
use Rattle.kinds.specs.declared.Kind.{Kind}
use Rattle.kinds.specs.declared.Sort.{Sort}
use Rattle.store.specs.declared.place.TableAt.{TableAt}
use Rattle.store.specs.declared.place.Slot.{Slot}
use Rattle.store.specs.Meaning.{Meaning, picked, tables_fit, tables_stand, element_fits, slots_fit, slot_fits}

-- A table of the kind stands at each place.
pub tables_all : (m : Meaning) (k : Kind) (ps : List TableAt) → list_all (λ p. is_some (m.table k p)) ps ≡ tables_fit m k ps
tables_all m k [] = refl
tables_all m k (p ∷ ps) = ap (λ b. is_some (m.table k p) && b) (tables_all m k ps)

-- The same, of the elements of a list that stands, each by its index from i on.
elements_all : (m : Meaning) (k : Kind) (all ps : List TableAt) (i : ℕ) → ((j : ℕ) → slice_get ps j ≡ slice_get all (i + j)) → list_all (λ j. element_fits m k (slice_get all j)) (range_with_len i (length ps)) ≡ tables_fit m k ps
elements_all m k all [] i e = refl
elements_all m k all (p ∷ ps) i e =
    let here : Some p ≡ slice_get all i = e 0 ∙ ap (slice_get all) (omega arith) in
    ap₂ (λ a b. a && b) (sym (ap (element_fits m k) here)) (elements_all m k all ps (i + 1) (λ j. e (suc j) ∙ ap (slice_get all) (omega arith)))

pub stands_all : (m : Meaning) (k : Kind) (o : Option (List TableAt)) (n : ℕ) → Some n ≡ option_map length o → list_all (λ i. element_fits m k (picked o i)) (range_with_len 0 n) ≡ tables_stand m k o
stands_all m k None n e = let z : ◌≡◌ {A = ℕ} 0 1 = cc in absurd (omega arith)
stands_all m k (Some ps) n e =
    let q : n ≡ length ps = cc in
    ap (λ j. list_all (λ i. element_fits m k (slice_get ps i)) (range_with_len 0 j)) q ∙ elements_all m k ps ps 0 (λ j. ap (slice_get ps) (omega arith))

-- As many as the kind has, or it is misfilled.
pub slots_length : (m : Meaning) (before : Slot) (sos : List Sort) (ss : List Slot) → (length ss ≡ length sos → ⊥) → false ≡ slots_fit m before sos ss
slots_length m before [] [] h = absurd (h refl)
slots_length m before [] (s ∷ ss) h = refl
slots_length m before (so ∷ sos) [] h = refl
slots_length m before (so ∷ sos) (s ∷ ss) h = sym (and_right (slot_fits m before so s) (slots_fit m s sos ss) (sym (slots_length m s sos ss (λ e. h (ap suc e)))))
