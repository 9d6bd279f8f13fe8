-- What is known of slots that are filled as their sorts say.
use Rattle.std.proofs.Common.{◌≡◌, ℕ, zero, suc, ◌<◌, true, ◌&&◌, List, [], ◌∷◌, length, get_or, refl, ap, ap₂, arith}
use Rattle.std.proofs.lemmas.Bool.{and_parts}
use Rattle.kinds.specs.declared.Sort.{Sort}
use Rattle.kinds.specs.declared.Sort.TheVariants as sort
use Rattle.store.specs.declared.place.Slot.{Slot}
use Rattle.store.specs.declared.place.Slot.TheVariants.{Absent, Number, Text, Table, List as Listed}
use Rattle.store.specs.Meaning.{Meaning, slot_fits, slots_fit, slot_typed, slots_typed, takes_text, takes_list, takes_table, list_fits, table_fits}

list_typed : (m : Meaning) (so : Sort) (p : _) → list_fits m so p ≡ true → takes_list so ≡ true
list_typed m (sort.Number c d) p e = e
list_typed m sort.Text p e = e
list_typed m (sort.Table k) p e = e
list_typed m (sort.ByTag t) p e = e
list_typed m (sort.Tables k) p e = refl
list_typed m sort.Numbers p e = refl
list_typed m sort.Longs p e = e

table_typed : (m : Meaning) (before : Slot) (so : Sort) (p : _) → table_fits m before so p ≡ true → takes_table so ≡ true
table_typed m before (sort.Number c d) p e = e
table_typed m before sort.Text p e = e
table_typed m before (sort.Table k) p e = refl
table_typed m before (sort.ByTag t) p e = refl
table_typed m before (sort.Tables k) p e = e
table_typed m before sort.Numbers p e = e
table_typed m before sort.Longs p e = e

fit_typed : (m : Meaning) (before : Slot) (so : Sort) (s : Slot) → slot_fits m before so s ≡ true → slot_typed so s ≡ true
fit_typed m before so Absent e = refl
fit_typed m before so (Number n) e = e
fit_typed m before so (Text p) e = (and_parts (takes_text so) _ e).0
fit_typed m before so (Listed p) e = list_typed m so p e
fit_typed m before so (Table p) e = table_typed m before so p e

-- Slots that are filled as their sorts say hold what their sorts say.
pub fits_typed : (m : Meaning) (before : Slot) (sos : List Sort) (ss : List Slot) → slots_fit m before sos ss ≡ true → slots_typed sos ss ≡ true
fits_typed m before [] [] e = refl
fits_typed m before [] (s ∷ ss) e = e
fits_typed m before (so ∷ sos) [] e = e
fits_typed m before (so ∷ sos) (s ∷ ss) e =
    ap₂ (λ a b. a && b) (fit_typed m before so s (and_parts (slot_fits m before so s) (slots_fit m s sos ss) e).0) (fits_typed m s sos ss (and_parts (slot_fits m before so s) (slots_fit m s sos ss) e).1)

pub typed_length : (sos : List Sort) (ss : List Slot) → slots_typed sos ss ≡ true → length ss ≡ length sos
typed_length [] [] e = refl
typed_length [] (s ∷ ss) e = grind arith
typed_length (so ∷ sos) [] e = grind arith
typed_length (so ∷ sos) (s ∷ ss) e = ap suc (typed_length sos ss (and_parts (slot_typed so s) (slots_typed sos ss) e).1)

pub typed_at : (sos : List Sort) (ss : List Slot) (i : ℕ) (so : Sort) (s : Slot) → slots_typed sos ss ≡ true → i < length ss → slot_typed (get_or sos i so) (get_or ss i s) ≡ true
typed_at [] [] i x d e h = absurd (omega arith)
typed_at [] (s ∷ ss) i x d e h = grind arith
typed_at (so ∷ sos) [] i x d e h = absurd (omega arith)
typed_at (so ∷ sos) (s ∷ ss) zero x d e h = (and_parts (slot_typed so s) (slots_typed sos ss) e).0
typed_at (so ∷ sos) (s ∷ ss) (suc i) x d e h = typed_at sos ss i x d (and_parts (slot_typed so s) (slots_typed sos ss) e).1 (omega arith)

-- Slots that hold, one by one, what their sorts say.
pub typed_from : (sos : List Sort) (ss : List Slot) (so : Sort) (s : Slot) → length ss ≡ length sos → ((i : ℕ) → i < length sos → slot_typed (get_or sos i so) (get_or ss i s) ≡ true) → slots_typed sos ss ≡ true
typed_from [] [] x d n h = refl
typed_from [] (s ∷ ss) x d n h = absurd (omega arith)
typed_from (so ∷ sos) [] x d n h = absurd (omega arith)
typed_from (so ∷ sos) (s ∷ ss) x d n h = ap₂ (λ a b. a && b) (h 0 (omega arith)) (typed_from sos ss x d (omega arith) (λ i l. h (suc i) (omega arith)))
