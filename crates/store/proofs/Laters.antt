-- What the contracts of the stores give, over many puts and a cut.
use Rattle.std.proofs.Common.{◌≡◌, ℕ, ◌+◌, ◌-◌, ◌≤◌, ◌++◌, drop, replicate, sym, refl, ap, ◌∙◌, subst, arith}
use Rattle.std.proofs.lemmas.List.{drop-replicate, replicate-append-replicate}
use Rattle.std.proofs.lemmas.Bool.Decides.{nat_tests}
use Rattle.store.specs.declared.refusal.StoreRefusal.{StoreRefusal}
use Rattle.store.specs.Meaning.{Meaning, Grows, Object, Place, Stands}
use Rattle.store.specs.State.{State, Sound, Clear, Puts, Refuses, Cuts, Cut, Later, held, room}

pub grows_refl : (m : Meaning) → Grows m m
grows_refl m = record { text = λ p x h. h; tables = λ p x h. h; numbers = λ p x h. h; table = λ k p x h. h }

pub grows_same : {m n : Meaning} → n ≡ m → Grows m n
grows_same {m} {n} e = subst (λ x. Grows m x) (sym e) (grows_refl m)

pub grows_trans : {l m n : Meaning} → Grows l m → Grows m n → Grows l n
grows_trans a b =
    record {
      text = λ p x h. b.text p x (a.text p x h);
      tables = λ p x h. b.tables p x (a.tables p x h);
      numbers = λ p x h. b.numbers p x (a.numbers p x h);
      table = λ k p x h. b.table k p x (a.table k p x h);
    }

-- Zeros stay zeros.
pub puts_clear : {o : Object} {a b : State} {p : Place o} → Puts o a b p → Clear a → Clear b
puts_clear {o} {a} {b} {p} h z =
    let n : room a - a.price o ≡ room b = let q = h.paid in let s = h.size in omega arith in
    h.free ∙ (ap (drop (a.price o)) z ∙ (drop-replicate (a.price o) (room a) 0 ∙ ap (λ k. replicate k 0) n))

pub cuts_clear : {a b : State} {h : ℕ} → Sound a → h ≤ a.height → Cuts a b h → Clear a → Clear b
cuts_clear {a} {b} {h} s l c z =
    let n : a.height - h + room a ≡ room b = let q = c.height in let e = c.size in let w = s.within in omega arith in
    c.free ∙ (ap (λ f. replicate (a.height - h) 0 ++ f) z ∙ (replicate-append-replicate (a.height - h) (room a) 0 ∙ ap (λ k. replicate k 0) n))

pub later_refl : (a : State) → Later a a
later_refl a = record { size = refl; up = omega arith; kept = λ k h. refl; clear = λ z. z }

pub later_same : {a b : State} → b ≡ a → Later a b
later_same {a} {b} e = subst (λ x. Later a x) (sym e) (later_refl a)

pub later_trans : {a b c : State} → Later a b → Later b c → Later a c
later_trans {a} {b} {c} f g =
    record {
      size = g.size ∙ f.size;
      up = let p = f.up in let q = g.up in omega arith;
      kept = λ k h. g.kept k (let p = f.up in omega arith) ∙ f.kept k h;
      clear = λ z. g.clear (f.clear z);
    }

pub later_puts : {o : Object} {a b : State} {p : Place o} → Puts o a b p → Later a b
later_puts {o} {a} {b} {p} h = record { size = h.size; up = let e = h.paid in omega arith; kept = h.kept; clear = puts_clear h }

pub later_refuses : {o : Object} {a b : State} {e : StoreRefusal} → Refuses o a b e → Later a b
later_refuses h = later_same h.same

-- What stood, stands.
pub later_grows : {a b : State} → Sound b → Later a b → Grows (held a) (held b)
later_grows {a} {b} s l = subst (λ m. Grows m (held b)) (l.kept a.height (omega arith)) (s.grows a.height b.height l.up (omega arith))

-- A cut to where a stood.
pub cut_takes : {a b c : State} → Sound a → Later a b → Cut b c a.height → Cuts b c a.height
cut_takes {a} {b} {c} s l h = h.takes (let w = s.whole_height in let u = l.up in grind (arith, nat_tests))

pub cut_later : {a b c : State} → Sound a → Sound b → Later a b → Cut b c a.height → Later a c
cut_later {a} {b} {c} s t l h =
    let k = cut_takes s l h in
    record { size = k.size ∙ l.size; up = let e = k.height in omega arith; kept = λ i p. k.kept i p ∙ l.kept i p; clear = λ z. cuts_clear t l.up k (l.clear z) }

-- It brings back what stood.
pub cut_back : {a b c : State} → Sound a → Later a b → Cut b c a.height → held c ≡ held a
cut_back {a} {b} {c} s l h =
    let k = cut_takes s l h in
    ap c.under k.height ∙ (k.kept a.height (omega arith) ∙ l.kept a.height (omega arith))

-- A put that costs nothing answers where the object stood already.
pub free_stands : {o : Object} {a b : State} {p : Place o} → Puts o a b p → a.price o ≡ 0 → Stands (held a) o p
free_stands {o} {a} {b} {p} h z =
    let e : b.height ≡ a.height = let q = h.paid in omega arith in
    subst (λ m. Stands m o p) (ap b.under e ∙ h.kept a.height (omega arith)) h.stands
