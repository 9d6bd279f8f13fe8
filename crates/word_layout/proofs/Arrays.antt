-- An array that a function of the index fills.
use Rattle.std.proofs.Common.{◌≡◌, ℕ, zero, suc, ◌+◌, ◌<◌, List, get_or, subst, ◌∙◌, arith}
use denote.Param.Members.{Mut, Called}
use Rattle.std.specs.Array.{IsFromFnResultFrom}

-- Each element is the value at its index, where each call gives that and changes nothing.
pub from_fn_at : {F B : Type 0} (g : Mut F (ℕ × Unit {0}) B) (f : F) (value : ℕ → B) (ys : List B) (i n : ℕ) → ((x : ℕ) (y : B) (q : F) → Called g f (x, tt) y q → (q ≡ f) × (y ≡ value x)) → IsFromFnResultFrom g f ys i n → (j : ℕ) (d : B) → j < n → get_or ys (i + j) d ≡ value (i + j)
from_fn_at g f value ys i zero h w j d b = absurd (omega arith)
from_fn_at g f value ys i (suc n) h w zero d b =
    let z : i ≡ i + 0 = omega arith in
    subst (λ m. get_or ys m d ≡ value m) z (w.2.1 d ∙ (h i w.1 w.0 w.3).1)
from_fn_at g f value ys i (suc n) h w (suc j) d b =
    let z : i + 1 + j ≡ i + suc j = omega arith in
    subst (λ m. get_or ys m d ≡ value m) z (from_fn_at g f value ys (i + 1) n h (subst (λ p. IsFromFnResultFrom g p ys (i + 1) n) (h i w.1 w.0 w.3).0 w.4) j d (omega arith))
