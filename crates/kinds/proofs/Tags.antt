-- Tags of a union, and the kinds that they choose.
use Rattle.std.proofs.Common.{◌≡◌, ℕ, zero, suc, ◌-◌, ◌≤◌, slice_get, ℤ, pos, negsuc, nat_abs, ◌≤ℤ◌, ap, arith}
use Rattle.std.proofs.lemmas.Int.{ints}
use Rattle.kinds.specs.declared.TagOf.{TagOf}
use Rattle.kinds.specs.Slots.{members, by_tag}

-- A tag from 1 on chooses the kind that is so many less one from the first.
pub tag_in : (t : TagOf) (z : ℤ) (i : ℕ) → pos 0 ≤ℤ z → 1 ≤ nat_abs z → i ≡ nat_abs z - 1 → slice_get (members t) i ≡ by_tag t z
tag_in t (pos zero) i p h e = absurd (omega arith)
tag_in t (pos (suc n)) i p h e = let q : i ≡ n = omega arith in ap (slice_get (members t)) q
tag_in t (negsuc n) i p h e = absurd (omega (arith, ints))
