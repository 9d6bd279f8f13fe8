-- The bits of a mask, and the bytes of a word.
use Rattle.std.proofs.Common.{◌≡◌, ℕ, zero, suc, ◌+◌, ◌*◌, ◌/◌, ◌%◌, ◌^◌, ◌<◌, ◌≤◌, List, [], ◌∷◌, length, get_or, Bool, false, eqb, sym, ap, ◌∙◌, pow-suc, arith, pow_mono}
use native.Mathlib.Nat.{div-div-eq-div-mul, div-eq_of_lt, pow-succ'}
use mir.Val.{bool_byte}
use Rattle.store.specs.declared.place.Slot.{Slot}
use Rattle.store.specs.declared.place.Slot.TheVariants.{Absent, Number, Text, Table, List as Listed}
use Rattle.word_layout.specs.Views.{le_bytes, bit, there, mask_of}

-- a word of eight bytes, by its lowest and the rest
rest_of : (a r : ℕ) → a < 256 → (a + 256 * r) / 256 ≡ r
rest_of a r h = omega arith

low_of : (a r : ℕ) → a < 256 → (a + 256 * r) % 256 ≡ a
low_of a r h = omega arith

-- eight bytes put together come apart again
pub le_round : (a b c d e f g h : ℕ) → a < 256 → b < 256 → c < 256 → d < 256 → e < 256 → f < 256 → g < 256 → h < 256 →
    le_bytes (a + b * 256 + c * 65536 + d * 16777216 + e * 4294967296 + f * 1099511627776 + g * 281474976710656 + h * 72057594037927936) ≡ a ∷ b ∷ c ∷ d ∷ e ∷ f ∷ g ∷ h ∷ []
unfolding le_bytes
le_round a b c d e f g h pa pb pc pd pe pf pg ph =
    let w = a + b * 256 + c * 65536 + d * 16777216 + e * 4294967296 + f * 1099511627776 + g * 281474976710656 + h * 72057594037927936 in
    let r7 = h + 256 * 0 in
    let r6 = g + 256 * r7 in
    let r5 = f + 256 * r6 in
    let r4 = e + 256 * r5 in
    let r3 = d + 256 * r4 in
    let r2 = c + 256 * r3 in
    let r1 = b + 256 * r2 in
    let r0 = a + 256 * r1 in
    let q0 : w ≡ r0 = omega arith in
    let q1 : w / 256 ≡ r1 = ap (λ x. x / 256) q0 ∙ rest_of a r1 pa in
    let q2 : w / 65536 ≡ r2 = sym (div-div-eq-div-mul w 256 256) ∙ (ap (λ x. x / 256) q1 ∙ rest_of b r2 pb) in
    let q3 : w / 16777216 ≡ r3 = sym (div-div-eq-div-mul w 65536 256) ∙ (ap (λ x. x / 256) q2 ∙ rest_of c r3 pc) in
    let q4 : w / 4294967296 ≡ r4 = sym (div-div-eq-div-mul w 16777216 256) ∙ (ap (λ x. x / 256) q3 ∙ rest_of d r4 pd) in
    let q5 : w / 1099511627776 ≡ r5 = sym (div-div-eq-div-mul w 4294967296 256) ∙ (ap (λ x. x / 256) q4 ∙ rest_of e r5 pe) in
    let q6 : w / 281474976710656 ≡ r6 = sym (div-div-eq-div-mul w 1099511627776 256) ∙ (ap (λ x. x / 256) q5 ∙ rest_of f r6 pf) in
    let q7 : w / 72057594037927936 ≡ r7 = sym (div-div-eq-div-mul w 281474976710656 256) ∙ (ap (λ x. x / 256) q6 ∙ rest_of g r7 pg) in
    let e0 : w % 256 ≡ a = ap (λ x. x % 256) q0 ∙ low_of a r1 pa in
    let e1 : w / 256 % 256 ≡ b = ap (λ x. x % 256) q1 ∙ low_of b r2 pb in
    let e2 : w / 65536 % 256 ≡ c = ap (λ x. x % 256) q2 ∙ low_of c r3 pc in
    let e3 : w / 16777216 % 256 ≡ d = ap (λ x. x % 256) q3 ∙ low_of d r4 pd in
    let e4 : w / 4294967296 % 256 ≡ e = ap (λ x. x % 256) q4 ∙ low_of e r5 pe in
    let e5 : w / 1099511627776 % 256 ≡ f = ap (λ x. x % 256) q5 ∙ low_of f r6 pf in
    let e6 : w / 281474976710656 % 256 ≡ g = ap (λ x. x % 256) q6 ∙ low_of g r7 pg in
    let e7 : w / 72057594037927936 % 256 ≡ h = ap (λ x. x % 256) q7 ∙ low_of h 0 ph in
    λ i. e0 i ∷ e1 i ∷ e2 i ∷ e3 i ∷ e4 i ∷ e5 i ∷ e6 i ∷ e7 i ∷ []

pub there_small : (s : Slot) → there s ≤ 1
there_small Absent = omega arith
there_small (Number n) = omega arith
there_small (Text p) = omega arith
there_small (Listed p) = omega arith
there_small (Table p) = omega arith

pub mask_small : (l : List Slot) → mask_of l < 2 ^ length l
mask_small [] = omega arith
mask_small (s ∷ ss) = let e = pow-suc 2 (length ss) in let h = mask_small ss in let t = there_small s in omega arith

pub mask_bit : (l : List Slot) (i : ℕ) → i < length l → mask_of l / 2 ^ i % 2 ≡ there (get_or l i Absent)
mask_bit [] i h = absurd (omega arith)
mask_bit (s ∷ ss) zero h = let t = there_small s in omega arith
mask_bit (s ∷ ss) (suc i) h =
    let x = there s + 2 * mask_of ss in
    let t = there_small s in
    let e : x / 2 ≡ mask_of ss = omega arith in
    ap (λ d. x / d % 2) (pow-succ' 2 i) ∙ (ap (λ y. y % 2) (sym (div-div-eq-div-mul x 2 (2 ^ i))) ∙ (ap (λ y. y / 2 ^ i % 2) e ∙ mask_bit ss i (omega arith)))

pub mask_below : (l : List Slot) (n : ℕ) → length l ≤ n → mask_of l < 2 ^ n
mask_below l n h = let m = mask_small l in let p : 2 ^ length l ≤ 2 ^ n = pow_mono h in omega arith

-- the bit of a slot, as the code has it
pub there_bit : (s : Slot) (b : Bool) → b ≡ eqb (there s) 1 → bool_byte b ≡ there s
there_bit Absent b e = ap bool_byte e
there_bit (Number n) b e = ap bool_byte e
there_bit (Text p) b e = ap bool_byte e
there_bit (Listed p) b e = ap bool_byte e
there_bit (Table p) b e = ap bool_byte e

-- No bit is set that a number is too small for.
pub no_bit_past : (m i : ℕ) → m < 2 ^ 56 → 56 ≤ i → bit m i ≡ false
no_bit_past m i small h =
    let more = pow_mono h in
    let none : m / 2 ^ i ≡ 0 = div-eq_of_lt (omega arith) in
    ap (λ q. eqb (q % 2) 1) none
