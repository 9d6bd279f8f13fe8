-- The test of UTF-8 that computes decides what UTF-8 is.
use Rattle.std.proofs.Common.{ℕ, List, [], ◌∷◌, IsUtf8, Decides, refl}
use lib.Utf8.{scalars, encodes, encode}
use Rattle.std.specs.Str.{chars, bytes_eq}
use Rattle.std.proofs.lemmas.Str.{encodes-chars, scalars-chars}
use Rattle.std.proofs.lemmas.Slice.Eq.{bytes_eq-Decides}
use Rattle.std.proofs.lemmas.Bool.{and_parts, and_from, both_ways}
use Rattle.rules.specs.Tests.{is_utf8}

pub utf8_decided : (bs : List ℕ) → Decides (is_utf8 bs) (IsUtf8 bs)
utf8_decided bs = (
  λ e. let p = and_parts (scalars (chars bs)) (bytes_eq (encodes (chars bs)) bs) e in
      (chars bs, (p.0, (bytes_eq-Decides (encodes (chars bs)) bs).0 p.1)),
  λ u. and_from _ _ (scalars-chars bs u) ((bytes_eq-Decides (encodes (chars bs)) bs).1 (encodes-chars bs u)),
)

-- A surrogate, an overlong form and a number past the last are not UTF-8; the last character is.
no_surrogate : IsUtf8 (0xED ∷ 0xA0 ∷ 0x80 ∷ []) → ⊥
unfolding chars encode
no_surrogate u = both_ways _ refl ((utf8_decided (0xED ∷ 0xA0 ∷ 0x80 ∷ [])).1 u)

no_overlong : IsUtf8 (0xC0 ∷ 0x80 ∷ []) → ⊥
unfolding chars encode
no_overlong u = both_ways _ refl ((utf8_decided (0xC0 ∷ 0x80 ∷ [])).1 u)

no_past : IsUtf8 (0xF4 ∷ 0x90 ∷ 0x80 ∷ 0x80 ∷ []) → ⊥
unfolding chars encode
no_past u = both_ways _ refl ((utf8_decided (0xF4 ∷ 0x90 ∷ 0x80 ∷ 0x80 ∷ [])).1 u)

last : IsUtf8 (0xF4 ∷ 0x8F ∷ 0xBF ∷ 0xBF ∷ [])
unfolding chars encode
last = (utf8_decided (0xF4 ∷ 0x8F ∷ 0xBF ∷ 0xBF ∷ [])).0 refl
