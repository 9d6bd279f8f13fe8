use Rattle.std.proofs.Common.{◌≡◌, ℕ, ◌+◌, ◌*◌, ◌<◌, get_or, subst, ap, ◌∙◌, arith, rules, tests}
use Rattle.word_layout.specs.Views.{le_bytes}
use Rattle.word_layout.proofs.Arrays.{from_fn_at}
use Rattle.word_layout.proofs.Masks.{le_round}
use Rattle.word_layout.proofs.pack.text_word.Goals as goal

pub returns : goal.returns
returns c =
    let t = c.args.bytes.now in
    let at = 8 * c.args.k in
    let ys = c.from_fn.result in
    let byte : ℕ → ℕ = λ j. get_or t (at + j) 0 in
    let small : (j : ℕ) → byte j < 256 = λ j. (c.type_inv.bytes (at + j)).fits in
    let is : (j : ℕ) → j < 8 → get_or ys j 0 ≡ byte j = λ j h. let z : 0 + j ≡ j = omega arith in subst (λ i. get_or ys i 0 ≡ byte i) z (from_fn_at _ _ byte ys 0 8 (λ x y q k. search (rules, tests)) c.from_fn.ensures.items.each j 0 h) in
    let s : get_or ys 0 0 + get_or ys 1 0 * 256 + get_or ys 2 0 * 65536 + get_or ys 3 0 * 16777216 + get_or ys 4 0 * 4294967296 + get_or ys 5 0 * 1099511627776 + get_or ys 6 0 * 281474976710656 + get_or ys 7 0 * 72057594037927936 ≡ byte 0 + byte 1 * 256 + byte 2 * 65536 + byte 3 * 16777216 + byte 4 * 4294967296 + byte 5 * 1099511627776 + byte 6 * 281474976710656 + byte 7 * 72057594037927936
    = omega (arith, is 0 (omega arith), is 1 (omega arith), is 2 (omega arith), is 3 (omega arith), is 4 (omega arith), is 5 (omega arith), is 6 (omega arith), is 7 (omega arith)) in
    ap le_bytes (c.from_le_bytes.ensures ∙ s) ∙ le_round _ _ _ _ _ _ _ _ (small 0) (small 1) (small 2) (small 3) (small 4) (small 5) (small 6) (small 7)
