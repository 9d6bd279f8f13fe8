use Rattle.std.proofs.Common.{◌≡◌, ◌≤◌, Err, Ok, length, take, drop, sym, ap, ◌∙◌, rules}
use Rattle.std.proofs.lemmas.Result.{err_from_is_err_and}
use Rattle.sheet.specs.Contents.{content}
use Rattle.rules.specs.Models.{told, ahead}
use Rattle.rules.specs.Verdict.{first_broken, own_rules}
use Rattle.rules.proofs.VerdictSteps.{by_walk, of_slices}
use Rattle.rules.proofs.walk.judge.Goals as goal

pub returns-in_err-end : goal.returns-in_err-end
returns-in_err-end c =
    let s = content c.args.sheet.now in
    let p = err_from_is_err_and c.from_residual-in_err-end.result c.from_residual-in_err-end.ensures.1 in
    let room : s.own ≤ length s.pairs = search rules in
    let left : c.in_ok-own.pairs.now ≡ drop s.own s.pairs = search rules in
    let walk = of_slices s c.as_slice-bytes.result.now c.as_slice-records.result.now c.in_ok-own.pairs.now c.as_slice-bytes.ensures c.as_slice-records.ensures left in
    ap told (p.1 ∙ ap Err p.2) ∙ sym (by_walk s (sym c.within_limits.ensures ∙ c.if-not-within_limits.false) room (Err c.in_err-end.field-0.0) (walk ∙ sym c.in_err-end.ensures))

pub returns : goal.returns
returns c =
    let s = content c.args.sheet.now in
    let room : s.own ≤ length s.pairs = search rules in
    let own : c.in_ok-own.own.now ≡ take s.own s.pairs = search rules in
    let left : c.in_ok-own.pairs.now ≡ drop s.own s.pairs = search rules in
    let walk = of_slices s c.as_slice-bytes.result.now c.as_slice-records.result.now c.in_ok-own.pairs.now c.as_slice-bytes.ensures c.as_slice-records.ensures left in
    let n = length c.in_ok-end.end.pairs.now in
    c.check_own_pairs.ensures
    ∙ ap (λ b. first_broken (own_rules b c.in_ok-own.own.now n)) c.as_slice-bytes.ensures
    ∙ ap (λ ps. first_broken (own_rules s.bytes ps n)) own
    ∙ sym (by_walk s (sym c.within_limits.ensures ∙ c.if-not-within_limits.false) room (Ok (ahead c.in_ok-end.end)) (walk ∙ sym c.in_ok-end.ensures))
