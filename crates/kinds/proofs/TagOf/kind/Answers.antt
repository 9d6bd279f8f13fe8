use Rattle.std.proofs.Common.{rules, ◌≡◌, slice_get, nat_abs, pos, ◌≤ℤ◌, ap, ◌∙◌, arith, w64}
use Rattle.std.proofs.lemmas.Int.{to_z-of_z}
use Rattle.std.proofs.lemmas.Option.{gets}
use Rattle.kinds.proofs.Tags.{tag_in}
use Rattle.kinds.proofs.TagOf.kind.Goals as goal

pub returns : goal.returns
returns c =
    let found : c.copied.result ≡ slice_get c.kinds.result.now c.in_ok-n.n = search (rules, gets) in
    let same = to_z-of_z w64 c.args.tag c.ranges.tag in
    let low : pos 0 ≤ℤ c.args.tag = search rules in
    let n : c.in_ok-ok.field-0 ≡ nat_abs c.args.tag = search rules in
    let e = c.in_ok-n.ensures in
    found ∙ (ap (λ l. slice_get l c.in_ok-n.n) c.kinds.ensures ∙ tag_in c.args.self c.args.tag c.in_ok-n.n low (omega arith) (omega arith))
