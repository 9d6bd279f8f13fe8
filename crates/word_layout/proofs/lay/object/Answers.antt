use Rattle.std.proofs.Common.{◌≡◌, ◌+◌, ◌-◌, ◌≤◌, set, subst, ap, length-set, arith, rules}
use Rattle.std.proofs.lemmas.Bool.Decides.{nat_tests}
use borrow.Rule.Slice.PartMut.{put_mid}
use Rattle.word_layout.specs.Words.{Laid, limit}
use Rattle.word_layout.proofs.Laying.{laid_part}
use Rattle.word_layout.proofs.lay.object.Goals as goal

pub returns : goal.returns
returns g c =
    let n = g.O.InWords.behind c.args.object in
    let P = g.O.InWords.is_word c.args.object in
    let at = c.args.at in
    let ws = set c.args.words.now at c.in_ok-head.head in
    let ws' = put_mid (at + 1) (at + 1 + c.size-n.result - (at + 1)) ws c.write.new.words in
    let size : c.size-n.result ≡ n = c.size-n.ensures in
    let head : c.in_ok-head.head ≡ g.O.InWords.head_word c.args.object = search rules in
    let k : at + 1 + c.size-n.result - (at + 1) ≡ n = omega arith in
    let fits : at + (1 + n) ≤ limit c.args.words.now = (let f = c.if-not-fits.ensures in grind (arith, nat_tests)) in
    let laid : Laid ws (at + 1) ws' n P = laid_part P ws (at + 1) n _ c.write.new.words k c.write.auto.words (omega (arith, length-set c.args.words.now at c.in_ok-head.head)) c.write.ensures in
    (ap (λ x. 1 + x) size, fits, subst (λ h. Laid (set c.args.words.now at h) (at + 1) ws' n P) head laid)
