use Rattle.std.proofs.Common.{◌+◌, drop, sym, ap, ◌∙◌, arith}
use Rattle.std.proofs.lemmas.List.{drop-set-lt, drop-drop}
use Rattle.roll.proofs.Roll.add.Goals as goal

pub returns-then-at-self-clause-free : goal.returns-then-at-self-clause-free
returns-then-at-self-clause-free g c =
    let P = c.args.self.now.places.now in
    let u = c.args.self.now.used in
    ap (drop (u + 1)) c.store.ensures ∙ drop-set-lt (u + 1) P u c.args.x (omega arith) ∙ sym (drop-drop 1 u P)
