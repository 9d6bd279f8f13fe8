use Rattle.std.proofs.Common.{◌+◌, ◌≤◌, length, drop, ap, ◌∙◌}
use Rattle.roll.proofs.Parted.{drop_placed}
use Rattle.roll.proofs.Roll.add_all.Goals as goal

pub returns-then-xs-self-clause-free : goal.returns-then-xs-self-clause-free
returns-then-xs-self-clause-free g c =
    let P = c.args.self.now.places.now in
    let u = c.args.self.now.used in
    let h : u ≤ length P = c.args.self.now.within in
    ap (drop (u + length c.args.xs.now)) c.store_all.ensures ∙ drop_placed u P c.args.xs.now h
