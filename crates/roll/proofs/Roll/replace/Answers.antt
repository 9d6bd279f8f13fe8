use Rattle.std.proofs.Common.{◌<◌, length, take, drop, sym, ap, ◌∙◌, arith}
use Rattle.std.proofs.lemmas.List.{length-take, drop-set-lt, set_past}
use Rattle.std.proofs.lemmas.Option.{slice_get_within}
use Rattle.roll.proofs.Parted.{take_set_lt, past_end}
use Rattle.roll.proofs.Roll.replace.Goals as goal

pub returns-in_err-before-clause-items : goal.returns-in_err-before-clause-items
returns-in_err-before-clause-items g c =
    let xs = take c.args.self.now.used c.args.self.now.places.now in
    sym (set_past xs c.args.i c.args.x (past_end xs c.args.i (sym c.get.ensures ∙ c.in_err-before.was)))

pub store-requires : goal.store-requires
store-requires g c =
    let xs = take c.args.self.now.used c.args.self.now.places.now in
    let h : c.args.i < length xs = slice_get_within xs c.args.i c.in_ok-before.before (sym c.get.ensures ∙ c.in_ok-before.was) in
    omega (arith, length-take c.args.self.now.used c.args.self.now.places.now)

pub returns-clause-items : goal.returns-clause-items
returns-clause-items g c = ap (take c.args.self.now.used) c.store.ensures ∙ take_set_lt c.args.self.now.used c.args.self.now.places.now c.args.i c.args.x

pub returns-clause-free : goal.returns-clause-free
returns-clause-free g c =
    let P = c.args.self.now.places.now in
    let u = c.args.self.now.used in
    let h : c.args.i < length (take u P) = slice_get_within (take u P) c.args.i c.in_ok-before.before (sym c.get.ensures ∙ c.in_ok-before.was) in
    ap (drop u) c.store.ensures ∙ drop-set-lt u P c.args.i c.args.x (omega (arith, length-take u P))
