use Rattle.std.proofs.Common.{◌∙◌, rules, tests, arith}
use Rattle.std.proofs.lemmas.Iterator.{YieldsList-from_range}
use Rattle.std.proofs.lemmas.Iterator.Search.{all_from_yields_List}
use Rattle.store.specs.Meaning.{element_fits, picked}
use Rattle.store.proofs.Fits.{stands_all}
use Rattle.store.proofs.filled.tables_stand.Goals as goal

pub returns : goal.returns
returns g c =
    let m = g.S.ReadStore.meaning c.args.store.now in
    let o = m.tables c.args.at in
    all_from_yields_List (λ i. element_fits m c.args.kind (picked o i)) _ _ _ c.all.ensures.ran (YieldsList-from_range 0 c.in-Some.n c.in-Some.n (cc) (omega arith)) (λ x b q k. search (rules, tests)) ∙ stands_all m c.args.kind o c.in-Some.n c.in-Some.ensures
