use Rattle.std.proofs.Common.{is_some, ◌∙◌, rules, tests}
use Rattle.std.proofs.lemmas.Iterator.{YieldsList-from_slice}
use Rattle.std.proofs.lemmas.Iterator.Search.{all_from_yields_List}
use Rattle.store.proofs.Fits.{tables_all}
use Rattle.store.proofs.filled.tables_fit.Goals as goal

pub returns : goal.returns
returns g c =
    let m = g.S.ReadStore.meaning c.args.store.now in
    all_from_yields_List (λ p. is_some (m.table c.args.kind p)) _ _ _ c.all.ensures.ran (YieldsList-from_slice c.args.tables.now cc) (λ x b q k. search (rules, tests)) ∙ tables_all m c.args.kind c.args.tables.now
