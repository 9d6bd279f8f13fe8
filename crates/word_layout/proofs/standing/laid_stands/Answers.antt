use Rattle.std.proofs.Common.{◌<◌, sym, subst, rules}
use Rattle.word_layout.specs.Views.{text_view, list_view, table_view}
use Rattle.word_layout.specs.Words.{Lays}
use Rattle.word_layout.proofs.Rows.{text_lays, list_lays, table_lays}
use Rattle.word_layout.proofs.standing.laid_stands.Goals as goal

pub returns-clause-texts : goal.returns-clause-texts
returns-clause-texts g c = λ t ws ws' at n h. subst (Lays text_view t ws at ws') (sym h.0) (text_lays t ws ws' at h.1 h.2)

pub returns-clause-lists : goal.returns-clause-lists
returns-clause-lists g c =
    let of = g.E.Element.of in
    let mark = g.E.Element.mark in
    let small : mark < 8 = search rules in
    λ l ws ws' at n h. subst (Lays (list_view of mark) l ws at ws') (sym h.0) (list_lays of mark l ws ws' at small h.1 h.2)

pub returns-clause-tables : goal.returns-clause-tables
returns-clause-tables g c = λ k l ws ws' at n typed h. subst (Lays (table_view k) l ws at ws') (sym h.0) (table_lays k l ws ws' at typed h.1 h.2)
