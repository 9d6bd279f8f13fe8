use Rattle.std.proofs.Common.{◌+◌, ◌*◌, length, sym, refl, arith, rules}
use Rattle.store.specs.Meaning.{the_tables}
use Rattle.word_layout.specs.Lists.{list_size, ListWord}
use Rattle.word_layout.specs.Views.{tables_view, table_at}
use Rattle.word_layout.proofs.Rows.{put_laid, list_lays}
use Rattle.words.proofs.word_store.WordStoreWriteStore.put_tables.Goals as goal

pub returns-clause-puts : goal.returns-clause-puts
returns-clause-puts c =
    let s = c.args.self.now in
    let n = c.put.new.self in
    let l = c.args.tables.now in
    put_laid tables_view l (2 + 8 * length l) (list_size (length l)) (ListWord table_at l) s.words.now n.words.now s.used n.used (the_tables c.args.kind l) (λ p. record { 0 = p }) c.put.result c.map.result c.put.ensures (search rules) refl (sym c.if-not-tables_fit.ensures) (λ at. list_lays table_at 2 l s.words.now n.words.now at (omega arith)) (λ p xs h. h)
