use Rattle.std.proofs.Common.{◌+◌, ◌*◌, length, refl, arith, rules, to_z, w32}
use Rattle.store.specs.Meaning.{the_numbers}
use Rattle.word_layout.specs.Lists.{list_size, ListWord}
use Rattle.word_layout.specs.Views.{numbers_view}
use Rattle.word_layout.proofs.Rows.{put_laid, list_lays}
use Rattle.words.proofs.word_store.WordStoreWriteStore.put_numbers.Goals as goal

pub returns-clause-puts : goal.returns-clause-puts
returns-clause-puts c =
    let s = c.args.self.now in
    let n = c.put.new.self in
    let l = c.args.numbers.now in
    put_laid numbers_view l (3 + 8 * length l) (list_size (length l)) (ListWord (to_z w32) l) s.words.now n.words.now s.used n.used (the_numbers l) (λ p. record { 0 = p }) c.put.result c.map.result c.put.ensures (search rules) refl refl (λ at. list_lays (to_z w32) 3 l s.words.now n.words.now at (omega arith)) (λ p xs h. h)
