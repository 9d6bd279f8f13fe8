use Rattle.std.proofs.Common.{◌+◌, ◌*◌, ◌/◌, length, refl, rules}
use Rattle.store.specs.Meaning.{the_text}
use Rattle.word_layout.specs.Views.{text_view}
use Rattle.word_layout.specs.Words.{TextWord}
use Rattle.word_layout.proofs.Rows.{put_laid, text_lays}
use Rattle.words.proofs.word_store.WordStoreWriteStore.put_text.Goals as goal

pub returns-clause-puts : goal.returns-clause-puts
returns-clause-puts c =
    let s = c.args.self.now in
    let n = c.put.new.self in
    let t = c.args.bytes.now in
    put_laid text_view t (1 + 8 * length t) ((length t + 7) / 8) (TextWord t) s.words.now n.words.now s.used n.used (the_text t) (λ p. record { 0 = p }) c.put.result c.map.result c.put.ensures (search rules) refl refl (text_lays t s.words.now n.words.now) (λ p xs h. h)
