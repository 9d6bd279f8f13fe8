use Rattle.std.proofs.Common.{◌≡◌, ◌-◌, ◌++◌, take, drop, replicate, ap, ◌∙◌, arith}
use Rattle.word_layout.specs.Words.{limit}
use Rattle.word_layout.proofs.Rows.{rows_fresh}
use Rattle.words.proofs.word_store.WordStore.new.Goals as goal

pub returns : goal.returns
returns c =
    let ws = c.args.words.now in
    let e : c.usable-n.result ≡ limit ws = c.usable-n.ensures in
    rows_fresh ws c.clear.new.words (c.clear.ensures.zeros (omega arith) (omega arith) ∙ ap (λ k. take 0 ws ++ (replicate (k - 0) 0 ++ drop k ws)) e)
