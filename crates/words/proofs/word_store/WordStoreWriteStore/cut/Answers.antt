use Rattle.std.proofs.Common.{◌-◌, ◌/◌, ◌++◌, take, drop, replicate, ap, ◌∙◌, arith}
use Rattle.std.proofs.lemmas.Bool.Decides.{nat_tests}
use Rattle.word_layout.proofs.Rows.{rows_cut}
use Rattle.words.proofs.word_store.WordStoreWriteStore.cut.Goals as goal

pub returns-then-height-eq0-clause-cuts : goal.returns-then-height-eq0-clause-cuts
returns-then-height-eq0-clause-cuts c =
    let s = c.args.self.now in
    let ws = s.words.now in
    let h = c.args.height in
    let u = c.len-used.ensures in
    record {
      takes = λ t. rows_cut ws c.clear.new.words s.used h (omega arith) c.if-height-eq0.true (c.clear.ensures.zeros (omega arith) (omega arith) ∙ ap (λ k. take (h / 8) ws ++ (replicate (k - h / 8) 0 ++ drop k ws)) u);
      leaves = λ f. let a = c.if-height-used.true in let b = c.if-height-eq0.true in grind (arith, nat_tests);
    }
