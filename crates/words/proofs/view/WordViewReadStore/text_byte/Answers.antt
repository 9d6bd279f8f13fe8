use Rattle.std.proofs.Common.{◌%◌, get_or, drop, Some, sym, ap, ◌∙◌, arith}
use Rattle.word_layout.specs.Views.{text_view, le_bytes}
use Rattle.word_layout.proofs.Sights.{pick_at, pick_past}
use Rattle.words.proofs.view.WordViewReadStore.text_byte.Goals as goal

pub returns-then-i-head : goal.returns-then-i-head
returns-then-i-head c = sym (pick_past text_view (drop c.args.at.0 c.args.self.now.words.now) c.in_ok-head.head c.args.i (sym c.in_ok-head.ensures) (omega arith))

pub returns : goal.returns
unfolding le_bytes
returns c = let e = pick_at text_view c.args.self.now.words.now c.args.at.0 c.in_ok-head.head c.args.i c.in_ok-head.ensures (omega arith) in ap (λ l. Some (get_or l (c.args.i % 8) 0)) c.to_le_bytes.ensures ∙ e
