use Rattle.std.proofs.Common.{ℕ, ◌<◌, get_or}
use Rattle.word_layout.proofs.lay.write.Given as goal

-- The words so far are the object's.
abbrev pub invariant-loop-k : goal.invariant-loop-k
invariant-loop-k g l = (j : ℕ) → j < l.k → g.O.InWords.is_word l.object j (get_or l.words j 0)
