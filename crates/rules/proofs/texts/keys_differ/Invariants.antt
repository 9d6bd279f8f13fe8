use Rattle.std.proofs.Common.{◌≡◌, true, length}
use Rattle.rules.specs.Tests.{every, pair_fits, keys, all_differ}
use Rattle.rules.proofs.texts.keys_differ.Given as goal

abbrev pub decreases-loop-p : goal.decreases-loop-p
decreases-loop-p l = length l.rest

abbrev pub invariant-loop-p : goal.invariant-loop-p
invariant-loop-p l = (every (pair_fits l.bytes) l.rest ≡ true) × (all_differ (keys l.bytes l.rest) ≡ all_differ (keys l.bytes l.pairs))
