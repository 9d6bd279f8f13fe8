use Rattle.std.proofs.Common.{vec_len}
use Rattle.listing_show.proofs.place.next_parent.Given as goal

abbrev pub decreases-loop-open : goal.decreases-loop-open
decreases-loop-open l = vec_len l.path
