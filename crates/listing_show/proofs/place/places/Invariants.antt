use Rattle.std.proofs.Common.{◌≡◌, vec_len}
use Rattle.listing_show.proofs.place.places.Given as goal

abbrev pub invariant-loop-field : goal.invariant-loop-field
invariant-loop-field l = vec_len l.out ≡ l.field-index
