use Rattle.std.proofs.Common.{◌≡◌, List, ◌++◌}
use Rattle.std.specs.Iterator.Adapters.{rev_source}
use Rattle.std.specs.Slice.Iter.{iter_rest}
use Rattle.store.specs.declared.place.Slot.{Slot}
use Rattle.word_layout.specs.Views.{mask_of}
use Rattle.word_layout.proofs.pack.mask.Given as goal

-- The mask is that of the slots behind those that are left.
abbrev pub invariant-loop-slot : goal.invariant-loop-slot
invariant-loop-slot l = (behind : List Slot) × (l.slots ≡ iter_rest (rev_source l.slot-iterator) ++ behind) × (l.mask ≡ mask_of behind)
