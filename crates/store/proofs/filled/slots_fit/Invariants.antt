use Rattle.std.proofs.Common.{◌≡◌, length}
use Rattle.std.specs.Iterator.Adapters.{zip_first, zip_second}
use Rattle.std.specs.Slice.Iter.{iter_rest}
use Rattle.kinds.specs.Slots.{sorts}
use Rattle.store.specs.declared.place.Slot.TheVariants.{Absent}
use Rattle.store.specs.Meaning.{slots_fit}
use Rattle.store.proofs.filled.slots_fit.Given as goal

-- What is left to look at decides, and as many sorts are left as slots.
abbrev pub invariant-loop-sort : goal.invariant-loop-sort
invariant-loop-sort g l = record {
  decides : slots_fit (g.S.ReadStore.meaning l.store) l.before (iter_rest (zip_first l.sort-iterator)) (iter_rest (zip_second l.sort-iterator)) ≡ slots_fit (g.S.ReadStore.meaning l.store) Absent (sorts l.fn.kind) l.slots;
  as_many : length (iter_rest (zip_first l.sort-iterator)) ≡ length (iter_rest (zip_second l.sort-iterator));
}
