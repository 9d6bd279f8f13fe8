use Rattle.std.proofs.Common.{◌≡◌, ℕ, ◌^◌, ◌<◌, ◌≤◌, List, ◌++◌, length, ap, ◌∙◌, length-append, arith, rules}
use Rattle.std.specs.Iterator.Adapters.{rev_source}
use Rattle.std.specs.Slice.Iter.{iter_rest}
use Rattle.store.specs.declared.place.Slot.{Slot}
use Rattle.word_layout.specs.Views.{mask_of}
use Rattle.word_layout.proofs.Masks.{mask_below, there_small, there_bit}
use Rattle.word_layout.proofs.pack.mask.Goals as goal

-- The mask of some of the slots is small.
small : (slots rest behind : List Slot) (m : ℕ) → length slots < 32 → slots ≡ rest ++ behind → m ≡ mask_of behind → m < 2 ^ 32
small slots rest behind m few all e = rw e (mask_below behind 32 (omega (arith, ap length all, length-append rest behind)))

pub overflow_mul-mask : goal.overflow_mul-mask
overflow_mul-mask c =
    let i = c.loop-slot.invariant in
    let b = small c.args.slots.now (iter_rest (rev_source c.loop-slot.slot-iterator)) i.0 c.loop-slot.mask c.requires i.1 i.2 in
    search rules

pub overflow_add-mask : goal.overflow_add-mask
overflow_add-mask c =
    let i = c.loop-slot.invariant in
    let b = small c.args.slots.now (iter_rest (rev_source c.loop-slot.slot-iterator)) i.0 c.loop-slot.mask c.requires i.1 i.2 in
    let t : c.from.result ≤ 1 = rw (c.from.ensures ∙ there_bit c.in-Some.slot.now c.is_there.result c.is_there.ensures) (there_small _) in
    search rules
