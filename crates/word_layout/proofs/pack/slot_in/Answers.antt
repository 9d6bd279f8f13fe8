use Rattle.std.proofs.Common.{◌/◌, ◌<◌, ◌^◌, cond, sym, ap, arith}
use Rattle.store.specs.declared.place.Slot.TheVariants.{Absent}
use Rattle.word_layout.specs.Views.{slot_of}
use Rattle.word_layout.proofs.Masks.{no_bit_past}
use Rattle.word_layout.proofs.pack.slot_in.Goals as goal

pub returns-then-i-ge56 : goal.returns-then-i-ge56
returns-then-i-ge56 c =
    let small : c.args.head / 256 < 2 ^ 56 = omega (arith, c.ranges.head.fits) in
    sym (ap (λ b. cond b (slot_of c.args.sort c.args.word) Absent) (no_bit_past (c.args.head / 256) c.args.i small c.if-i-ge56.true))
