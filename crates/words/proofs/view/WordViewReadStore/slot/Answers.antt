use Rattle.std.proofs.Common.{◌≡◌, ◌+◌, ◌/◌, cond, get_or, slice_get, Some, ap, sym, ◌∙◌, rules}
use Rattle.std.proofs.lemmas.Option.{gets, slice_get_within, get_or_from_slice_get}
use Rattle.kinds.specs.Slots.{sorts}
use Rattle.kinds.specs.declared.Sort.TheVariants.{Text}
use Rattle.store.specs.declared.place.Slot.TheVariants.{Absent}
use Rattle.word_layout.specs.Views.{table_view, bit, slot_of}
use Rattle.word_layout.proofs.Sights.{pick_at}
use Rattle.words.proofs.view.WordViewReadStore.slot.Goals as goal

pub returns : goal.returns
returns c =
    let h = c.in_ok-head.head in
    let i = c.args.i in
    let w = get_or c.args.self.now.words.now (c.args.at.0 + 1 + i) 0 in
    let so = c.in_ok-sort.field-0.now in
    let got : slice_get c.slots.result.now i ≡ Some so = search (rules, gets) in
    let got' : slice_get (sorts c.args.kind) i ≡ Some so = ap (λ l. slice_get l i) (sym c.slots.ensures) ∙ got in
    let is : get_or (sorts c.args.kind) i Text ≡ so = get_or_from_slice_get (sorts c.args.kind) i so Text got' in
    let e = pick_at (table_view c.args.kind) c.args.self.now.words.now c.args.at.0 h i c.in_ok-head.ensures (slice_get_within (sorts c.args.kind) i so got') in
    ap Some (c.slot_in.ensures ∙ ap (λ x. cond (bit (h / 256) i) (slot_of x w) Absent) (sym is)) ∙ e
