use Rattle.std.proofs.Common.{◌≡◌, ◌+◌, ◌*◌, true, length, take, sym, ap, subst, rules}
use Rattle.kinds.specs.Slots.{sorts}
use Rattle.store.specs.declared.place.Slot.TheVariants.{Absent}
use Rattle.store.specs.Meaning.{the_table, slots_typed}
use Rattle.store.proofs.Typing.{fits_typed, typed_length}
use Rattle.word_layout.specs.Views.{table_view}
use Rattle.word_layout.specs.Words.{words_meaning, used_words, table_head, SlotWord, LaidBehind}
use Rattle.word_layout.proofs.Rows.{put_laid, put_misfilled, table_lays}
use Rattle.words.proofs.word_store.WordStoreWriteStore.put_table.Goals as goal

pub returns-then-not-slots_fit-clause-puts : goal.returns-then-not-slots_fit-clause-puts
returns-then-not-slots_fit-clause-puts c = put_misfilled c.args.self.now.words.now c.args.self.now.used (the_table c.args.kind c.args.slots.now) (sym c.if-not-slots_fit.ensures)

pub unwrap-requires : goal.unwrap-requires
unwrap-requires c =
    let s = c.args.self.now in
    let k = c.args.kind in
    let l = c.args.slots.now in
    let same = typed_length (sorts k) l (fits_typed (words_meaning (take (used_words s.words.now s.used) s.words.now)) Absent (sorts k) l (sym c.if-not-slots_fit.ensures)) in
    search rules

pub returns-clause-puts : goal.returns-clause-puts
returns-clause-puts c =
    let s = c.args.self.now in
    let n = c.put.new.self in
    let k = c.args.kind in
    let l = c.args.slots.now in
    let f = sym c.if-not-slots_fit.ensures in
    let t : slots_typed (sorts k) l ≡ true = fits_typed (words_meaning (take (used_words s.words.now s.used) s.words.now)) Absent (sorts k) l f in
    let kind : c.unwrap.result.kind ≡ k = search rules in
    let slots : c.unwrap.result.slots.now ≡ l = search rules in
    let own = subst (λ m. LaidBehind (table_head m l) (length l) (SlotWord l) s.words.now s.used n.words.now n.used c.put.result) kind
    (subst (λ m. LaidBehind (table_head c.unwrap.result.kind m) (length m) (SlotWord m) s.words.now s.used n.words.now n.used c.put.result) slots c.put.ensures) in
    put_laid (table_view k) l (table_head k l) (length l) (SlotWord l) s.words.now n.words.now s.used n.used (the_table k l) (λ p. record { 0 = p }) c.put.result c.map.result own (search rules) (ap (λ m. 8 * (1 + m)) (sym (typed_length (sorts k) l t))) f (λ at r. table_lays k l s.words.now n.words.now at t r) (λ p xs h. h)
