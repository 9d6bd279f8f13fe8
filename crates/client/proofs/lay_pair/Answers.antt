use Rattle.std.proofs.Common.{[], ◌∷◌}
use Rattle.kinds.specs.declared.Kind.TheVariants.{KeyValue}
use Rattle.store.specs.declared.place.Slot.TheVariants.{Text}
use Rattle.store.specs.Meaning.{the_table}
use Rattle.store.specs.State.{held}
use Rattle.store.proofs.Laters.{later_puts, later_trans, later_grows}
use Rattle.client.specs.Pairs.{PairStands}
use Rattle.client.proofs.Reasons.{pair_fills, put_later, put_cases}
use Rattle.client.proofs.lay_pair.Goals as goal

pub returns-clause-later : goal.returns-clause-later
returns-clause-later g c =
    let w = g.S.WriteStore.state in
    let o = the_table KeyValue (Text c.in_ok-k.k ∷ Text c.in_ok-v.v ∷ []) in
    later_trans (later_puts c.in_ok-k.ensures.puts) (later_trans (later_puts c.in_ok-v.ensures.puts) (put_later o (w c.put_text-2.new.self) (w c.put_table.new.self) c.put_table.result c.put_table.ensures.puts))

pub returns-clause-cases : goal.returns-clause-cases
returns-clause-cases g c =
    let w = g.S.WriteStore.state in
    let sound = g.S.WriteStore.sound in
    let a = c.in_ok-k.ensures in
    let b = c.in_ok-v.ensures in
    let o = the_table KeyValue (Text c.in_ok-k.k ∷ Text c.in_ok-v.v ∷ []) in
    let before = w c.put_text-2.new.self in
    let after = w c.put_table.new.self in
    let end = sound c.put_table.new.self in
    let key = (later_grows (sound c.put_text-2.new.self) (later_puts b.puts)).text _ _ a.puts.stands in
    put_cases o before after (λ p. PairStands (held after) p c.args.key.now c.args.value.now) c.put_table.result c.put_table.ensures.puts
    (pair_fills (held before) c.in_ok-k.k c.in_ok-v.v key b.puts.stands)
    (λ p h. record {
      key_at = c.in_ok-k.k;
      value_at = c.in_ok-v.v;
      table = h.stands;
      key_is = (later_grows end (later_puts {o = o} {p = p} h)).text _ _ key;
      value_is = (later_grows end (later_puts {o = o} {p = p} h)).text _ _ b.puts.stands;
    })
