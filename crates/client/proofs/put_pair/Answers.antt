use Rattle.store.proofs.Laters.{later_grows}
use Rattle.client.proofs.put_pair.Goals as goal

pub returns-else-is_err-clause-stay : goal.returns-else-is_err-clause-stay
returns-else-is_err-clause-stay g c = later_grows (g.S.WriteStore.sound c.lay_pair-laid.new.store) c.lay_pair-laid.ensures.later
