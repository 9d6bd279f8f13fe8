use Rattle.store.proofs.Leading.{one_image, leads_stays}
use Rattle.store.proofs.images.one_image.Goals as goal

pub returns : goal.returns
returns c = record { one = one_image; stays = leads_stays }
