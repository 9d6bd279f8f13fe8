use Rattle.std.proofs.Common.{arith}
use Rattle.roll.proofs.Parted.{rest_is}
use Rattle.roll.proofs.Roll.shorten.Goals as goal

pub returns-then-n-self-clause-free : goal.returns-then-n-self-clause-free
returns-then-n-self-clause-free g c = rest_is c.args.n c.args.self.now.used c.args.self.now.places.now (omega arith)
