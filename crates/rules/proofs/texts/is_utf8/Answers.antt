use Rattle.std.proofs.Common.{rules}
use Rattle.std.specs.Bool.{one_answer}
use Rattle.rules.specs.Tests.{is_utf8}
use Rattle.rules.proofs.Utf8.{utf8_decided}
use Rattle.rules.proofs.texts.is_utf8.Goals as goal

pub returns : goal.returns
returns c = one_answer c.is_ok.result (is_utf8 c.args.bytes.now) (search rules) (utf8_decided c.args.bytes.now)
