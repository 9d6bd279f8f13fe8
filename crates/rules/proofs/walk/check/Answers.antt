use Rattle.sheet.specs.Contents.{content}
use Rattle.rules.proofs.Judged.{judged}
use Rattle.rules.proofs.Holding.{holds_at_ok}
use Rattle.rules.proofs.walk.check.Goals as goal

pub returns : goal.returns
returns c =
    let s = content c.args.sheet.now in
    let lawful = judged s c.judge.result c.judge.ensures in
    record { verdict = c.judge.ensures; lawful = lawful; holds = holds_at_ok s c.judge.result lawful }
