use Rattle.sheet.specs.Contents.{content}
use Rattle.schema.proofs.LineSteps.{tells}
use Rattle.schema.proofs.compare.alike.Goals as goal

pub returns-clause-cases : goal.returns-clause-cases
returns-clause-cases c = tells (content c.args.a.now) (content c.args.b.now) c.same_schema.result c.same_schema.ensures
