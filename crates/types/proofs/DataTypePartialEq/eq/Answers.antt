use Rattle.std.specs.Bool.{one_answer}
use Rattle.types.specs.Equality.{data_type_eq}
use Rattle.types.specs.EqualityLaws.{data_type_decides}
use Rattle.types.proofs.DataTypePartialEq.eq.Goals as goal

pub returns-clause-value : goal.returns-clause-value
returns-clause-value c =
    let s = c.args.self.now in
    let t = c.args.other.now in
    one_answer c.is_same.result (data_type_eq s t) c.is_same.ensures (data_type_decides s t)
