use Rattle.std.proofs.Common.{not, sym, ap, ◌∙◌}
use Rattle.std.proofs.Math.Bool.{not-not}
use Rattle.rules.proofs.KeySteps.{lacks_told}
use Rattle.rules.proofs.texts.lacks_key.Goals as goal

pub returns : goal.returns
returns c = sym (not-not c.is_none.result) ∙ ap not (sym c.is_none.ensures) ∙ lacks_told c.args.bytes.now c.args.key.now c.args.pairs.now c.first_with_text.result c.requires c.first_with_text.ensures
