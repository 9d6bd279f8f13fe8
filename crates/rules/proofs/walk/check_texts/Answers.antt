use Rattle.std.proofs.Common.{sym, ◌∙◌}
use Rattle.std.proofs.lemmas.Bool.{and_parts}
use Rattle.rules.proofs.walk.check_texts.Goals as goal

pub keys_differ-requires : goal.keys_differ-requires
keys_differ-requires c = (and_parts _ _ (sym c.texts_fit.ensures ∙ c.if-not-texts_fit.false)).1
