use Rattle.std.proofs.Common.{◌≡◌, ◌-◌, ◌≤◌, ◌∷◌, length, sym, ap, ◌∙◌, arith, rules}
use Rattle.rules.specs.Models.{ahead}
use Rattle.rules.specs.Verdict.{then, walk_field, walk_row}
use Rattle.rules.proofs.WalkSteps.{field_on_top}
use Rattle.rules.proofs.walk.check_fields.Goals as goal

pub loop-head-preserved : goal.loop-head-preserved
loop-head-preserved c =
    let F = walk_field c.args.bytes.now 32 in
    let x = c.in-Some.head in
    let fuel = c.loop-head.invariant.0 in
    let stands : (c.loop-head.at.records.now ≡ x ∷ c.in-Some.behind.records.now) × (c.in-Some.behind.pairs.now ≡ c.loop-head.at.pairs.now) = search rules in
    let long : length c.loop-head.at.records.now ≡ length (x ∷ c.in-Some.behind.records.now) = ap length stands.0 in
    let left : length c.in_ok-at.at.records.now ≤ length c.in-Some.behind.records.now = search rules in (
      fuel - 1,
      omega (arith, c.loop-head.invariant.1),
      ap (λ w. then w (λ a. walk_row F (fuel - 1) a.records a.pairs)) (c.in_ok-at.ensures.walk ∙ ap (λ r. F r x (ahead c.in-Some.behind)) c.outermost-row.ensures)
          ∙ sym (field_on_top F c.loop-head.at c.in-Some.behind x stands.0 stands.1 fuel c.loop-head.invariant.1)
          ∙ c.loop-head.invariant.2,
    )
