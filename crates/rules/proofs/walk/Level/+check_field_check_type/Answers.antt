use Rattle.std.proofs.Common.{◌≡◌, ◌+◌, ◌-◌, ◌∷◌, Err, sym, ap, ◌∙◌, subst, arith, rules}
use Rattle.std.proofs.lemmas.Result.{err_from_is_err_and}
use Rattle.rules.specs.Tables.{child_rule}
use Rattle.rules.specs.Sites.{after, row_under}
use Rattle.rules.specs.Models.{row_of, ahead, walked, HasRoom}
use Rattle.rules.specs.Verdict.{then, walk_children, walk_field}
use Rattle.rules.proofs.RowSteps.{room_after}
use Rattle.rules.proofs.WalkSteps.{child_on, field_broken, field_kept}
use Rattle.rules.proofs.walk.Level.+check_field_check_type.Goals as goal

pub check_field-returns-in_err-past-clause-walk : goal.check_field-returns-in_err-past-clause-walk
check_field-returns-in_err-past-clause-walk t c =
    let p = err_from_is_err_and c.from_residual.result c.from_residual.ensures.1 in
    ap walked (p.1 ∙ ap Err p.2)
    ∙ sym (field_broken c.args.self.now.bytes.now (row_of c.args.row.now) c.args.head (ahead c.args.from) c.args.self.now.room _ (sym c.in_err-past.ensures.rules))

pub check_field-returns-clause-walk : goal.check_field-returns-clause-walk
check_field-returns-clause-walk t c =
    let x = c.args.head in
    let ok = c.in_ok-past.ensures in
    c.check_type.ensures.walk
    ∙ ap (λ bytes. walk_children (walk_field bytes c.below.result.room) x.children (row_under (child_rule x.data_type)) (ahead c.in_ok-past.past)) c.below.ensures.bytes
    ∙ ap (λ room. walk_children (walk_field c.args.self.now.bytes.now room) x.children (row_under (child_rule x.data_type)) (ahead c.in_ok-past.past)) c.below.ensures.room
    ∙ ap (walk_children (walk_field c.args.self.now.bytes.now (c.args.self.now.room - 1)) x.children (row_under (child_rule x.data_type))) ok.past
    ∙ sym (field_kept c.args.self.now.bytes.now (row_of c.args.row.now) x (ahead c.args.from) c.args.self.now.room ok.fits.0 (sym ok.rules))

pub check_type-returns-in_err-at-clause-walk : goal.check_type-returns-in_err-at-clause-walk
check_type-returns-in_err-at-clause-walk t c =
    let n = c.args.head.children in
    let F = walk_field c.args.self.now.bytes.now c.args.self.now.room in
    let x = c.in_ok-child.child in
    let p = err_from_is_err_and c.from_residual-in_err-at.result c.from_residual-in_err-at.ensures.1 in
    let stands : (c.loop.at.records.now ≡ x ∷ c.in_ok-child.behind.records.now) × (c.in_ok-child.behind.pairs.now ≡ c.loop.at.pairs.now) = search rules in
    ap walked (p.1 ∙ ap Err p.2)
    ∙ ap (λ w. then w (walk_children F (n - (c.loop.counter + 1)) (after (row_of c.loop.row) x.type_id))) c.in_err-at.ensures.walk
    ∙ sym (child_on F c.loop.at c.in_ok-child.behind x stands.0 stands.1 n c.loop.counter (row_of c.loop.row) c.loop-test.true)
    ∙ c.loop.invariant.0

pub check_type-loop-preserved : goal.check_type-loop-preserved
check_type-loop-preserved t c =
    let n = c.args.head.children in
    let m = n - (c.loop.counter + 1) in
    let F = walk_field c.args.self.now.bytes.now c.args.self.now.room in
    let x = c.in_ok-child.child in
    let row = row_of c.loop.row in
    let stands : (c.loop.at.records.now ≡ x ∷ c.in_ok-child.behind.records.now) × (c.in_ok-child.behind.pairs.now ≡ c.loop.at.pairs.now) = search rules in (
      ap (λ r. walk_children F m r (ahead c.in_ok-at.at)) c.note.ensures
          ∙ ap (λ w. then w (walk_children F m (after row x.type_id))) c.in_ok-at.ensures.walk
          ∙ sym (child_on F c.loop.at c.in_ok-child.behind x stands.0 stands.1 n c.loop.counter row c.loop-test.true)
          ∙ c.loop.invariant.0,
      search rules,
      subst (λ r. HasRoom r m) (sym c.note.ensures) (room_after row x.type_id m (n - c.loop.counter) (omega arith) c.loop.invariant.2),
    )
