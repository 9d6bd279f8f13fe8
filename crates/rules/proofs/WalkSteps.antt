-- Steps of the walk over the records.
use Rattle.std.proofs.Common.{◌≡◌, ℕ, zero, suc, ◌+◌, ◌-◌, ◌<◌, ◌≤◌, List, ◌∷◌, length, Some, None, Err, ap, ◌∙◌, sym, arith}
use Rattle.types.specs.declared.FieldRecord.{FieldRecord}
use Rattle.sheet.specs.declared.unread.Unread.{Unread}
use Rattle.rules.specs.declared.refusal.SheetRefusal.{SheetRefusal}
use Rattle.rules.specs.declared.refusal.SheetRefusal.TheVariants.{TooDeep}
use Rattle.rules.specs.Tables.{child_rule}
use Rattle.rules.specs.Sites.{Row, plain, after, row_under}
use Rattle.rules.specs.Models.{ahead}
use Rattle.rules.specs.Verdict.{Ahead, Walked, unless, then, first_broken, field_rules, site_at, past_pairs, walk_children, walk_field, walk_row}

-- Where the next record is x, the walk goes on with x and then with what x left.
module _ (field : Row → FieldRecord → Ahead → Walked) (at behind : Unread) (x : FieldRecord) (records : at.records.now ≡ x ∷ behind.records.now) (pairs : behind.pairs.now ≡ at.pairs.now) where
  stands : ahead at ≡ record { records = x ∷ behind.records.now; pairs = behind.pairs.now }
  stands = λ i. record { records = records i; pairs = sym pairs i }

  pub child_on : (n k : ℕ) (row : Row) → k < n → walk_children field (n - k) row (ahead at) ≡ then (field row x (ahead behind)) (walk_children field (n - (k + 1)) (after row x.type_id))
  child_on n k row h =
      let more : n - k ≡ suc (n - (k + 1)) = omega arith in
      ap (λ m. walk_children field m row (ahead at)) more ∙ ap (walk_children field (suc (n - (k + 1))) row) stands

  pub field_on_top : (fuel : ℕ) → length at.records.now ≤ fuel → walk_row field fuel at.records.now at.pairs.now ≡ then (field plain x (ahead behind)) (λ a. walk_row field (fuel - 1) a.records a.pairs)
  field_on_top fuel h =
      let long : length at.records.now ≡ suc (length behind.records.now) = ap length records in
      let more : fuel ≡ suc (fuel - 1) = omega arith in
      ap (λ m. walk_row field m at.records.now at.pairs.now) more ∙ ap (λ a. walk_row field (suc (fuel - 1)) a.records a.pairs) stands

module _ (bytes : List ℕ) (row : Row) (x : FieldRecord) (a : Ahead) where
  pub field_broken : (room : ℕ) (e : SheetRefusal) → first_broken (field_rules bytes (site_at room row x a)) ≡ Some e → walk_field bytes room row x a ≡ Err e
  field_broken zero e h = ap (λ o. unless o (Err TooDeep)) h
  field_broken (suc room) e h = ap (λ o. unless o (walk_children (walk_field bytes room) x.children (row_under (child_rule x.data_type)) (past_pairs x a))) h

  pub field_kept : (room : ℕ) → 0 < room → first_broken (field_rules bytes (site_at room row x a)) ≡ None
      → walk_field bytes room row x a ≡ walk_children (walk_field bytes (room - 1)) x.children (row_under (child_rule x.data_type)) (past_pairs x a)
  field_kept zero l h = absurd (omega arith)
  field_kept (suc room) l h =
      let same : room ≡ suc room - 1 = omega arith in
      ap (λ o. unless o (walk_children (walk_field bytes room) x.children (row_under (child_rule x.data_type)) (past_pairs x a))) h
      ∙ ap (λ m. walk_children (walk_field bytes m) x.children (row_under (child_rule x.data_type)) (past_pairs x a)) same
