-- The verdict by its parts.
use Rattle.std.proofs.Common.{◌≡◌, ◌≤◌, true, cond, leb, ℕ, List, length, take, drop, Some, None, sym, ap, ◌∙◌}
use Rattle.std.proofs.lemmas.Bool.{le-leb}
use Rattle.types.specs.declared.FieldRecord.{FieldRecord}
use Rattle.types.specs.declared.Pair.{Pair}
use Rattle.sheet.specs.Contents.{Content}
use Rattle.rules.specs.declared.refusal.SheetRefusal.TheVariants.{TooLarge, Counts}
use Rattle.rules.specs.Verdict.{Walked, first_broken, within_limits, limit_rules, own_rules, walk_row, walk_field, walk_fields, closed, or_else, verdict}

module _ (c : Content) (e : within_limits c ≡ true) (h : c.own ≤ length c.pairs) where
  pub limits_kept : first_broken (limit_rules c) ≡ None
  limits_kept =
      ap (λ b. cond b (cond (leb c.own (length c.pairs)) None (Some Counts)) (Some TooLarge)) e
      ∙ ap (λ b. cond b None (Some Counts)) (le-leb c.own (length c.pairs) h)

  -- What stands after the limits: how the walk ended, and then the schema's own pairs.
  pub by_walk : (w : Walked) → walk_fields c ≡ w → verdict c ≡ closed w (λ left. first_broken (own_rules c.bytes (take c.own c.pairs) (length left)))
  by_walk w e =
      ap (λ o. or_else o (closed (walk_fields c) (λ left. first_broken (own_rules c.bytes (take c.own c.pairs) (length left))))) limits_kept
      ∙ ap (λ r. closed r (λ left. first_broken (own_rules c.bytes (take c.own c.pairs) (length left)))) e

-- The walk over what a sheet's slices hold is the walk over its content.
pub of_slices : (c : Content) (bytes : List ℕ) (records : List FieldRecord) (left : List Pair) → bytes ≡ c.bytes → records ≡ c.records → left ≡ drop c.own c.pairs
    → walk_fields c ≡ walk_row (walk_field bytes 32) (length records) records left
of_slices c bytes records left b r l = λ i. walk_row (walk_field (sym b i) 32) (length (sym r i)) (sym r i) (sym l i)
