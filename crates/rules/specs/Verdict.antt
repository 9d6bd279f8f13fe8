-- The verdict on a sheet: the first rule that is broken, in the order of the check.
use Rattle.std.specs.Prelude.{ℕ, zero, suc, ◌-◌, Bool, cond, ◌&&◌, List, [], ◌∷◌, length, take, drop, Some, None, Ok, Err, Option, Result, ◌==◌, nat_le}
use Rattle.types.specs.declared.FieldRecord.{FieldRecord}
use Rattle.types.specs.declared.Pair.{Pair}
use Rattle.sheet.specs.Contents.{Content}
use Rattle.types.specs.Types.{zone_of}
use Rattle.rules.specs.declared.refusal.SheetRefusal.{SheetRefusal}
use Rattle.rules.specs.declared.refusal.SheetRefusal.TheVariants.{TooLarge, Counts, TooDeep, Parameter, BadText, RepeatedKey}
use Rattle.rules.specs.Tables.{child_rule, count_fits, unit_fits}
use Rattle.rules.specs.Sites.{Row, plain, Site, row_under, after, site_pairs}
use Rattle.rules.specs.Tests.{max_records, max_pairs, max_bytes, max_depth, summed_lengths, id_fits, zone_fits, texts_fit, pair_fits, every, keys, all_differ}

-- Rules in the order in which they are looked at, each a test and the refusal where it fails.
abbrev pub Rules : Type 0
Rules = List (Bool × SheetRefusal)

-- The refusal of the first rule whose test fails.
abbrev pub first_broken : Rules → Option SheetRefusal
first_broken [] = None
first_broken (r ∷ rs) = cond r.0 (first_broken rs) (Some r.1)

-- The used counts and the summed lengths keep their limits.
abbrev pub within_limits : Content → Bool
within_limits c =
    ((nat_le (length c.records) max_records && nat_le (length c.pairs) max_pairs) && nat_le (length c.bytes) max_bytes)
    && nat_le (summed_lengths c) max_bytes

-- What is looked at before any record.
abbrev pub limit_rules : Content → Rules
limit_rules c =
    (within_limits c, TooLarge)
    ∷ (nat_le c.own (length c.pairs), Counts)
    ∷ []

-- The counts of a field fit its type and the pairs that are left.
abbrev pub counts_fit : Site → Bool
counts_fit s = count_fits (child_rule s.head.data_type) s.head.children && nat_le s.head.pairs (length s.left)

-- The type id fits the row, the unit the type, and the zone is not empty.
abbrev pub parameters_fit : Site → Bool
parameters_fit s =
    (id_fits s.row s.head.type_id && unit_fits s.head.data_type) && zone_fits (zone_of s.head.data_type)

-- What is looked at of the texts of a record with these pairs.
abbrev pub text_rules : List ℕ → FieldRecord → List Pair → Rules
text_rules bytes x ps =
    (texts_fit bytes x ps, BadText)
    ∷ (all_differ (keys bytes ps), RepeatedKey)
    ∷ []

-- What is looked at on coming to a field.
abbrev pub field_rules : List ℕ → Site → Rules
field_rules bytes s =
    (counts_fit s, Counts)
    ∷ (nat_le s.depth max_depth, TooDeep)
    ∷ (parameters_fit s, Parameter)
    ∷ text_rules bytes s.head (site_pairs s)

-- What is looked at after the last record, with the schema's own pairs and the count of pairs that are left over.
abbrev pub own_rules : List ℕ → List Pair → ℕ → Rules
own_rules bytes ps left =
    (every (pair_fits bytes) ps, BadText)
    ∷ (all_differ (keys bytes ps), RepeatedKey)
    ∷ ((left == 0), Counts)
    ∷ []

-- What a walk has not come to yet.
pub record Ahead : Type 0 where
  pub records : List FieldRecord
  pub pairs : List Pair

abbrev pub Walked : Type 0
Walked = Result Ahead SheetRefusal

abbrev pub unless : Option SheetRefusal → Walked → Walked
unless None w = w
unless (Some e) w = Err e

abbrev pub then : Walked → (Ahead → Walked) → Walked
then (Ok a) f = f a
then (Err e) f = Err e

-- On to the next record; where there is none, a child is lacking.
abbrev pub next : List FieldRecord → List Pair → (FieldRecord → Ahead → Walked) → Walked
next [] ps f = Err Counts
next (x ∷ xs) ps f = f x (record { records = xs; pairs = ps })

-- Past n children of a field, one after another.
abbrev pub walk_children : (Row → FieldRecord → Ahead → Walked) → ℕ → Row → Ahead → Walked
walk_children field zero row a = Ok a
walk_children field (suc n) row a = next a.records a.pairs (λ x b. then (field row x b) (walk_children field n (after row x.type_id)))

-- The field x with `room` levels left for it and what is nested in it.
abbrev pub site_at : ℕ → Row → FieldRecord → Ahead → Site
site_at room row x a = record { head = x; depth = suc max_depth - room; row = row; left = a.pairs }

abbrev pub past_pairs : FieldRecord → Ahead → Ahead
past_pairs x a = record { records = a.records; pairs = drop x.pairs a.pairs }

-- Past the field x and all that is nested in it.
abbrev pub walk_field : List ℕ → ℕ → Row → FieldRecord → Ahead → Walked
walk_field bytes zero row x a = unless (first_broken (field_rules bytes (site_at zero row x a))) (Err TooDeep)
walk_field bytes (suc room) row x a =
    unless (first_broken (field_rules bytes (site_at (suc room) row x a)))
    (walk_children (walk_field bytes room) x.children (row_under (child_rule x.data_type)) (past_pairs x a))

-- Past the outermost fields, to the end of the records; `fuel` is no less than how many there are.
abbrev pub walk_row : (Row → FieldRecord → Ahead → Walked) → ℕ → List FieldRecord → List Pair → Walked
walk_row field fuel [] ps = Ok (record { records = []; pairs = ps })
walk_row field zero (x ∷ xs) ps = Ok (record { records = x ∷ xs; pairs = ps })
walk_row field (suc fuel) (x ∷ xs) ps =
    then (field plain x (record { records = xs; pairs = ps })) (λ a. walk_row field fuel a.records a.pairs)

abbrev pub walk_fields : Content → Walked
walk_fields c = walk_row (walk_field c.bytes max_depth) (length c.records) c.records (drop c.own c.pairs)

abbrev pub closed : Walked → (List Pair → Option SheetRefusal) → Option SheetRefusal
closed (Ok a) f = f a.pairs
closed (Err e) f = Some e

abbrev pub or_else : Option SheetRefusal → Option SheetRefusal → Option SheetRefusal
or_else None o = o
or_else (Some e) o = Some e

-- The refusal that the check gives, or none.
abbrev pub verdict : Content → Option SheetRefusal
verdict c = or_else (first_broken (limit_rules c)) (closed (walk_fields c) (λ left. first_broken (own_rules c.bytes (take c.own c.pairs) (length left))))
