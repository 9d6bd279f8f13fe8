-- The rules of a lawful sheet.
use Rattle.std.specs.Prelude.{◌≡◌, ℕ, ◌+◌, ◌<◌, ◌≤◌, true, List, [], ◌∷◌, map, length, take, IfSome, IsUtf8, ◌≢◌}
use Rattle.std.specs.List.{AllByRecursion}
use Rattle.types.specs.declared.Text.{Text}
use Rattle.types.specs.declared.Pair.{Pair}
use Rattle.types.specs.declared.FieldRecord.{FieldRecord}
use Rattle.sheet.specs.Contents.{Content}
use Rattle.sheet.specs.Forests.{Forest, counted}
use Rattle.sheet.specs.Texts.{said, Within}
use Rattle.types.specs.Types.{zone_of}
use Rattle.rules.specs.Tables.{child_rule, CountFits, unit_fits}
use Rattle.rules.specs.Sites.{Row, plain, inside_union, Site, site_pairs, pairs_in, sites_of}
use Rattle.rules.specs.Tests.{max_records, max_pairs, max_bytes, max_depth, max_type_id, summed_lengths, keys}

-- A record with the count of its children.
abbrev pub with_count : FieldRecord → FieldRecord × ℕ
with_count x = (x, x.children)

-- In a union a type id is at most 127 and differs from those before it; elsewhere it is 0.
abbrev pub IdFits : Row → ℕ → Type 0
IdFits plain id = id ≡ 0
IdFits (inside_union ids) id = (id ≤ max_type_id) × AllByRecursion (λ other. other ≢ id) ids

-- A text lies within the used bytes and is UTF-8.
abbrev pub TextFits : List ℕ → Text → Type 0
TextFits bytes t = Within bytes t × IsUtf8 (said bytes t)

-- Both texts of a pair do.
abbrev pub PairFits : List ℕ → Pair → Type 0
PairFits bytes p = TextFits bytes p.key × TextFits bytes p.value

-- All texts of a field do: name, zone, keys and values.
abbrev pub TextsFit : List ℕ → Site → Type 0
TextsFit bytes s = TextFits bytes s.head.name × IfSome (zone_of s.head.data_type) (TextFits bytes) × AllByRecursion (PairFits bytes) (site_pairs s)

-- No two of them are equal.
abbrev pub Differ : List (List ℕ) → Type 0
Differ [] = Unit {0}
Differ (k ∷ ks) = AllByRecursion (λ other. other ≢ k) ks × Differ ks

-- A lawful sheet. Its records are a row of fields, each followed by its children; every rule on fields is looked at where they stand.
pub record Lawful (c : Content) : Type 0 where
  pub few_records : length c.records ≤ max_records
  pub few_pairs : length c.pairs ≤ max_pairs
  pub few_bytes : length c.bytes ≤ max_bytes
  pub short_texts : summed_lengths c ≤ max_bytes
  pub fields : Forest FieldRecord
  pub records_used : counted fields ≡ map with_count c.records
  pub pairs_used : c.own + pairs_in fields ≡ length c.pairs
  pub child_counts : AllByRecursion (λ s. CountFits (child_rule s.head.data_type) s.head.children) (sites_of c fields)
  pub shallow : AllByRecursion (λ s. s.depth ≤ max_depth) (sites_of c fields)
  pub type_ids : AllByRecursion (λ s. IdFits s.row s.head.type_id) (sites_of c fields)
  pub units : AllByRecursion (λ s. unit_fits s.head.data_type ≡ true) (sites_of c fields)
  pub zones : AllByRecursion (λ s. IfSome (zone_of s.head.data_type) (λ t. 0 < t.len)) (sites_of c fields)
  pub texts : AllByRecursion (TextsFit c.bytes) (sites_of c fields)
  pub own_texts : AllByRecursion (PairFits c.bytes) (take c.own c.pairs)
  pub keys_differ : AllByRecursion (λ s. Differ (keys c.bytes (site_pairs s))) (sites_of c fields)
  pub own_keys_differ : Differ (keys c.bytes (take c.own c.pairs))
