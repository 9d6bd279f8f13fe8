-- The verdict is none exactly when the rules hold.
use Rattle.std.proofs.Common.{◌≡◌, ℕ, ◌<◌, ◌≤◌, true, List, [], ◌∷◌, ◌++◌, map, length, take, drop, IfSome, Some, None, Ok, Err, Option, Result, sym, refl, ap, ◌∙◌, subst, arith}
use Rattle.std.specs.Result as results
use Rattle.std.specs.List.{AllByRecursion}
use Rattle.std.proofs.lemmas.List.{map-append, length-drop}
use Rattle.std.proofs.ByRecursion.{All-weaker, All-append}
use Rattle.std.proofs.lemmas.Bool.{and_parts, and_from, leb-true, le-leb, eqb-true, eq-eqb}
use Rattle.types.specs.declared.FieldRecord.{FieldRecord}
use Rattle.types.specs.declared.Pair.{Pair}
use Rattle.types.specs.Types.{zone_of}
use Rattle.sheet.specs.Contents.{Content}
use Rattle.sheet.specs.Forests.{Forest, none, tree, counted}
use Rattle.rules.specs.declared.refusal.SheetRefusal.{SheetRefusal}
use Rattle.rules.specs.Tables.{child_rule, CountFits, unit_fits}
use Rattle.rules.specs.Tests.{max_depth, pair_fits, keys}
use Rattle.rules.specs.Sites.{Row, plain, Site, site_pairs, pairs_in, sites, sites_of}
use Rattle.rules.specs.Lawful.{with_count, IdFits, PairFits, TextsFit, Differ, Lawful}
use Rattle.rules.specs.Verdict.{Ahead, Walked, first_broken, within_limits, limit_rules, own_rules, walk_field, walk_row, walk_fields, closed, or_else, verdict}
use Rattle.rules.specs.Models.{told}
use Rattle.rules.proofs.Decided.{Fits, fits_from, fits_to, unbroken, intact, every_decided, pair_decided, differ_decided}
use Rattle.rules.proofs.Grown.{preorder, Right, Sound, grown_rows, walked_rows, all_left, all_right}
use Rattle.rules.proofs.VerdictSteps.{by_walk}

-- Between a row and the records that spell it.
spell : (f : Forest FieldRecord) → Right f → counted f ≡ map with_count (preorder f)
spell none r = refl
spell (tree x kids rest) r =
    ap (λ n. (x, n) ∷ (counted kids ++ counted rest)) r.0
    ∙ ap (λ l. with_count x ∷ l) (ap (λ l. l ++ counted rest) (spell kids r.1) ∙ ap (λ l. map with_count (preorder kids) ++ l) (spell rest r.2) ∙ sym (map-append with_count (preorder kids) (preorder rest)))

firsts : (f : Forest FieldRecord) → map (λ p. p.0) (counted f) ≡ preorder f
firsts none = refl
firsts (tree x kids rest) =
    ap (λ l. x ∷ l) (map-append (λ (p : FieldRecord × ℕ). p.0) (counted kids) (counted rest) ∙ ap (λ l. l ++ map (λ (p : FieldRecord × ℕ). p.0) (counted rest)) (firsts kids) ∙ ap (λ l. preorder kids ++ l) (firsts rest))

plainly : (xs : List FieldRecord) → map (λ p. p.0) (map with_count xs) ≡ xs
plainly [] = refl
plainly (x ∷ xs) = ap (λ l. x ∷ l) (plainly xs)

abbrev SaysOwn : FieldRecord × ℕ → Type 0
SaysOwn p = p.1 ≡ p.0.children

all_say : (xs : List FieldRecord) → AllByRecursion SaysOwn (map with_count xs)
all_say [] = tt
all_say (x ∷ xs) = (refl, all_say xs)

right_from : (f : Forest FieldRecord) → AllByRecursion SaysOwn (counted f) → Right f
right_from none a = tt
right_from (tree x kids rest) a = (a.0, right_from kids (all_left SaysOwn (counted kids) (counted rest) a.1), right_from rest (all_right SaysOwn (counted kids) (counted rest) a.1))

module _ (f : Forest FieldRecord) (xs : List FieldRecord) (e : counted f ≡ map with_count xs) where
  pub spelt_by : preorder f ≡ xs
  spelt_by = sym (firsts f) ∙ ap (map (λ p. p.0)) e ∙ plainly xs

  pub right_by : Right f
  right_by = right_from f (subst (AllByRecursion SaysOwn) (sym e) (all_say xs))

or_none : (o p : Option SheetRefusal) → or_else o p ≡ None → (o ≡ None) × (p ≡ None)
or_none None p e = (refl, e)
or_none (Some x) p e = let z : ◌≡◌ {A = ℕ} 0 1 = cc in absurd (omega arith)

closed_none : (w : Walked) (f : List Pair → Option SheetRefusal) → closed w f ≡ None → (a : Ahead) × (w ≡ Ok a) × (f a.pairs ≡ None)
closed_none (Ok a) f e = (a, refl, e)
closed_none (Err x) f e = let z : ◌≡◌ {A = ℕ} 0 1 = cc in absurd (omega arith)

-- The fields of a rule on all sites.
module _ (bytes : List ℕ) (ss : List Site) where
  fits_all : AllByRecursion (Sound bytes) ss → AllByRecursion (Fits bytes) ss
  fits_all = All-weaker (Sound bytes) (Fits bytes) (fits_from bytes) ss

module _ (c : Content) where
  pub lawful_from : verdict c ≡ None → Lawful c
  lawful_from v =
      let o = or_none (first_broken (limit_rules c)) _ v in
      let limits = unbroken (limit_rules c) o.0 in
      let large = and_parts _ _ limits.0 in
      let bytes = and_parts _ _ large.0 in
      let few = and_parts _ _ bytes.0 in
      let end = closed_none (walk_fields c) (λ left. first_broken (own_rules c.bytes (take c.own c.pairs) (length left))) o.1 in
      let rows = grown_rows c.bytes (length c.records) c.records (drop c.own c.pairs) end.0 (omega arith) end.1 in
      let own = unbroken (own_rules c.bytes (take c.own c.pairs) (length end.0.pairs)) end.2 in
      let left = eqb-true (length end.0.pairs) 0 own.1.1.0 in
      let all = fits_all c.bytes (sites_of c rows.forest) rows.sound in
      let ss = sites_of c rows.forest in
      record {
        few_records = leb-true _ _ few.0;
        few_pairs = leb-true _ _ few.1;
        few_bytes = leb-true _ _ bytes.1;
        short_texts = leb-true _ _ large.1;
        fields = rows.forest;
        records_used = spell rows.forest rows.right ∙ ap (map with_count) (sym rows.spelt);
        pairs_used = omega (arith, leb-true _ _ limits.1.0, left, ap length rows.used, rows.few, length-drop (pairs_in rows.forest) (drop c.own c.pairs), length-drop c.own c.pairs);
        child_counts = All-weaker (Fits c.bytes) _ (λ s f. f.count) ss all;
        shallow = All-weaker (Fits c.bytes) _ (λ s f. f.depth) ss all;
        type_ids = All-weaker (Fits c.bytes) _ (λ s f. f.type_id) ss all;
        units = All-weaker (Fits c.bytes) _ (λ s f. f.unit) ss all;
        zones = All-weaker (Fits c.bytes) _ (λ s f. f.zone) ss all;
        texts = All-weaker (Fits c.bytes) _ (λ s f. f.texts) ss all;
        own_texts = (every_decided (PairFits c.bytes) (pair_fits c.bytes) (pair_decided c.bytes) (take c.own c.pairs)).0 own.0;
        keys_differ = All-weaker (Fits c.bytes) _ (λ s f. f.keys_differ) ss all;
        own_keys_differ = (differ_decided (keys c.bytes (take c.own c.pairs))).0 own.1.0;
      }

-- Where all pairs of a row are there, each field finds its own.
pairs_at : (f : Forest FieldRecord) (k : ℕ) (row : Row) (ps : List Pair) → pairs_in f ≤ length ps → AllByRecursion (λ s. s.head.pairs ≤ length s.left) (sites k row ps f)
pairs_at none k row ps h = tt
pairs_at (tree x kids rest) k row ps h =
    let a = length-drop x.pairs ps in
    let b = length-drop (pairs_in kids) (drop x.pairs ps) in (
      omega arith,
      All-append (λ s. s.head.pairs ≤ length s.left) _ _
          (pairs_at kids _ _ (drop x.pairs ps) (omega (arith, a, h)))
          (pairs_at rest _ _ (drop (pairs_in kids) (drop x.pairs ps)) (omega (arith, a, b, h))),
    )

-- All rules of each field together.
module _ (bytes : List ℕ) where
  together : (ss : List Site)
      → AllByRecursion (λ s. CountFits (child_rule s.head.data_type) s.head.children) ss
      → AllByRecursion (λ s. s.head.pairs ≤ length s.left) ss
      → AllByRecursion (λ s. s.depth ≤ max_depth) ss
      → AllByRecursion (λ s. IdFits s.row s.head.type_id) ss
      → AllByRecursion (λ s. unit_fits s.head.data_type ≡ true) ss
      → AllByRecursion (λ s. IfSome (zone_of s.head.data_type) (λ t. 0 < t.len)) ss
      → AllByRecursion (TextsFit bytes) ss
      → AllByRecursion (λ s. Differ (keys bytes (site_pairs s))) ss
      → AllByRecursion (Sound bytes) ss
  together [] a b c d e f g h = tt
  together (s ∷ ss) a b c d e f g h = (
    fits_to bytes s (record { count = a.0; pairs = b.0; depth = c.0; type_id = d.0; unit = e.0; zone = f.0; texts = g.0; keys_differ = h.0 }),
    together ss a.1 b.1 c.1 d.1 e.1 f.1 g.1 h.1,
  )

module _ (c : Content) (l : Lawful c) where
  kept : within_limits c ≡ true
  kept = and_from _ _ (and_from _ _ (and_from _ _ (le-leb _ _ l.few_records) (le-leb _ _ l.few_pairs)) (le-leb _ _ l.few_bytes)) (le-leb _ _ l.short_texts)

  after_own : length (drop c.own c.pairs) ≡ pairs_in l.fields
  after_own = omega (arith, l.pairs_used, length-drop c.own c.pairs)

  sound : AllByRecursion (Sound c.bytes) (sites_of c l.fields)
  sound =
      together c.bytes (sites_of c l.fields) l.child_counts (pairs_at l.fields 1 plain (drop c.own c.pairs) (omega (arith, after_own))) l.shallow
      l.type_ids l.units l.zones l.texts l.keys_differ

  ends : walk_fields c ≡ Ok (record { records = []; pairs = drop (pairs_in l.fields) (drop c.own c.pairs) })
  ends =
      let spelt = spelt_by l.fields c.records l.records_used in
      ap (λ xs. walk_row (walk_field c.bytes 32) (length c.records) xs (drop c.own c.pairs)) (sym spelt)
      ∙ walked_rows c.bytes l.fields (length c.records) (drop c.own c.pairs) (omega (arith, ap length spelt)) (right_by l.fields c.records l.records_used) sound

  pub lawful_to : verdict c ≡ None
  lawful_to =
      let used = length-drop (pairs_in l.fields) (drop c.own c.pairs) in
      by_walk c kept (omega (arith, l.pairs_used)) (Ok (record { records = []; pairs = drop (pairs_in l.fields) (drop c.own c.pairs) })) ends
      ∙ intact (own_rules c.bytes (take c.own c.pairs) (length (drop (pairs_in l.fields) (drop c.own c.pairs)))) (
        (every_decided (PairFits c.bytes) (pair_fits c.bytes) (pair_decided c.bytes) (take c.own c.pairs)).1 l.own_texts,
        (
          (differ_decided (keys c.bytes (take c.own c.pairs))).1 l.own_keys_differ,
          (eq-eqb _ _ (omega (arith, after_own, used)), tt),
        ),
      )

pub judged : {T : Type 0} (c : Content) (r : Result T SheetRefusal) → told r ≡ verdict c → results.MatchResult r (λ _. Lawful c) (λ _. Lawful c → ⊥)
judged c (Ok x) e = lawful_from c (sym e)
judged c (Err x) e = λ l. let v = lawful_to c l in let z : ◌≡◌ {A = ℕ} 0 1 = cc in omega arith
