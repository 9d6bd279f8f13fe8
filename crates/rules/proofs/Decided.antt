-- Each test of the check decides its rule.
use Rattle.std.proofs.Common.{◌≡◌, ℕ, ◌+◌, ◌<◌, ◌≤◌, Bool, true, false, cond, not, ◌&&◌, eqb, leb, List, [], ◌∷◌, length, IfSome, Some, None, IsUtf8, Decides, Option, refl, ap, ◌∙◌, arith}
use Rattle.std.specs.List.{AllByRecursion}
use Rattle.std.specs.Str.{bytes_eq}
use Rattle.std.proofs.lemmas.Slice.Eq.{bytes_eq-Decides}
use Rattle.std.proofs.lemmas.Bool.{and_parts, and_from, or_parts, or_from, leb-true, le-leb, eqb-true, eqb-false, eq-eqb, ne_eqb, both_ways, not-true, not_from_false}
use Rattle.types.specs.declared.Text.{Text}
use Rattle.types.specs.declared.Pair.{Pair}
use Rattle.types.specs.Types.{zone_of}
use Rattle.sheet.specs.Texts.{said, Within}
use Rattle.rules.specs.declared.tables.ChildRule.{ChildRule}
use Rattle.rules.specs.declared.tables.ChildRule.TheVariants.{Leaf, One, Two, Any, OfUnion}
use Rattle.rules.specs.declared.refusal.SheetRefusal.{SheetRefusal}
use Rattle.rules.specs.Tables.{child_rule, CountFits, count_fits, unit_fits}
use Rattle.rules.specs.Sites.{Row, plain, inside_union, Site, site_pairs}
use Rattle.rules.specs.Tests.{max_depth, among, id_fits, zone_fits, text_fits, zone_text_fits, pair_fits, every, texts_fit, keys, lacks, all_differ}
use Rattle.rules.specs.Lawful.{IdFits, TextFits, PairFits, TextsFit, Differ}
use Rattle.rules.specs.Verdict.{Rules, first_broken, field_rules}
use Rattle.rules.proofs.Utf8.{utf8_decided}

not_decided : (P : Type 0) (b : Bool) → Decides b P → Decides (not b) (P → ⊥)
not_decided P true d = (λ e p. both_ways false refl e, λ n. absurd (n (d.0 refl)))
not_decided P false d = (λ e p. both_ways false refl (d.1 p), λ n. refl)

and_decided : (P Q : Type 0) (a b : Bool) → Decides a P → Decides b Q → Decides (a && b) (P × Q)
and_decided P Q a b d e = (λ t. let p = and_parts a b t in (d.0 p.0, e.0 p.1), λ p. and_from a b (d.1 p.0) (e.1 p.1))

leb_decided : (a b : ℕ) → Decides (leb a b) (a ≤ b)
leb_decided a b = (leb-true a b, le-leb a b)

eqb_decided : (a b : ℕ) → Decides (eqb a b) (a ≡ b)
eqb_decided a b = (eqb-true a b, eq-eqb a b)

pub every_decided : {A : Type 0} (P : A → Type 0) (test : A → Bool) → ((x : A) → Decides (test x) (P x)) → (xs : List A) → Decides (every test xs) (AllByRecursion P xs)
every_decided P test d [] = (λ e. tt, λ a. refl)
every_decided P test d (x ∷ xs) = and_decided (P x) (AllByRecursion P xs) (test x) (every test xs) (d x) (every_decided P test d xs)

count_decided : (r : ChildRule) (n : ℕ) → Decides (count_fits r n) (CountFits r n)
count_decided Leaf n = eqb_decided n 0
count_decided One n = eqb_decided n 1
count_decided Two n = eqb_decided n 2
count_decided Any n = (λ e. tt, λ u. refl)
count_decided OfUnion n = leb_decided n 128

new_decided : (id : ℕ) (ids : List ℕ) → Decides (not (among id ids)) (AllByRecursion (λ other. other ≡ id → ⊥) ids)
new_decided id [] = (λ e. tt, λ a. refl)
new_decided id (x ∷ xs) =
    let d = new_decided id xs in (
      λ e. let p = or_parts (eqb x id) (among id xs) (not-true _ e) in (eqb-false x id p.0, d.0 (not_from_false _ p.1)),
      λ a. not_from_false _ (or_from (eqb x id) (among id xs) (ne_eqb x id a.0) (not-true _ (d.1 a.1))),
    )

id_decided : (row : Row) (id : ℕ) → Decides (id_fits row id) (IdFits row id)
id_decided plain id = eqb_decided id 0
id_decided (inside_union ids) id = and_decided (id ≤ 127) (AllByRecursion (λ other. other ≡ id → ⊥) ids) (leb id 127) (not (among id ids)) (leb_decided id 127) (new_decided id ids)

zone_decided : (o : Option Text) → Decides (zone_fits o) (IfSome o (λ t. 0 < t.len))
zone_decided None = (λ e. tt, λ u. refl)
zone_decided (Some t) = (
  λ e. let n = eqb-false t.len 0 (not-true _ e) in omega (arith, n),
  λ h. not_from_false _ (ne_eqb t.len 0 (λ z. omega arith)),
)

module _ (bytes : List ℕ) where
  text_decided : (t : Text) → Decides (text_fits bytes t) (TextFits bytes t)
  text_decided t = and_decided (Within bytes t) (IsUtf8 (said bytes t)) _ _ (leb_decided (t.start + t.len) (length bytes)) (utf8_decided (said bytes t))

  zone_text_decided : (o : Option Text) → Decides (zone_text_fits bytes o) (IfSome o (TextFits bytes))
  zone_text_decided None = (λ e. tt, λ u. refl)
  zone_text_decided (Some t) = text_decided t

  pub pair_decided : (p : Pair) → Decides (pair_fits bytes p) (PairFits bytes p)
  pair_decided p = and_decided (TextFits bytes p.key) (TextFits bytes p.value) _ _ (text_decided p.key) (text_decided p.value)

  texts_decided : (s : Site) → Decides (texts_fit bytes s.head (site_pairs s)) (TextsFit bytes s)
  texts_decided s =
      let n = text_decided s.head.name in
      let z = zone_text_decided (zone_of s.head.data_type) in
      let p = every_decided (PairFits bytes) (pair_fits bytes) pair_decided (site_pairs s) in (
        λ e. let a = and_parts _ _ e in let b = and_parts _ _ a.0 in (n.0 b.0, z.0 b.1, p.0 a.1),
        λ t. and_from _ _ (and_from _ _ (n.1 t.0) (z.1 t.1)) (p.1 t.2),
      )

lacks_decided : (k : List ℕ) (ks : List (List ℕ)) → Decides (lacks k ks) (AllByRecursion (λ other. other ≡ k → ⊥) ks)
lacks_decided k ks = every_decided (λ other. other ≡ k → ⊥) (λ other. not (bytes_eq other k)) (λ other. not_decided (other ≡ k) (bytes_eq other k) (bytes_eq-Decides other k)) ks

pub differ_decided : (ks : List (List ℕ)) → Decides (all_differ ks) (Differ ks)
differ_decided [] = (λ e. tt, λ u. refl)
differ_decided (k ∷ ks) = and_decided (AllByRecursion (λ other. other ≡ k → ⊥) ks) (Differ ks) (lacks k ks) (all_differ ks) (lacks_decided k ks) (differ_decided ks)

-- No rule is broken where every test holds.
passed : (b : Bool) (o : Option SheetRefusal) (e : SheetRefusal) → cond b o (Some e) ≡ None → (b ≡ true) × (o ≡ None)
passed true o e h = (refl, h)
passed false o e h = let z : ◌≡◌ {A = ℕ} 0 1 = cc in absurd (omega arith)

pub unbroken : (rs : Rules) → first_broken rs ≡ None → AllByRecursion (λ r. r.0 ≡ true) rs
unbroken [] e = tt
unbroken (r ∷ rs) e = let p = passed r.0 (first_broken rs) r.1 e in (p.0, unbroken rs p.1)

pub intact : (rs : Rules) → AllByRecursion (λ r. r.0 ≡ true) rs → first_broken rs ≡ None
intact [] a = refl
intact (r ∷ rs) a = ap (λ b. cond b (first_broken rs) (Some r.1)) a.0 ∙ intact rs a.1

-- What the rules of a field ask.
pub record Fits (bytes : List ℕ) (s : Site) : Type 0 where
  pub count : CountFits (child_rule s.head.data_type) s.head.children
  pub pairs : s.head.pairs ≤ length s.left
  pub depth : s.depth ≤ max_depth
  pub type_id : IdFits s.row s.head.type_id
  pub unit : unit_fits s.head.data_type ≡ true
  pub zone : IfSome (zone_of s.head.data_type) (λ t. 0 < t.len)
  pub texts : TextsFit bytes s
  pub keys_differ : Differ (keys bytes (site_pairs s))

module _ (bytes : List ℕ) (s : Site) where
  pub fits_from : first_broken (field_rules bytes s) ≡ None → Fits bytes s
  fits_from e =
      let a = unbroken (field_rules bytes s) e in
      let counts = and_parts _ _ a.0 in
      let rest = and_parts _ _ a.1.1.0 in
      let ids = and_parts _ _ rest.0 in
      record {
        count = (count_decided _ _).0 counts.0;
        pairs = leb-true _ _ counts.1;
        depth = leb-true _ _ a.1.0;
        type_id = (id_decided _ _).0 ids.0;
        unit = ids.1;
        zone = (zone_decided (zone_of s.head.data_type)).0 rest.1;
        texts = (texts_decided bytes s).0 a.1.1.1.0;
        keys_differ = (differ_decided (keys bytes (site_pairs s))).0 a.1.1.1.1.0;
      }

  pub fits_to : Fits bytes s → first_broken (field_rules bytes s) ≡ None
  fits_to f =
      intact (field_rules bytes s) (
        and_from _ _ ((count_decided (child_rule s.head.data_type) s.head.children).1 f.count) (le-leb _ _ f.pairs),
        (
          le-leb _ _ f.depth,
          (
            and_from _ _ (and_from _ _ ((id_decided s.row s.head.type_id).1 f.type_id) f.unit) ((zone_decided (zone_of s.head.data_type)).1 f.zone),
            ((texts_decided bytes s).1 f.texts, ((differ_decided (keys bytes (site_pairs s))).1 f.keys_differ, tt)),
          ),
        ),
      )
