-- Records with counts that fit spell exactly one row of fields, so a lawful sheet holds exactly one schema.
use Rattle.std.proofs.Common.{◌≡◌, ℕ, suc, List, [], ◌∷◌, ◌++◌, map, take, drop, IfOk, Ok, Err, Result, sym, refl, ap, ◌∙◌, arith, MatchResult}
use Rattle.std.proofs.lemmas.List.{append_assoc, append-nil, map-append}
use Rattle.types.specs.declared.FieldRecord.{FieldRecord}
use Rattle.types.specs.declared.Pair.{Pair}
use Rattle.sheet.specs.Contents.{Content}
use Rattle.sheet.specs.Forests.{Forest, none, tree, width, counted, mapped_forest}
use Rattle.sheet.specs.Schemas.{Field, PairValue, Schema, numbers_of, pair_value, listed, HoldsOne}
use Rattle.rules.specs.Lawful.{with_count, Lawful}

abbrev counts : {A : Type 0} → List (A × ℕ) → List ℕ
counts l = map (λ p. p.1) l

module _ {A : Type 0} where
  tree_from : {x y : A} {k l r s : Forest A} → x ≡ y → k ≡ l → r ≡ s → tree x k r ≡ tree y l s
  tree_from a b c = cc

  -- Two rows as wide as each other that begin one list are equal.
  same_row : (f g : Forest A) (xs ys : List (A × ℕ)) → width f ≡ width g → counted f ++ xs ≡ counted g ++ ys → (f ≡ g) × (xs ≡ ys)
  same_row none none xs ys w e = (refl, e)
  same_row none (tree y l s) xs ys w e = absurd (omega arith)
  same_row (tree x k r) none xs ys w e = absurd (omega arith)
  same_row (tree x k r) (tree y l s) xs ys w e =
      let head : ◌≡◌ {A = A × ℕ} (x, width k) (y, width l) = cc in
      let tail : (counted k ++ counted r) ++ xs ≡ (counted l ++ counted s) ++ ys = cc in
      let under = same_row k l (counted r ++ xs) (counted s ++ ys) (ap (λ p. p.1) head) (sym (append_assoc (counted k) (counted r) xs) ∙ tail ∙ append_assoc (counted l) (counted s) ys) in
      let beside = same_row r s xs ys (omega arith) under.1 in
      (tree_from (ap (λ p. p.0) head) under.0 beside.0, beside.1)

  pub same_forest : (f g : Forest A) → counted f ≡ counted g → f ≡ g
  same_forest none none e = refl
  same_forest none (tree y l s) e = let z : ◌≡◌ {A = ℕ} 0 1 = cc in absurd (omega arith)
  same_forest (tree x k r) none e = let z : ◌≡◌ {A = ℕ} 0 1 = cc in absurd (omega arith)
  same_forest (tree x k r) (tree y l s) e =
      let head : ◌≡◌ {A = A × ℕ} (x, width k) (y, width l) = cc in
      let tail : counted k ++ counted r ≡ counted l ++ counted s = cc in
      let under = same_row k l (counted r) (counted s) (ap (λ p. p.1) head) tail in
      tree_from (ap (λ p. p.0) head) under.0 (same_forest r s under.1)

nothing_left : {B : Type 0} (l : List (B × ℕ)) → counts l ≡ [] → l ≡ []
nothing_left [] e = refl
nothing_left (x ∷ l) e = let z : ◌≡◌ {A = ℕ} 0 1 = cc in absurd (omega arith)

-- A list with the counts of a row spells a row of the same shape.
module _ {A B : Type 0} where
  record Spelt (f : Forest A) (ls : List (B × ℕ)) (rest : List ℕ) : Type 0 where
    forest : Forest B
    more : List (B × ℕ)
    wide : width forest ≡ width f
    spelt : ls ≡ counted forest ++ more
    ends : counts more ≡ rest

  spelt_row : (f : Forest A) (ls : List (B × ℕ)) (rest : List ℕ) → counts ls ≡ counts (counted f) ++ rest → Spelt f ls rest
  spelt_row none ls rest e = record { forest = none; more = ls; wide = refl; spelt = refl; ends = e }
  spelt_row (tree x k r) [] rest e = let z : ◌≡◌ {A = ℕ} 0 1 = cc in absurd (omega arith)
  spelt_row (tree x k r) (l ∷ ls) rest e =
      let count : l.1 ≡ width k = cc in
      let tail : counts ls ≡ counts (counted k ++ counted r) ++ rest = cc in
      let under = spelt_row k ls (counts (counted r) ++ rest) (tail ∙ ap (λ z. z ++ rest) (map-append (λ (p : A × ℕ). p.1) (counted k) (counted r)) ∙ append_assoc (counts (counted k)) (counts (counted r)) rest) in
      let beside = spelt_row r under.more rest under.ends in
      let both : (l.0, l.1) ≡ (l.0, width under.forest) = ap (λ n. (l.0, n)) (count ∙ sym under.wide) in
      record {
        forest = tree l.0 under.forest beside.forest;
        more = beside.more;
        wide = ap suc beside.wide;
        spelt = ap (λ p. p ∷ ls) both ∙ ap (λ z. (l.0, width under.forest) ∷ z) (under.spelt ∙ ap (λ z. counted under.forest ++ z) beside.spelt ∙ sym (append_assoc (counted under.forest) (counted beside.forest) beside.more));
        ends = beside.ends;
      }

  pub spelt_forest : (f : Forest A) (ls : List (B × ℕ)) → counts ls ≡ counts (counted f) → (g : Forest B) × (counted g ≡ ls)
  spelt_forest f ls e =
      let s = spelt_row f ls [] (e ∙ sym (append-nil (counts (counted f)))) in
      (s.forest, sym (s.spelt ∙ ap (λ z. counted s.forest ++ z) (nothing_left s.more s.ends) ∙ append-nil (counted s.forest)))

same_counts : (bytes : List ℕ) (ps : List Pair) (xs : List FieldRecord) → counts (listed bytes ps xs) ≡ counts (map with_count xs)
same_counts bytes ps [] = refl
same_counts bytes ps (x ∷ xs) = ap (λ l. x.children ∷ l) (same_counts bytes (drop x.pairs ps) xs)

same_schema : {f g : Forest Field} {p q : List PairValue} → f ≡ g → p ≡ q → ◌≡◌ {A = Schema} (record { fields = f; pairs = p }) (record { fields = g; pairs = q })
same_schema a b = cc

pub holds_one : (c : Content) → Lawful c → HoldsOne c
holds_one c l =
    let lines = listed c.bytes (drop c.own c.pairs) c.records in
    let found = spelt_forest l.fields lines (same_counts c.bytes (drop c.own c.pairs) c.records ∙ ap counts (sym l.records_used)) in
    let g = found.0 in
    record {
      schema = record { fields = mapped_forest (λ x. x.field) g; pairs = map (pair_value c.bytes) (take c.own c.pairs) };
      numbers = numbers_of g;
      holds = record { fields = g; preorder = found.1; same_fields = refl; same_pairs = refl; same_numbers = refl };
      only = λ other others h.
          let same = same_forest h.fields g (h.preorder ∙ sym found.1) in
          (same_schema (h.same_fields ∙ ap (mapped_forest (λ x. x.field)) same) h.same_pairs, h.same_numbers ∙ ap numbers_of same);
    }

pub holds_at_ok : {T E : Type 0} (c : Content) (r : Result T E) → MatchResult r (λ _. Lawful c) (λ _. Lawful c → ⊥) → IfOk r (λ _. HoldsOne c)
holds_at_ok c (Ok x) l = holds_one c l
holds_at_ok c (Err x) l = tt
