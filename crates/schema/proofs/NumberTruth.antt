-- What the walk tells are the dictionary numbers of the schema that the sheet holds.
use Rattle.std.proofs.Common.{◌≡◌, ℕ, zero, suc, ◌+◌, ◌<◌, ◌≤◌, List, [], ◌∷◌, ◌++◌, map, length, drop, ℤ, Option, sym, refl, ap, ◌∙◌, arith}
use Rattle.std.specs.Option.{option_map, option_to_list}
use Rattle.std.specs.List.{AllByRecursion}
use Rattle.std.proofs.lemmas.List.{append_assoc, length-append}
use Rattle.std.proofs.lemmas.List.Sums.{sum_by-cons, sum_by-append}
use Rattle.types.specs.declared.Pair.{Pair}
use Rattle.types.specs.declared.FieldRecord.{FieldRecord}
use Rattle.sheet.specs.Contents.{Content}
use Rattle.sheet.specs.Forests.{Forest, none, tree, width, mapped_forest}
use Rattle.sheet.specs.Schemas.{Schema, Numbered, numbers_of, listed, Holds}
use Rattle.rules.specs.Tables.{child_rule}
use Rattle.rules.specs.Sites.{Row, plain, after, row_under, pairs_in, sites}
use Rattle.rules.specs.Lawful.{with_count, Lawful}
use Rattle.rules.proofs.Grown.{preorder, Right, all_left, all_right}
use Rattle.rules.proofs.Judged.{spelt_by, right_by}
use Rattle.schema.proofs.MappedRows.{counted_mapped}
use Rattle.rules.proofs.Holding.{same_forest, holds_one}
use Rattle.schema.specs.declared.numbers.NumbersRefusal.TheVariants.{Full}
use Rattle.schema.specs.Answers.{Laid, WhyNot}
use Rattle.schema.specs.Numbers.{own_number, how_many, around, numbers_row, numbers_at}

abbrev own : FieldRecord → Option ℤ
own x = option_map (λ d. d.number) x.dictionary

-- Numbers of a row where some nodes have one, nested first.
abbrev gathered : Forest (Option ℤ) → List ℤ
gathered none = []
gathered (tree o kids rest) = gathered kids ++ (option_to_list o ++ gathered rest)

abbrev pub numbers_in : Forest FieldRecord → List ℤ
numbers_in f = gathered (mapped_forest own f)

-- The walk over a row that is shallow enough.
numbered : (f : Forest FieldRecord) (d k : ℕ) (row : Row) (ps : List Pair) (tail : List FieldRecord) → 33 ≤ k + d → Right f → AllByRecursion (λ s. s.depth ≤ 32) (sites k row ps f)
    → numbers_at d (width f) (preorder f ++ tail) ≡ record { numbers = numbers_in f; records = tail }
numbered none zero k row ps tail h right all = refl
numbered none (suc d) k row ps tail h right all = refl
numbered (tree x kids rest) zero k row ps tail h right all = absurd (omega (arith, all.0))
numbered (tree x kids rest) (suc d) k row ps tail h right all =
    let under = row_under (child_rule x.data_type) in
    let qs = drop x.pairs ps in
    let ss = sites (suc k) under qs kids in
    let deep = all_left (λ s. s.depth ≤ 32) ss (sites k (after row x.type_id) (drop (pairs_in kids) qs) rest) all.1 in
    let wide = all_right (λ s. s.depth ≤ 32) ss (sites k (after row x.type_id) (drop (pairs_in kids) qs) rest) all.1 in
    let nested = numbered kids d (suc k) under qs (preorder rest ++ tail) (omega arith) right.1 deep in
    let later = numbered rest (suc d) k (after row x.type_id) (drop (pairs_in kids) qs) tail h right.2 wide in
    let first : numbers_at d x.children ((preorder kids ++ preorder rest) ++ tail) ≡ record { numbers = numbers_in kids; records = preorder rest ++ tail } =
    ap (λ n. numbers_at d n ((preorder kids ++ preorder rest) ++ tail)) (sym right.0) ∙ ap (numbers_at d (width kids)) (append_assoc (preorder kids) (preorder rest) tail) ∙ nested in
    ap (λ t. around t x (numbers_row (numbers_at d) (width rest))) first
    ∙ ap (λ t. record { numbers = numbers_in kids ++ (own_number x ++ t.numbers); records = t.records }) later

numbered_row : (f : Forest FieldRecord) (m : ℕ) (ps : List Pair) → length (preorder f) ≤ m → Right f → AllByRecursion (λ s. s.depth ≤ 32) (sites 1 plain ps f)
    → numbers_row (numbers_at 31) m (preorder f) ≡ record { numbers = numbers_in f; records = [] }
numbered_row none zero ps h right all = refl
numbered_row none (suc m) ps h right all = refl
numbered_row (tree x kids rest) zero ps h right all = absurd (omega arith)
numbered_row (tree x kids rest) (suc m) ps h right all =
    let under = row_under (child_rule x.data_type) in
    let qs = drop x.pairs ps in
    let ss = sites 2 under qs kids in
    let deep = all_left (λ s. s.depth ≤ 32) ss (sites 1 plain (drop (pairs_in kids) qs) rest) all.1 in
    let wide = all_right (λ s. s.depth ≤ 32) ss (sites 1 plain (drop (pairs_in kids) qs) rest) all.1 in
    let nested = numbered kids 31 2 under qs (preorder rest) (omega arith) right.1 deep in
    let later = numbered_row rest m (drop (pairs_in kids) qs) (omega (arith, length-append (preorder kids) (preorder rest))) right.2 wide in
    let first : numbers_at 31 x.children (preorder kids ++ preorder rest) ≡ record { numbers = numbers_in kids; records = preorder rest } =
    ap (λ n. numbers_at 31 n (preorder kids ++ preorder rest)) (sym right.0) ∙ nested in
    ap (λ t. around t x (numbers_row (numbers_at 31) m)) first
    ∙ ap (λ t. record { numbers = numbers_in kids ++ (own_number x ++ t.numbers); records = t.records }) later

-- A schema's numbers are those of the records that spell it.
gathered_numbers : (g : Forest Numbered) → numbers_of g ≡ gathered (mapped_forest (λ x. x.number) g)
gathered_numbers none = refl
gathered_numbers (tree x kids rest) =
    ap (λ l. l ++ (option_to_list x.number ++ numbers_of rest)) (gathered_numbers kids)
    ∙ ap (λ l. gathered (mapped_forest (λ (y : Numbered). y.number) kids) ++ (option_to_list x.number ++ l)) (gathered_numbers rest)

abbrev of_numbered : Numbered × ℕ → Option ℤ × ℕ
of_numbered p = (p.0.number, p.1)

abbrev of_record : FieldRecord × ℕ → Option ℤ × ℕ
of_record p = (own p.0, p.1)

same_lines : (bytes : List ℕ) (ps : List Pair) (xs : List FieldRecord) → map of_numbered (listed bytes ps xs) ≡ map of_record (map with_count xs)
same_lines bytes ps [] = refl
same_lines bytes ps (x ∷ xs) = ap (λ l. of_record (with_count x) ∷ l) (same_lines bytes (drop x.pairs ps) xs)

module _ (c : Content) (l : Lawful c) where
  pub held_numbers : (s : Schema) (n : List ℤ) → Holds c s n → numbers_in l.fields ≡ n
  held_numbers s n h =
      let shape : mapped_forest own l.fields ≡ mapped_forest (λ x. x.number) h.fields =
      same_forest _ _ (counted_mapped own l.fields ∙ ap (map of_record) l.records_used
      ∙ sym (same_lines c.bytes (drop c.own c.pairs) c.records)
      ∙ sym (counted_mapped (λ (x : Numbered). x.number) h.fields ∙ ap (map of_numbered) h.preorder)) in
      ap gathered shape ∙ sym (gathered_numbers h.fields) ∙ sym h.same_numbers

  pub walk_tells : (numbers_at 32 (length c.records) c.records).numbers ≡ numbers_in l.fields
  walk_tells =
      let spelt = spelt_by l.fields c.records l.records_used in
      ap (λ xs. (numbers_row (numbers_at 31) (length c.records) xs).numbers) (sym spelt)
      ∙ ap (λ t. t.numbers) (numbered_row l.fields (length c.records) (drop c.own c.pairs) (omega (arith, ap length spelt)) (right_by l.fields c.records l.records_used) l.shallow)

-- As many as there are records with a dictionary.
counts : (f : Forest FieldRecord) → how_many (preorder f) ≡ length (numbers_in f)
counts none = refl
counts (tree x kids rest) =
    let f = λ (y : FieldRecord). length (own_number y) in
    omega (
      arith,
      sum_by-cons f x (preorder kids ++ preorder rest),
      sum_by-append f (preorder kids) (preorder rest),
      counts kids,
      counts rest,
      length-append (numbers_in kids) (own_number x ++ numbers_in rest),
      length-append (own_number x) (numbers_in rest),
    )

pub counted_numbers : (c : Content) (l : Lawful c) → how_many c.records ≡ length (numbers_in l.fields)
counted_numbers c l = ap how_many (sym (spelt_by l.fields c.records l.records_used)) ∙ counts l.fields

at_most : (a b c : ℕ) → a ≡ b → b ≤ c → a ≤ c
at_most a b c e h = omega arith

-- What the call promises, of a lawful sheet.
module _ (c : Content) (l : Lawful c) where
  tells : (n : ℕ) → n ≡ length c.records → (numbers_at 32 n c.records).numbers ≡ numbers_in l.fields
  tells n e = ap (λ m. (numbers_at 32 m c.records).numbers) e ∙ walk_tells c l

  pub enough : (n count places : ℕ) → n ≡ length c.records → count ≡ how_many c.records → count ≤ places → length (numbers_at 32 n c.records).numbers ≤ places
  enough n count places e k h = at_most _ count places (ap length (tells n e) ∙ sym (k ∙ counted_numbers c l)) h

  pub too_few : (count places : ℕ) → count ≡ how_many c.records → places < count → WhyNot c places Full
  too_few count places k h =
      let one = holds_one c l in
      let same = held_numbers c l one.schema one.numbers one.holds in
      (one.schema, one.numbers, one.holds, omega (arith, k, counted_numbers c l, ap length same))

  pub laid : (n : ℕ) (items₀ free₀ items₁ free₁ : List ℤ) → n ≡ length c.records
      → items₁ ≡ items₀ ++ (numbers_at 32 n c.records).numbers → free₁ ≡ drop (length (numbers_at 32 n c.records).numbers) free₀ → Laid c items₀ free₀ items₁ free₁
  laid n items₀ free₀ items₁ free₁ e a b =
      let one = holds_one c l in
      let same = tells n e ∙ held_numbers c l one.schema one.numbers one.holds in
      record {
        schema = one.schema;
        numbers = one.numbers;
        holds = one.holds;
        items = a ∙ ap (λ ns. items₀ ++ ns) same;
        free = b ∙ ap (λ ns. drop (length ns) free₀) same;
      }
