-- Steps of the walk that lays dictionary numbers down.
use Rattle.std.proofs.Common.{◌≡◌, ℕ, zero, suc, ◌+◌, ◌-◌, ◌<◌, ◌≤◌, List, [], ◌∷◌, ◌++◌, length, drop, ℤ, sym, refl, ap, ◌∙◌, arith}
use Rattle.std.proofs.lemmas.List.{append_assoc, append-nil, length-append, length-drop, drop-drop}
use Rattle.types.specs.declared.FieldRecord.{FieldRecord}
use Rattle.schema.specs.Numbers.{Told, around, numbers_row, numbers_at}

-- A list with its free places behind it, on the way from one to another: `rest` is still to be added of `all`.
abbrev pub Progress : List ℤ → List ℤ → List ℤ → List ℤ → List ℤ → List ℤ → Type 0
Progress start free₀ now_items now_free rest all =
    (now_items ++ rest ≡ start ++ all) × (length start ≤ length now_items) × (now_free ≡ drop (length now_items - length start) free₀)

module _ (start free₀ all : List ℤ) where
  module _ (items free rest : List ℤ) (p : Progress start free₀ items free rest all) where
    sizes : length items + length rest ≡ length start + length all
    sizes = sym (length-append items rest) ∙ ap length p.0 ∙ length-append start all

    left : length free ≡ length free₀ - (length items - length start)
    left = ap length p.2 ∙ length-drop (length items - length start) free₀

    pub has_room : length all ≤ length free₀ → length rest ≤ length free
    has_room h = omega (arith, sizes, left, p.1)

    pub one_step : (nested own more items₁ free₁ items₂ free₂ : List ℤ) → rest ≡ nested ++ (own ++ more)
        → items₁ ≡ items ++ nested → free₁ ≡ drop (length nested) free → items₂ ≡ items₁ ++ own → free₂ ≡ drop (length own) free₁
        → Progress start free₀ items₂ free₂ more all
    one_step nested own more items₁ free₁ items₂ free₂ r a b c d =
        let size : length items₂ ≡ (length items + length nested) + length own =
        ap length c ∙ length-append items₁ own ∙ ap (λ n. n + length own) (ap length a ∙ length-append items nested) in
        let gone : ((length items - length start) + length nested) + length own ≡ length items₂ - length start = omega (arith, size, p.1) in (
          ap (λ l. l ++ more) (c ∙ ap (λ l. l ++ own) a) ∙ append_assoc (items ++ nested) own more ∙ append_assoc items nested (own ++ more) ∙ ap (λ l. items ++ l) (sym r) ∙ p.0,
          omega (arith, size, p.1),
          d ∙ ap (drop (length own)) (b ∙ ap (drop (length nested)) p.2 ∙ drop-drop (length nested) (length items - length start) free₀)
              ∙ drop-drop (length own) ((length items - length start) + length nested) free₀ ∙ ap (λ n. drop n free₀) gone,
        )

    pub all_laid : rest ≡ [] → (items ≡ start ++ all) × (free ≡ drop (length all) free₀)
    all_laid e =
        let same : items ≡ start ++ all = sym (append-nil items) ∙ ap (λ l. items ++ l) (sym e) ∙ p.0 in
        let size : length items - length start ≡ length all = omega (arith, ap length same, length-append start all) in
        (same, p.2 ∙ ap (λ n. drop n free₀) size)

module _ (under : ℕ → List FieldRecord → Told) (n k : ℕ) (rest : List FieldRecord) where
  none_here : (m : ℕ) (ys : List FieldRecord) → ys ≡ [] → numbers_row under m ys ≡ record { numbers = []; records = ys }
  none_here zero ys e = refl
  none_here (suc m) [] e = refl
  none_here (suc m) (y ∷ ys) e = let z : ◌≡◌ {A = ℕ} 0 1 = cc in absurd (omega arith)

  pub row_out : rest ≡ [] → numbers_row under (n - k) rest ≡ record { numbers = []; records = rest }
  row_out e = none_here (n - k) rest e

  pub row_done : n ≤ k → numbers_row under (n - k) rest ≡ record { numbers = []; records = rest }
  row_done h = let zip : n - k ≡ 0 = omega arith in ap (λ m. numbers_row under m rest) zip

  pub row_on : (x : FieldRecord) (nested : List FieldRecord) → k < n → rest ≡ x ∷ nested
      → numbers_row under (n - k) rest ≡ around (under x.children nested) x (numbers_row under (n - (k + 1)))
  row_on x nested h e =
      let more : n - k ≡ suc (n - (k + 1)) = omega arith in
      ap (λ m. numbers_row under m rest) more ∙ ap (numbers_row under (suc (n - (k + 1)))) e

pub at_room : (room n : ℕ) (xs : List FieldRecord) → 0 < room → numbers_at room n xs ≡ numbers_row (numbers_at (room - 1)) n xs
at_room zero n xs h = absurd (omega arith)
at_room (suc room) n xs h = let same : room ≡ suc room - 1 = omega arith in ap (λ r. numbers_row (numbers_at r) n xs) same

pub at_no_room : (room n : ℕ) (xs : List FieldRecord) → room ≡ 0 → numbers_at room n xs ≡ record { numbers = []; records = xs }
at_no_room zero n xs e = refl
at_no_room (suc room) n xs e = absurd (omega arith)

-- The same for the loop over a row: `rest` is left of the row, of `n` fields from the front of xs.
module _ (start free₀ items free : List ℤ) (xs rest : List FieldRecord) (room n k : ℕ) (deep : 0 < room)
    (p : Progress start free₀ items free (numbers_row (numbers_at (room - 1)) (n - k) rest).numbers (numbers_row (numbers_at (room - 1)) n xs).numbers) where
  pub loop_room : length (numbers_at room n xs).numbers ≤ length free₀ → length (numbers_row (numbers_at (room - 1)) (n - k) rest).numbers ≤ length free
  loop_room h =
      has_room start free₀ _ items free _ p (omega (arith, h, ap (λ t. length t.numbers) (at_room room n xs deep)))

  pub loop_ends : numbers_row (numbers_at (room - 1)) (n - k) rest ≡ record { numbers = []; records = rest } → free ≡ drop (length (numbers_at room n xs).numbers) free₀
  loop_ends e =
      let all = all_laid start free₀ (numbers_row (numbers_at (room - 1)) n xs).numbers items free _ p (ap (λ t. t.numbers) e) in
      all.1 ∙ ap (λ t. drop (length t.numbers) free₀) (sym (at_room room n xs deep))
