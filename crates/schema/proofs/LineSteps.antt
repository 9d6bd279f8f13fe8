-- What the lines of a sheet say of the schema that it holds.
use Rattle.std.proofs.Common.{◌≡◌, ℕ, suc, Bool, List, [], ◌∷◌, map, length, take, drop, ℤ, Decides, sym, refl, ap, ◌∙◌}
use Rattle.types.specs.declared.Pair.{Pair}
use Rattle.types.specs.declared.FieldRecord.{FieldRecord}
use Rattle.sheet.specs.Contents.{Content}
use Rattle.sheet.specs.Forests.{Forest, counted}
use Rattle.sheet.specs.Schemas.{Field, PairValue, Schema, Numbered, field_value, listed, Holds}
use Rattle.schema.proofs.MappedRows.{counted_mapped}
use Rattle.rules.proofs.Holding.{same_forest}
use Rattle.schema.specs.Lines.{lines, lines_of, own_of}
use Rattle.schema.specs.Answers.{TellsAlike}

-- There are as many lines as records.
pub length_lines : (bytes : List ℕ) (ps : List Pair) (xs : List FieldRecord) → length (lines bytes ps xs) ≡ length xs
length_lines bytes ps [] = refl
length_lines bytes ps (x ∷ xs) = ap suc (length_lines bytes (drop x.pairs ps) xs)

-- The lines are the fields of the schema in preorder.
abbrev bare : Numbered × ℕ → Field × ℕ
bare p = (p.0.field, p.1)

bare_listed : (bytes : List ℕ) (ps : List Pair) (xs : List FieldRecord) → map bare (listed bytes ps xs) ≡ lines bytes ps xs
bare_listed bytes ps [] = refl
bare_listed bytes ps (x ∷ xs) = ap (λ l. (field_value bytes (take x.pairs ps) x, x.children) ∷ l) (bare_listed bytes (drop x.pairs ps) xs)

pub fields_are_lines : (c : Content) (s : Schema) (n : List ℤ) → Holds c s n → counted s.fields ≡ lines_of c
fields_are_lines c s n h =
    ap counted h.same_fields ∙ counted_mapped (λ (x : Numbered). x.field) h.fields ∙ ap (map bare) h.preorder ∙ bare_listed c.bytes (drop c.own c.pairs) c.records

both_parts : {f g : Forest Field} {p q : List PairValue} → f ≡ g → p ≡ q → ◌≡◌ {A = Schema} (record { fields = f; pairs = p }) (record { fields = g; pairs = q })
both_parts a b = cc

schema_from : (s t : Schema) → s.fields ≡ t.fields → s.pairs ≡ t.pairs → s ≡ t
schema_from s t f p = both_parts f p

-- Two sheets hold alike schemas exactly if their own pairs and their lines are the same.
pub tells : (a b : Content) (r : Bool) → Decides r ((own_of a ≡ own_of b) × (lines_of a ≡ lines_of b)) → TellsAlike a b r
tells a b r d s t m n h k =
    let f = fields_are_lines a s m h in
    let g = fields_are_lines b t n k in (
      λ e. let both = d.0 e in
          schema_from s t (same_forest s.fields t.fields (f ∙ both.1 ∙ sym g)) (h.same_pairs ∙ both.0 ∙ sym k.same_pairs),
      λ e. d.1 (sym h.same_pairs ∙ ap (λ x. x.pairs) e ∙ k.same_pairs, sym f ∙ ap (λ x. counted x.fields) e ∙ g),
    )
