-- A walk that comes to its end has gone over a row of fields, and a walk over such a row comes to its end.
use Rattle.std.proofs.Common.{◌≡◌, ℕ, zero, suc, ◌+◌, ◌-◌, ◌≤◌, List, [], ◌∷◌, ◌++◌, length, drop, Some, None, Ok, Err, Option, sym, refl, ap, ◌∙◌, subst, arith}
use Rattle.std.specs.List.{AllByRecursion}
use Rattle.std.proofs.lemmas.List.{append_assoc, length-append, length-drop, drop-drop}
use Rattle.std.proofs.ByRecursion.{All-append}
use Rattle.types.specs.declared.FieldRecord.{FieldRecord}
use Rattle.types.specs.declared.Pair.{Pair}
use Rattle.sheet.specs.Forests.{Forest, none, tree, width}
use Rattle.rules.specs.declared.refusal.SheetRefusal.{SheetRefusal}
use Rattle.rules.specs.declared.refusal.SheetRefusal.TheVariants.{TooDeep}
use Rattle.rules.specs.Tables.{child_rule}
use Rattle.rules.specs.Sites.{Row, plain, after, row_under, Site, pairs_in, sites}
use Rattle.rules.specs.Verdict.{Ahead, Walked, unless, then, next, first_broken, field_rules, site_at, past_pairs, walk_children, walk_field, walk_row}
use Rattle.rules.proofs.Decided.{fits_from}

-- The records of a row in preorder, and that each has as many children as it says.
abbrev pub preorder : Forest FieldRecord → List FieldRecord
preorder none = []
preorder (tree x kids rest) = x ∷ (preorder kids ++ preorder rest)

abbrev pub Right : Forest FieldRecord → Type 0
Right none = Unit {0}
Right (tree x kids rest) = (width kids ≡ x.children) × Right kids × Right rest

pub all_left : {X : Type 0} (P : X → Type 0) (xs ys : List X) → AllByRecursion P (xs ++ ys) → AllByRecursion P xs
all_left P [] ys a = tt
all_left P (x ∷ xs) ys a = (a.0, all_left P xs ys a.1)

pub all_right : {X : Type 0} (P : X → Type 0) (xs ys : List X) → AllByRecursion P (xs ++ ys) → AllByRecursion P ys
all_right P [] ys a = a
all_right P (x ∷ xs) ys a = all_right P xs ys a.1

abbrev at : List FieldRecord → List Pair → Ahead
at xs ps = record { records = xs; pairs = ps }

never : {X : Type 0} {e : SheetRefusal} {a : Ahead} → ◌≡◌ {A = Walked} (Err e) (Ok a) → X
never h = let z : ◌≡◌ {A = ℕ} 0 1 = cc in absurd (omega arith)

unless_ok : (o : Option SheetRefusal) (w : Walked) (b : Ahead) → unless o w ≡ Ok b → (o ≡ None) × (w ≡ Ok b)
unless_ok None w b h = (refl, h)
unless_ok (Some e) w b h = never h

then_ok : (w : Walked) (f : Ahead → Walked) (b : Ahead) → then w f ≡ Ok b → (a : Ahead) × (w ≡ Ok a) × (f a ≡ Ok b)
then_ok (Ok a) f b h = (a, refl, h)
then_ok (Err e) f b h = never h

next_ok : (xs : List FieldRecord) (ps : List Pair) (f : FieldRecord → Ahead → Walked) (b : Ahead) → next xs ps f ≡ Ok b
    → (x : FieldRecord) × (ys : List FieldRecord) × (xs ≡ x ∷ ys) × (f x (at ys ps) ≡ Ok b)
next_ok [] ps f b h = never h
next_ok (x ∷ xs) ps f b h = (x, xs, refl, h)

module _ (bytes : List ℕ) where
  abbrev pub Sound : Site → Type 0
  Sound s = first_broken (field_rules bytes s) ≡ None

  -- A walk over n fields from a to b, with d levels left for them.
  record Grown (d : ℕ) (row : Row) (n : ℕ) (a b : Ahead) : Type 0 where
    forest : Forest FieldRecord
    wide : width forest ≡ n
    right : Right forest
    spelt : a.records ≡ preorder forest ++ b.records
    used : b.pairs ≡ drop (pairs_in forest) a.pairs
    few : pairs_in forest ≤ length a.pairs
    sound : AllByRecursion Sound (sites (33 - d) row a.pairs forest)

  -- A walk over the field x, whose record was taken.
  record GrownOne (d : ℕ) (row : Row) (x : FieldRecord) (a b : Ahead) : Type 0 where
    kids : Forest FieldRecord
    wide : width kids ≡ x.children
    right : Right kids
    spelt : a.records ≡ preorder kids ++ b.records
    used : b.pairs ≡ drop (pairs_in kids) (drop x.pairs a.pairs)
    few : x.pairs + pairs_in kids ≤ length a.pairs
    here : Sound (site_at d row x a)
    below : AllByRecursion Sound (sites (suc (33 - d)) (row_under (child_rule x.data_type)) (drop x.pairs a.pairs) kids)

  grown_row : (d : ℕ) → ((row : Row) (x : FieldRecord) (a b : Ahead) → walk_field bytes d row x a ≡ Ok b → GrownOne d row x a b)
      → (n : ℕ) (row : Row) (a b : Ahead) → walk_children (walk_field bytes d) n row a ≡ Ok b → Grown d row n a b
  grown_row d one zero row a b h =
      let same : a ≡ b = cc in
      record { forest = none; wide = refl; right = tt; spelt = ap (λ e. e.records) same; used = ap (λ e. e.pairs) (sym same); few = omega arith; sound = tt }
  grown_row d one (suc n) row a b h =
      let s = next_ok a.records a.pairs (λ x e. then (walk_field bytes d row x e) (walk_children (walk_field bytes d) n (after row x.type_id))) b h in
      let x = s.0 in
      let start = at s.1 a.pairs in
      let t = then_ok (walk_field bytes d row x start) (walk_children (walk_field bytes d) n (after row x.type_id)) b s.3 in
      let mid = t.0 in
      let first = one row x start mid t.1 in
      let more = grown_row d one n (after row x.type_id) mid b t.2 in
      let used : mid.pairs ≡ drop (pairs_in first.kids) (drop x.pairs a.pairs) = first.used in
      record {
        forest = tree x first.kids more.forest;
        wide = ap suc more.wide;
        right = (first.wide, first.right, more.right);
        spelt = s.2 ∙ ap (λ l. x ∷ l) (first.spelt ∙ ap (λ l. preorder first.kids ++ l) more.spelt ∙ sym (append_assoc (preorder first.kids) (preorder more.forest) b.records));
        used = more.used ∙ ap (drop (pairs_in more.forest)) used
            ∙ drop-drop (pairs_in more.forest) (pairs_in first.kids) (drop x.pairs a.pairs)
            ∙ drop-drop (pairs_in first.kids + pairs_in more.forest) x.pairs a.pairs;
        few = omega (arith, first.few, more.few, ap length used, length-drop (pairs_in first.kids) (drop x.pairs a.pairs), length-drop x.pairs a.pairs);
        sound = (first.here, All-append Sound _ _ first.below (subst (λ ps. AllByRecursion Sound (sites (33 - d) (after row x.type_id) ps more.forest)) used more.sound));
      }

  grown_one : (d : ℕ) → d ≤ 32 → (row : Row) (x : FieldRecord) (a b : Ahead) → walk_field bytes d row x a ≡ Ok b → GrownOne d row x a b
  grown_one zero l row x a b h = never (unless_ok (first_broken (field_rules bytes (site_at zero row x a))) (Err TooDeep) b h).1
  grown_one (suc d) l row x a b h =
      let u = unless_ok (first_broken (field_rules bytes (site_at (suc d) row x a))) (walk_children (walk_field bytes d) x.children (row_under (child_rule x.data_type)) (past_pairs x a)) b h in
      let m = grown_row d (grown_one d (omega arith)) x.children (row_under (child_rule x.data_type)) (past_pairs x a) b u.1 in
      let deeper : 33 - d ≡ suc (33 - suc d) = omega arith in
      let fits = fits_from bytes (site_at (suc d) row x a) u.0 in
      record {
        kids = m.forest;
        wide = m.wide;
        right = m.right;
        spelt = m.spelt;
        used = m.used;
        few = omega (arith, m.few, fits.pairs, length-drop x.pairs a.pairs);
        here = u.0;
        below = subst (λ k. AllByRecursion Sound (sites k (row_under (child_rule x.data_type)) (drop x.pairs a.pairs) m.forest)) deeper m.sound;
      }

  -- A walk over all outermost fields.
  pub record Rows (xs : List FieldRecord) (ps : List Pair) (b : Ahead) : Type 0 where
    pub forest : Forest FieldRecord
    pub right : Right forest
    pub spelt : xs ≡ preorder forest
    pub used : b.pairs ≡ drop (pairs_in forest) ps
    pub few : pairs_in forest ≤ length ps
    pub sound : AllByRecursion Sound (sites 1 plain ps forest)

  pub grown_rows : (fuel : ℕ) (xs : List FieldRecord) (ps : List Pair) (b : Ahead) → length xs ≤ fuel → walk_row (walk_field bytes 32) fuel xs ps ≡ Ok b → Rows xs ps b
  grown_rows fuel [] ps b l h =
      let same : at [] ps ≡ b = cc in
      record { forest = none; right = tt; spelt = refl; used = ap (λ e. e.pairs) (sym same); few = omega arith; sound = tt }
  grown_rows zero (x ∷ xs) ps b l h = absurd (omega arith)
  grown_rows (suc fuel) (x ∷ xs) ps b l h =
      let t = then_ok (walk_field bytes 32 plain x (at xs ps)) (λ e. walk_row (walk_field bytes 32) fuel e.records e.pairs) b h in
      let mid = t.0 in
      let first = grown_one 32 (omega arith) plain x (at xs ps) mid t.1 in
      let size = ap length first.spelt in
      let more = grown_rows fuel mid.records mid.pairs b (omega (arith, size, length-append (preorder first.kids) mid.records)) t.2 in
      let used : mid.pairs ≡ drop (pairs_in first.kids) (drop x.pairs ps) = first.used in
      record {
        forest = tree x first.kids more.forest;
        right = (first.wide, first.right, more.right);
        spelt = ap (λ l. x ∷ l) (first.spelt ∙ ap (λ l. preorder first.kids ++ l) more.spelt);
        used = more.used ∙ ap (drop (pairs_in more.forest)) used
            ∙ drop-drop (pairs_in more.forest) (pairs_in first.kids) (drop x.pairs ps)
            ∙ drop-drop (pairs_in first.kids + pairs_in more.forest) x.pairs ps;
        few = omega (arith, first.few, more.few, ap length used, length-drop (pairs_in first.kids) (drop x.pairs ps), length-drop x.pairs ps);
        sound = (first.here, All-append Sound _ _ first.below (subst (λ qs. AllByRecursion Sound (sites 1 plain qs more.forest)) used more.sound));
      }

  -- The way back: over the field x and its children.
  walked_one : (d : ℕ) (row : Row) (x : FieldRecord) (kids : Forest FieldRecord) (ps : List Pair) (tail : List FieldRecord) → width kids ≡ x.children
      → Sound (site_at (suc d) row x (at (preorder kids ++ tail) ps))
      → walk_children (walk_field bytes d) (width kids) (row_under (child_rule x.data_type)) (at (preorder kids ++ tail) (drop x.pairs ps)) ≡ Ok (at tail (drop (pairs_in kids) (drop x.pairs ps)))
      → walk_field bytes (suc d) row x (at (preorder kids ++ tail) ps) ≡ Ok (at tail (drop (pairs_in kids) (drop x.pairs ps)))
  walked_one d row x kids ps tail w sound inner =
      ap (λ o. unless o (walk_children (walk_field bytes d) x.children (row_under (child_rule x.data_type)) (at (preorder kids ++ tail) (drop x.pairs ps)))) sound
      ∙ ap (λ n. walk_children (walk_field bytes d) n (row_under (child_rule x.data_type)) (at (preorder kids ++ tail) (drop x.pairs ps))) (sym w)
      ∙ inner

  walked : (f : Forest FieldRecord) (d : ℕ) (row : Row) (ps : List Pair) (tail : List FieldRecord) → d ≤ 32 → Right f → AllByRecursion Sound (sites (33 - d) row ps f)
      → walk_children (walk_field bytes d) (width f) row (at (preorder f ++ tail) ps) ≡ Ok (at tail (drop (pairs_in f) ps))
  walked none d row ps tail l right sound = refl
  walked (tree x kids rest) zero row ps tail l right sound = absurd (omega (arith, (fits_from bytes (record { head = x; depth = 33; row = row; left = ps }) sound.0).depth))
  walked (tree x kids rest) (suc d) row ps tail l right sound =
      let deeper : suc (33 - suc d) ≡ 33 - d = omega arith in
      let under = row_under (child_rule x.data_type) in
      let qs = drop x.pairs ps in
      let below = subst (λ k. AllByRecursion Sound (sites k under qs kids)) deeper (all_left Sound (sites (suc (33 - suc d)) under qs kids) _ sound.1) in
      let later = all_right Sound (sites (suc (33 - suc d)) under qs kids) _ sound.1 in
      let inner = walked kids d under qs (preorder rest ++ tail) (omega arith) right.1 below in
      let here = walked_one d row x kids ps (preorder rest ++ tail) right.0 sound.0 inner in
      let outer = walked rest (suc d) (after row x.type_id) (drop (pairs_in kids) qs) tail l right.2 later in
      let F = walk_field bytes (suc d) in
      ap (λ l. then (F row x (at l ps)) (walk_children F (width rest) (after row x.type_id))) (append_assoc (preorder kids) (preorder rest) tail)
      ∙ ap (λ w. then w (walk_children F (width rest) (after row x.type_id))) here
      ∙ outer
      ∙ ap (λ qs. Ok (at tail qs)) (drop-drop (pairs_in rest) (pairs_in kids) (drop x.pairs ps) ∙ drop-drop (pairs_in kids + pairs_in rest) x.pairs ps)

  pub walked_rows : (f : Forest FieldRecord) (fuel : ℕ) (ps : List Pair) → length (preorder f) ≤ fuel → Right f → AllByRecursion Sound (sites 1 plain ps f)
      → walk_row (walk_field bytes 32) fuel (preorder f) ps ≡ Ok (at [] (drop (pairs_in f) ps))
  walked_rows none fuel ps l right sound = refl
  walked_rows (tree x kids rest) zero ps l right sound = absurd (omega arith)
  walked_rows (tree x kids rest) (suc fuel) ps l right sound =
      let under = row_under (child_rule x.data_type) in
      let qs = drop x.pairs ps in
      let inner = walked kids 31 under qs (preorder rest) (omega arith) right.1 (all_left Sound (sites 2 under qs kids) _ sound.1) in
      let here = walked_one 31 plain x kids ps (preorder rest) right.0 sound.0 inner in
      let outer = walked_rows rest fuel (drop (pairs_in kids) qs) (omega (arith, length-append (preorder kids) (preorder rest))) right.2 (all_right Sound (sites 2 under qs kids) _ sound.1) in
      ap (λ w. then w (λ e. walk_row (walk_field bytes 32) fuel e.records e.pairs)) here
      ∙ outer
      ∙ ap (λ qs. Ok (at [] qs)) (drop-drop (pairs_in rest) (pairs_in kids) (drop x.pairs ps) ∙ drop-drop (pairs_in kids + pairs_in rest) x.pairs ps)
