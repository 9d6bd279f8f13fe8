-- A row of words as a store that is written.
use Rattle.std.proofs.Common.{◌≡◌, ℕ, zero, suc, ◌+◌, ◌-◌, ◌*◌, ◌/◌, ◌%◌, ◌<◌, ◌≤◌, min, Bool, true, false, cond, ◌&&◌, ltb, List, [], ◌∷◌, ◌++◌, map, length, get_or, take, drop, set, replicate, eqb, Some, None, Option, Ok, Err, Result, sym, refl, ap, ◌∙◌, subst, ap₂, arith}
use Rattle.std.proofs.lemmas.Bool.Decides.{nat_tests}
use Rattle.std.specs.List.{range_with_len}
use Rattle.std.specs.Result.{result_map_both}
use Rattle.std.proofs.lemmas.List.FromFn.{length-map-range_with_len, get_or-map-range_with_len}
use Rattle.std.proofs.lemmas.List.{length-take-le, length-drop, length-append, take-append-drop, take-take, take_at, drop-append-le, drop_at, length-take, length-replicate, drop-take, drop-drop, append_assoc, replicate-append-replicate, drop_all, append-nil}
use Rattle.kinds.specs.Slots.{sorts}
use Rattle.kinds.specs.declared.Kind.{Kind}
use Rattle.kinds.specs.declared.Sort.TheVariants.{Text}
use Rattle.store.specs.declared.place.Slot.{Slot}
use Rattle.store.specs.declared.place.Slot.TheVariants.{Absent}
use Rattle.store.specs.Meaning.{Grows, Nothing, Typed, Object, Place, the_text, the_tables, the_numbers, the_table, Stands, filled, slot_typed, slots_typed}
use Rattle.store.specs.State.{Sound, Fresh, Put, Puts, Refuses, Cuts, held, most}
use Rattle.store.specs.declared.refusal.StoreRefusal.{StoreRefusal}
use Rattle.store.specs.declared.refusal.StoreRefusal.TheVariants.{Misfilled}
use Rattle.store.proofs.Typing.{typed_from, typed_length}
use Rattle.word_layout.specs.Views.{View, seen, standing, element, le_bytes, text_view, list_view, tables_view, numbers_view, table_view, bit}
use Rattle.word_layout.specs.Words.{words_meaning, words_state, words_price, limit, used_words, bytes, Laid, Lays, LaidBehind, TextWord, SlotWord, TableLaid, table_head}
use Rattle.word_layout.specs.Lists.{list_size, ListWord}
use Rattle.word_layout.proofs.Listing.{list_inside, list_small}
use Rattle.word_layout.proofs.Sights.{whole, seen_none, seen_some}
use Rattle.word_layout.proofs.Fills.{seen_append, text_back}
use Rattle.word_layout.proofs.Laying.{lays_from}
use Rattle.word_layout.proofs.Slots.{element_in, table_ok, table_back}

module _ {X : Type 0} (v : View X) (inside : (h i : ℕ) → i < v.count h → v.at i < v.size h) where
  not_empty : (xs : List ℕ) (l : List X) → seen v xs ≡ Some l → 0 < length xs
  not_empty xs l e = go (standing v xs) refl
    where
      go : (o : Option ℕ) → standing v xs ≡ o → 0 < length xs
      go None st = let z : ◌≡◌ {A = ℕ} 0 1 = (let n = seen_none v xs st in cc) in absurd (omega arith)
      go (Some h) st = let w = (whole v xs h st).inside in omega arith

  seen_place : (xs ys : List ℕ) (p : ℕ) (l : List X) → seen v (drop p xs) ≡ Some l → seen v (drop p (xs ++ ys)) ≡ Some l
  seen_place xs ys p l e =
      let n = not_empty (drop p xs) l e in
      ap (seen v) (drop-append-le p xs ys (omega (arith, length-drop p xs))) ∙ seen_append v inside (drop p xs) ys l e

-- more words, more stands
pub rows_grow : (xs ys : List ℕ) → Grows (words_meaning xs) (words_meaning (xs ++ ys))
rows_grow xs ys = record {
  text = λ p. seen_place text_view (λ h i l. omega arith) xs ys p.0;
  tables = λ p. seen_place tables_view (λ h i l. list_inside (h / 8) i l) xs ys p.0;
  numbers = λ p. seen_place numbers_view (λ h i l. list_inside (h / 8) i l) xs ys p.0;
  table = λ k p. seen_place (table_view k) (λ h i l. l) xs ys p.0;
}

front : (ws : List ℕ) (a b : ℕ) → a ≤ b → take b ws ≡ take a ws ++ drop a (take b ws)
front ws a b h = sym (ap (λ x. x ++ drop a (take b ws)) (sym (take-take a b ws h)) ∙ take-append-drop a (take b ws))

rows_grow_take : (ws : List ℕ) (a b : ℕ) → a ≤ b → Grows (words_meaning (take a ws)) (words_meaning (take b ws))
rows_grow_take ws a b h = subst (λ x. Grows (words_meaning (take a ws)) (words_meaning x)) (sym (front ws a b h)) (rows_grow (take a ws) (drop a (take b ws)))

cheap : (o : Object) → words_price o ≤ most o
cheap (the_text t) = omega arith
cheap (the_tables k l) = let s = list_small (length l) in omega arith
cheap (the_numbers l) = let s = list_small (length l) in omega arith
cheap (the_table k l) = omega arith

-- the bytes of words

length_le : (w : ℕ) → length (le_bytes w) ≡ 8
unfolding le_bytes
length_le w = refl

zero_le : le_bytes 0 ≡ replicate 8 0
unfolding le_bytes
zero_le = refl

pub length_bytes : (ws : List ℕ) → length (bytes ws) ≡ 8 * length ws
unfolding bytes
length_bytes [] = refl
length_bytes (w ∷ ws) = let h = length_bytes ws in omega (arith, length-append (le_bytes w) (bytes ws), length_le w)

pub drop_bytes : (n : ℕ) (ws : List ℕ) → drop (8 * n) (bytes ws) ≡ bytes (drop n ws)
unfolding bytes
drop_bytes zero ws = refl
drop_bytes (suc n) [] = let e : 8 * suc n ≡ suc (7 + 8 * n) = omega arith in ap (λ k. drop k (bytes [])) e
drop_bytes (suc n) (w ∷ ws) =
    let e : 8 * suc n ≡ 8 + 8 * n = omega arith in
    ap (λ k. drop k (le_bytes w ++ bytes ws)) e ∙ (sym (drop-drop (8 * n) 8 (le_bytes w ++ bytes ws)) ∙ (ap (drop (8 * n)) (drop_at (le_bytes w) (bytes ws) 8 (length_le w)) ∙ drop_bytes n ws))

pub zero_bytes : (n : ℕ) (ws : List ℕ) → bytes (replicate n 0 ++ ws) ≡ replicate (8 * n) 0 ++ bytes ws
unfolding bytes
zero_bytes zero ws = refl
zero_bytes (suc n) ws =
    let e : 8 + 8 * n ≡ 8 * suc n = omega arith in
    ap₂ (λ x y. x ++ y) zero_le (zero_bytes n ws) ∙ (sym (append_assoc (replicate 8 0) (replicate (8 * n) 0) (bytes ws)) ∙ ap (λ x. x ++ bytes ws) (replicate-append-replicate 8 (8 * n) 0 ∙ ap (λ k. replicate k 0) e))

-- what lies behind a place, up to another
behind : (ws ws' : List ℕ) (m c : ℕ) → m ≤ c → drop m ws' ≡ drop m ws → drop m (take c ws') ≡ drop m (take c ws)
behind ws ws' m c h e =
    let q : m + (c - m) ≡ c = omega arith in
    let at : (xs : List ℕ) → drop m (take c xs) ≡ take (c - m) (drop m xs) = λ xs. ap (λ k. drop m (take k xs)) (sym q) ∙ drop-take m (c - m) xs in
    at ws' ∙ (ap (take (c - m)) e ∙ sym (at ws))

pub rows_shown : (ws : List ℕ) (used : ℕ) → held (words_state ws used) ≡ words_meaning (take (used_words ws used) ws)
rows_shown ws used = let e : 8 * used_words ws used / 8 ≡ used_words ws used = omega arith in ap (λ n. words_meaning (take n ws)) e

-- every one is a lawful store
pub rows_sound : (ws : List ℕ) (used : ℕ) → Sound (words_state ws used)
rows_sound ws used = record {
  within = omega arith;
  whole_height = omega arith;
  whole_size = omega arith;
  grows = λ k m h l. rows_grow_take ws (k / 8) (m / 8) (omega arith);
  cheap = cheap;
  free = length_bytes (drop (used_words ws used) (take (limit ws) ws)) ∙ omega (arith, length-drop (used_words ws used) (take (limit ws) ws), length-take (limit ws) ws);
}

-- An object laid behind the used words was put.
rows_put_at : {X : Type 0} (v : View X) (l : List X) (ws ws' : List ℕ) (used n : ℕ) (o : Object) (p : Place o) → used_words ws used + n ≤ limit ws → Lays v l ws (used_words ws used) ws' n → words_price o ≡ 8 * n →
    filled (words_meaning (take (used_words ws used) ws)) o ≡ true → ((xs : List ℕ) → seen v (drop (used_words ws used) xs) ≡ Some l → Stands (words_meaning xs) o p) → Puts o (words_state ws used) (words_state ws' (used_words ws used + n)) p
rows_put_at v l ws ws' used n o p r h e f st =
    let t = used_words ws used in
    let c : limit ws' ≡ limit ws = ap (λ x. min x 65536) h.long in
    let m : used_words ws' (t + n) ≡ t + n = omega arith in
    record {
      fills = subst (λ m. filled m o ≡ true) (sym (rows_shown ws used)) f;
      size = ap (λ x. 8 * x) c;
      paid = omega arith;
      kept = λ k q. ap words_meaning (sym (take-take (k / 8) t ws' (omega arith)) ∙ (ap (take (k / 8)) h.front ∙ take-take (k / 8) t ws (omega arith)));
      stands = subst (λ m. Stands m o p) (sym (rows_shown ws' (t + n))) (st (take (used_words ws' (t + n)) ws') (ap (λ k. seen v (drop t (take k ws'))) m ∙ h.stands));
      free = ap₂ (λ a b. bytes (drop a (take b ws'))) m c ∙ (ap bytes (behind ws ws' (t + n) (limit ws) r h.back ∙ sym (drop-drop n t (take (limit ws) ws))) ∙ (sym (drop_bytes n (drop t (take (limit ws) ws))) ∙ ap (λ k. drop k (bytes (drop t (take (limit ws) ws)))) (sym e)));
    }

pub rows_put : {X : Type 0} (v : View X) (l : List X) (ws ws' : List ℕ) (used from n : ℕ) (o : Object) (p : Place o) → from ≡ used_words ws used → from + n ≤ limit ws → Lays v l ws from ws' n → words_price o ≡ 8 * n →
    filled (words_meaning (take (used_words ws used) ws)) o ≡ true → ((xs : List ℕ) → seen v (drop from xs) ≡ Some l → Stands (words_meaning xs) o p) → Puts o (words_state ws used) (words_state ws' (from + n)) p
rows_put v l ws ws' used from n o p u r h e f st =
    let Goal : ℕ → Type 0 = λ k. k + n ≤ limit ws → Lays v l ws k ws' n → ((xs : List ℕ) → seen v (drop k xs) ≡ Some l → Stands (words_meaning xs) o p) → Puts o (words_state ws used) (words_state ws' (k + n)) p in
    subst Goal (sym u) (λ q g z. rows_put_at v l ws ws' used n o p q g e f z) r h st

-- zeros, and what lies behind them
module _ (ws ws' : List ℕ) (f t c : ℕ) (ft : f ≤ t) (tc : t ≤ c) (cl : c ≤ length ws) (e : ws' ≡ take f ws ++ (replicate (t - f) 0 ++ drop t ws)) where
  zeros_front : take f ws' ≡ take f ws
  zeros_front = ap (take f) e ∙ take_at (take f ws) (replicate (t - f) 0 ++ drop t ws) f (length-take-le f ws (omega arith))

  zeros_long : length ws' ≡ length ws
  zeros_long = ap length e ∙ omega (arith, length-append (take f ws) (replicate (t - f) 0 ++ drop t ws), length-append (replicate (t - f) 0) (drop t ws), length-replicate {A = ℕ} (t - f) 0, length-drop t ws, length-take-le f ws (omega arith))

  zeros_behind : drop f (take c ws') ≡ replicate (t - f) 0 ++ drop t (take c ws)
  zeros_behind =
      let zs : List ℕ = replicate (t - f) 0 in
      let lf : length (take f ws) ≡ f = length-take-le f ws (omega arith) in
      let lz : length (take f ws ++ zs) ≡ t = omega (arith, length-append (take f ws) zs, length-replicate {A = ℕ} (t - f) 0) in
      let e' : ws' ≡ (take f ws ++ zs) ++ drop t ws = e ∙ sym (append_assoc (take f ws) zs (drop t ws)) in
      let a : drop t ws' ≡ drop t ws = ap (drop t) e' ∙ drop_at (take f ws ++ zs) (drop t ws) t lz in
      let b : take t (take c ws') ≡ take f ws ++ zs = take-take t c ws' tc ∙ (ap (take t) e' ∙ take_at (take f ws ++ zs) (drop t ws) t lz) in
      let d : take c ws' ≡ take f ws ++ (zs ++ drop t (take c ws)) = sym (take-append-drop t (take c ws')) ∙ (ap₂ (λ x y. x ++ y) b (behind ws ws' t c tc a) ∙ append_assoc (take f ws) zs (drop t (take c ws))) in
      ap (drop f) d ∙ drop_at (take f ws) (zs ++ drop t (take c ws)) f lf

pub rows_cut : (ws ws' : List ℕ) (used h : ℕ) → h ≤ 8 * used_words ws used → h % 8 ≡ 0 → ws' ≡ take (h / 8) ws ++ (replicate (used_words ws used - h / 8) 0 ++ drop (used_words ws used) ws) → Cuts (words_state ws used) (words_state ws' (h / 8)) h
rows_cut ws ws' used h le whole e =
    let t = used_words ws used in
    let long = zeros_long ws ws' (h / 8) t (limit ws) (omega arith) (omega arith) (omega arith) e in
    let c : limit ws' ≡ limit ws = ap (λ x. min x 65536) long in
    let m : used_words ws' (h / 8) ≡ h / 8 = omega arith in
    let z : 8 * (t - h / 8) ≡ 8 * t - h = omega arith in
    record {
      size = ap (λ x. 8 * x) c;
      height = omega arith;
      kept = λ k l. ap words_meaning (sym (take-take (k / 8) (h / 8) ws' (omega arith)) ∙ (ap (take (k / 8)) (zeros_front ws ws' (h / 8) t (limit ws) (omega arith) (omega arith) (omega arith) e) ∙ take-take (k / 8) (h / 8) ws (omega arith)));
      free = ap₂ (λ a b. bytes (drop a (take b ws'))) m c ∙ (ap bytes (zeros_behind ws ws' (h / 8) t (limit ws) (omega arith) (omega arith) (omega arith) e) ∙ (zero_bytes (t - h / 8) (drop t (take (limit ws) ws)) ∙ ap (λ k. replicate k 0 ++ bytes (drop t (take (limit ws) ws))) z));
    }

no_bytes : (xs : List ℕ) → xs ++ bytes [] ≡ xs
unfolding bytes
no_bytes xs = append-nil xs

-- Nothing stands in no words.
none_cond : (a : Bool) (n m w : ℕ) → m ≡ 0 → cond (a && ltb n m) (Some w) None ≡ None
none_cond true n m w e = grind (arith, nat_tests)
none_cond false n m w e = refl

none_seen : {X : Type 0} (v : View X) (xs : List ℕ) → length xs ≡ 0 → seen v xs ≡ None
none_seen v xs e = seen_none v xs (none_cond (v.ok (get_or xs 0 0)) (v.size (get_or xs 0 0)) (length xs) (get_or xs 0 0) e)

rows_nothing : (ws : List ℕ) → length ws ≡ 0 → Nothing (words_meaning ws)
rows_nothing ws e =
    record {
      text = λ p. none_seen text_view (drop p.0 ws) (omega (arith, length-drop p.0 ws));
      tables = λ p. none_seen tables_view (drop p.0 ws) (omega (arith, length-drop p.0 ws));
      numbers = λ p. none_seen numbers_view (drop p.0 ws) (omega (arith, length-drop p.0 ws));
      table = λ k p. none_seen (table_view k) (drop p.0 ws) (omega (arith, length-drop p.0 ws));
    }

pub rows_fresh : (ws ws' : List ℕ) → ws' ≡ take 0 ws ++ (replicate (limit ws - 0) 0 ++ drop (limit ws) ws) → Fresh (words_state ws' 0) (8 * limit ws)
rows_fresh ws ws' e =
    let long = zeros_long ws ws' 0 (limit ws) (limit ws) (omega arith) (omega arith) (omega arith) e in
    let c : limit ws' ≡ limit ws = ap (λ x. min x 65536) long in
    let m : used_words ws' 0 ≡ 0 = omega arith in
    let n : drop (limit ws) (take (limit ws) ws) ≡ [] = drop_all (limit ws) (take (limit ws) ws) (omega (arith, length-take (limit ws) ws)) in
    let z : 8 * (limit ws - 0) ≡ 8 * limit ws' - 8 * used_words ws' 0 = omega arith in
    record {
      size = ap (λ x. 8 * x) c;
      height = omega arith;
      empty = subst Nothing (sym (rows_shown ws' 0)) (rows_nothing (take (used_words ws' 0) ws') (omega (arith, length-take (used_words ws' 0) ws')));
      clear = ap₂ (λ a b. bytes (drop a (take b ws'))) m c ∙ (ap bytes (zeros_behind ws ws' 0 (limit ws) (limit ws) (omega arith) (omega arith) (omega arith) e ∙ ap (λ x. replicate (limit ws - 0) 0 ++ x) n) ∙ (zero_bytes (limit ws - 0) [] ∙ (no_bytes (replicate (8 * (limit ws - 0)) 0) ∙ ap (λ k. replicate k 0) z)));
    }

-- Each table that stands in a row of words has the slots of its kind.
table_typed : (k : Kind) (xs : List ℕ) (l : List Slot) (o : Option ℕ) → standing (table_view k) xs ≡ o → seen (table_view k) xs ≡ Some l → slots_typed (sorts k) l ≡ true
table_typed k xs l None st e = let z : ◌≡◌ {A = ℕ} 0 1 = (let n = seen_none (table_view k) xs st in cc) in absurd (omega arith)
table_typed k xs l (Some h) st e =
    let n = length (sorts k) in
    let f = element (table_view k) xs h in
    let q : map f (range_with_len 0 n) ≡ l = (let s = seen_some (table_view k) xs h st in cc) in
    subst (λ x. slots_typed (sorts k) x ≡ true) q (typed_from (sorts k) (map f (range_with_len 0 n)) Text Absent (length-map-range_with_len f 0 n) (λ i b. subst (λ x. slot_typed (get_or (sorts k) i Text) x ≡ true) (sym (get_or-map-range_with_len f 0 n i i Absent b (omega arith))) (element_in (bit (h / 256) i) (get_or (sorts k) i Text) (get_or xs (1 + i) 0))))

pub rows_typed : (ws : List ℕ) → Typed (words_meaning ws)
rows_typed ws k p l e = table_typed k (drop p.0 ws) l (standing (table_view k) (drop p.0 ws)) refl e

-- A table that was laid, with slots that hold what their sorts say, is read as it was laid.
pub table_lays : (k : Kind) (l : List Slot) (ws ws' : List ℕ) (at : ℕ) → slots_typed (sorts k) l ≡ true → at + (1 + length l) ≤ limit ws → TableLaid k l ws at ws' → Lays (table_view k) l ws at ws' (1 + length l)
table_lays k l ws ws' at t r laid =
    let n = typed_length (sorts k) l t in
    lays_from (table_view k) l (table_head k l) (length l) Absent (SlotWord l) ws ws' at (omega arith) laid
    (table_ok k l) (sym n) (sym n) (λ i q. q) (λ i w q v. table_back k l i w t q v.0 v.1)

-- A text that was laid is read as it was laid.
pub text_lays : (t : List ℕ) (ws ws' : List ℕ) (at : ℕ) → at + (1 + (length t + 7) / 8) ≤ limit ws → Laid (set ws at (1 + 8 * length t)) (at + 1) ws' ((length t + 7) / 8) (TextWord t) → Lays text_view t ws at ws' (1 + (length t + 7) / 8)
text_lays t ws ws' at r laid =
    let h = 1 + 8 * length t in
    let ok : eqb (h % 8) 1 ≡ true = grind (arith, nat_tests) in
    let n : h / 8 ≡ length t = omega arith in
    lays_from text_view t h ((length t + 7) / 8) 0 (TextWord t) ws ws' at (omega arith) laid ok n (ap (λ x. (x + 7) / 8) n) (λ i q. omega arith) (λ i w q e. text_back t w i e)

-- So is a list.
pub list_lays : {X : Type 0} (of : ℕ → X) (mark : ℕ) (l : List X) (ws ws' : List ℕ) (at : ℕ) → mark < 8 → at + (1 + list_size (length l)) ≤ limit ws → Laid (set ws at (mark + 8 * length l)) (at + 1) ws' (list_size (length l)) (ListWord of l) → Lays (list_view of mark) l ws at ws' (1 + list_size (length l))
list_lays of mark l ws ws' at small r laid =
    let h = mark + 8 * length l in
    let ok : eqb (h % 8) mark ≡ true = grind (arith, nat_tests) in
    let n : h / 8 ≡ length l = omega arith in
    lays_from (list_view of mark) l h (list_size (length l)) (of 0) (ListWord of l) ws ws' at (omega arith) laid ok n (ap list_size n) (λ i q. list_inside (length l) i q) (λ i w q e. e i q refl)

-- What a put answers, by what laying answered.
pub put_laid : {X : Type 0} (v : View X) (l : List X) (h n : ℕ) (P : ℕ → ℕ → Type 0) (ws ws' : List ℕ) (used used' : ℕ) (o : Object) (place : ℕ → Place o) (r : Result ℕ StoreRefusal) (told : Result (Place o) StoreRefusal) → LaidBehind h n P ws used ws' used' r → told ≡ result_map_both place (λ e. e) r → words_price o ≡ 8 * (1 + n) →
    filled (words_meaning (take (used_words ws used) ws)) o ≡ true → ((at : ℕ) → at + (1 + n) ≤ limit ws → Laid (set ws at h) (at + 1) ws' n P → Lays v l ws at ws' (1 + n)) →
    ((p : ℕ) (xs : List ℕ) → seen v (drop p xs) ≡ Some l → Stands (words_meaning xs) o (place p)) → Put o (words_state ws used) (words_state ws' used') told
put_laid v l h n P ws ws' used used' o place (Ok p) told a is e f lays st = subst (Put o (words_state ws used) (words_state ws' used')) (sym is) (subst (λ u. Puts o (words_state ws used) (words_state ws' u) (place p)) (sym a.1) (rows_put v l ws ws' used p (1 + n) o (place p) a.0 a.2 (lays p a.2 a.3) e f (st p)))
put_laid v l h n P ws ws' used used' o place (Err y) told a is e f lays st =
    let room = a.1 in
    subst (Put o (words_state ws used) (words_state ws' used')) (sym is) (subst (λ x. Refuses o (words_state ws used) (words_state ws' used') x) (sym a.0) (record {
      same = ap₂ words_state a.2 a.3;
      why = (subst (λ m. filled m o ≡ true) (sym (rows_shown ws used)) f, sym e, omega arith);
    }))

-- Nothing was laid, since the object is misfilled.
pub put_misfilled : (ws : List ℕ) (used : ℕ) (o : Object) → filled (words_meaning (take (used_words ws used) ws)) o ≡ false → Refuses o (words_state ws used) (words_state ws used) Misfilled
put_misfilled ws used o f = record { same = refl; why = subst (λ m. filled m o ≡ false) (sym (rows_shown ws used)) f }
