-- A place leads to at most one image, and to the same one in a store that grows.
use Rattle.std.proofs.Common.{◌≡◌, List, map, Some, refl, ap, subst, ap₂}
use Rattle.kinds.specs.declared.Kind.{Kind}
use Rattle.kinds.specs.declared.Sort.{Sort}
use Rattle.kinds.specs.Slots.{sorts}
use Rattle.store.specs.declared.place.TableAt.{TableAt}
use Rattle.store.specs.declared.place.Slot.{Slot}
use Rattle.store.specs.declared.place.Slot.TheVariants.{Absent, Table}
use Rattle.store.specs.Meaning.{Meaning, Grows}
use Rattle.store.specs.Images.{Image, absent, number, text, numbers, table, tables, each, Leads, at_end, to_none, to_number, to_text, to_numbers, to_table, to_chosen, to_tables, OneImage, ImagesStay}

-- The same table has the same slots, also where a tag chose its kind.
moved : {m : Meaning} {k k' : Kind} {l l' : List Slot} {y : Image} (p : TableAt) → k' ≡ k → m.table k p ≡ Some l → m.table k' p ≡ Some l' → Leads m Absent (sorts k') l' y → Leads m Absent (sorts k) l y
moved {m} {k} {k'} {l} {l'} {y} p q e f b =
    let g : m.table k p ≡ Some l' = subst (λ x. m.table x p ≡ Some l') q f in
    let r : l' ≡ l = cc in
    subst (λ x. Leads m Absent (sorts k) x y) r (subst (λ x. Leads m Absent (sorts x) l' y) q b)

pub one : {m : Meaning} {before : Slot} {sos : List Sort} {ss : List Slot} {x y : Image} → Leads m before sos ss x → Leads m before sos ss y → x ≡ y
one at_end at_end = refl
one (to_none a) (to_none b) = ap absent (one a b)
one (to_number {n = n} a) (to_number b) = ap (number n) (one a b)
one (to_text e a) (to_text f b) = ap₂ text (cc) (one a b)
one (to_numbers e a) (to_numbers f b) = ap₂ numbers (cc) (one a b)
one (to_table {k = k} {p = p} e a c) (to_table f b d) = ap₂ (table k) (one a (moved p refl e f b)) (one c d)
one {m} (to_chosen {k = k} {p = p} s e a c) (to_chosen {k = k'} t f b d) =
    let q : k' ≡ k = cc in
    let i = one a (moved p q e f b) in
    let j = one c d in
    cc
one {m} (to_tables {k = k} {l = l} e a c) (to_tables {l = l'} {inner = inner} f b d) =
    let r : l' ≡ l = cc in
    ap₂ tables (one a (subst (λ x. Leads m Absent (each k x) (map Table x) inner) r b)) (one c d)

pub one_image : OneImage
one_image m k p x y a b = one a.leads (moved p refl a.stands b.stands b.leads)

-- What a place leads to stays as a store grows.
pub leads_grows : {m n : Meaning} {before : Slot} {sos : List Sort} {ss : List Slot} {x : Image} → Grows m n → Leads m before sos ss x → Leads n before sos ss x
leads_grows g at_end = at_end
leads_grows g (to_none a) = to_none (leads_grows g a)
leads_grows g (to_number a) = to_number (leads_grows g a)
leads_grows g (to_text e a) = to_text (g.text _ _ e) (leads_grows g a)
leads_grows g (to_numbers e a) = to_numbers (g.numbers _ _ e) (leads_grows g a)
leads_grows g (to_table e a c) = to_table (g.table _ _ _ e) (leads_grows g a) (leads_grows g c)
leads_grows g (to_chosen t e a c) = to_chosen t (g.table _ _ _ e) (leads_grows g a) (leads_grows g c)
leads_grows g (to_tables e a c) = to_tables (g.tables _ _ e) (leads_grows g a) (leads_grows g c)

pub leads_stays : ImagesStay
leads_stays m n k p x g a = record { slots = a.slots; stands = g.table k p a.slots a.stands; leads = leads_grows g a.leads }
