use Rattle.std.proofs.Common.{◌≡◌, ℕ, ◌+◌, ◌/◌, ◌<◌, List, length, get_or, drop, Some, sym, ap, ◌∙◌, arith, rules}
use Rattle.word_layout.specs.Lists.{list_part, list_word}
use Rattle.word_layout.specs.Views.{list_view, standing}
use Rattle.word_layout.proofs.Listing.{list_inside}
use Rattle.word_layout.proofs.Sights.{reach, pick_at, pick_past}
use Rattle.words.proofs.view.WordView.list_element.Goals as goal

reached : {X : Type 0} (of : ℕ → X) (mark : ℕ) (ws : List ℕ) (p h i w : ℕ) → Some h ≡ standing (list_view of mark) (drop p ws) → i < h / 8 → w ≡ list_word i → p + 1 + w < length ws
reached of mark ws p h i w e l q = let r = reach (list_view of mark) ws p h e in let b = list_inside (h / 8) i l in omega arith

pub overflow_add-word-2 : goal.overflow_add-word-2
overflow_add-word-2 g c = let r = reached g.E.Element.of g.E.Element.mark c.args.self.now.words.now c.args.at.0 c.in_ok-head.head c.args.i c.word_of.result c.in_ok-head.ensures (omega arith) c.word_of.ensures in search rules

pub offset_bounds-self-at : goal.offset_bounds-self-at
offset_bounds-self-at g c = let r = reached g.E.Element.of g.E.Element.mark c.args.self.now.words.now c.args.at.0 c.in_ok-head.head c.args.i c.word_of.result c.in_ok-head.ensures (omega arith) c.word_of.ensures in search rules

pub bounds-self-at : goal.bounds-self-at
bounds-self-at g c = reached g.E.Element.of g.E.Element.mark c.args.self.now.words.now c.args.at.0 c.in_ok-head.head c.args.i c.word_of.result c.in_ok-head.ensures (omega arith) c.word_of.ensures

pub returns-then-i-head : goal.returns-then-i-head
returns-then-i-head g c = sym (pick_past (list_view g.E.Element.of g.E.Element.mark) (drop c.args.at.0 c.args.self.now.words.now) c.in_ok-head.head c.args.i (sym c.in_ok-head.ensures) (omega arith))

pub returns : goal.returns
returns g c =
    let of = g.E.Element.of in
    let ws = c.args.self.now.words.now in
    let i = c.args.i in
    let p = c.args.at.0 in
    ap Some (c.of_bits.ensures ∙ ap of (c.part_of.ensures ∙ ap (λ k. list_part i (get_or ws (p + 1 + k) 0)) c.word_of.ensures))
    ∙ pick_at (list_view of g.E.Element.mark) ws p c.in_ok-head.head i c.in_ok-head.ensures (omega arith)
