use Rattle.std.proofs.Common.{◌≡◌, ◌+◌, ◌-◌, ◌≤◌, [], ◌∷◌, ◌++◌, length, sym, ap, ◌∙◌, arith, rules}
use Rattle.std.proofs.lemmas.List.{length-append, length-drop}
use Rattle.roll.specs.Rolls.{items, free}
use Rattle.schema.specs.Numbers.{own_number, numbers_row, numbers_at}
use Rattle.schema.proofs.NumberSteps.{one_step, loop_room, loop_ends, row_out, row_done, row_on}
use Rattle.schema.proofs.numbers.+lay_row.Goals as goal

pub returns-in_default-clause-free : goal.returns-in_default-clause-free
returns-in_default-clause-free t c =
    let ended : c.loop.rest.now ≡ [] = search rules in
    loop_ends (items c.args.out.now) (free c.args.out.now) (items c.loop.out) (free c.loop.out) c.args.records.now c.loop.rest.now c.args.room c.args.n c.loop.counter (omega arith) c.loop.invariant.0
    (row_out (numbers_at (c.args.room - 1)) c.args.n c.loop.counter c.loop.rest.now ended)

pub returns-clause-free : goal.returns-clause-free
returns-clause-free t c =
    loop_ends (items c.args.out.now) (free c.args.out.now) (items c.loop.out) (free c.loop.out) c.args.records.now c.loop.rest.now c.args.room c.args.n c.loop.counter (omega arith) c.loop.invariant.0
    (row_done (numbers_at (c.args.room - 1)) c.args.n c.loop.counter c.loop.rest.now (omega arith))

pub lay_row-rest-requires : goal.lay_row-rest-requires
lay_row-rest-requires t c =
    let U = numbers_at (c.args.room - 1) in
    let x = c.in-Some.x.now in
    let stands : c.loop.rest.now ≡ x ∷ c.in-Some.nested.now = search rules in
    let nested = U x.children c.in-Some.nested.now in
    let more = (numbers_row U (c.args.n - (c.loop.counter + 1)) nested.records).numbers in
    let room = loop_room (items c.args.out.now) (free c.args.out.now) (items c.loop.out) (free c.loop.out) c.args.records.now c.loop.rest.now c.args.room c.args.n c.loop.counter (omega arith) c.loop.invariant.0 c.requires in
    let step = ap (λ t. length t.numbers) (row_on U c.args.n c.loop.counter c.loop.rest.now x c.in-Some.nested.now c.loop-test.true stands) in
    let fits : length nested.numbers ≤ length (free c.loop.out) = omega (arith, room, step, length-append nested.numbers (own_number x ++ more)) in
    search rules

pub lay_own-requires : goal.lay_own-requires
lay_own-requires t c =
    let U = numbers_at (c.args.room - 1) in
    let x = c.in-Some.x.now in
    let own = own_number x in
    let stands : c.loop.rest.now ≡ x ∷ c.in-Some.nested.now = search rules in
    let nested = U x.children c.in-Some.nested.now in
    let more = (numbers_row U (c.args.n - (c.loop.counter + 1)) nested.records).numbers in
    let room = loop_room (items c.args.out.now) (free c.args.out.now) (items c.loop.out) (free c.loop.out) c.args.records.now c.loop.rest.now c.args.room c.args.n c.loop.counter (omega arith) c.loop.invariant.0 c.requires in
    let step = ap (λ t. length t.numbers) (row_on U c.args.n c.loop.counter c.loop.rest.now x c.in-Some.nested.now c.loop-test.true stands) in
    omega (arith, room, step, length-append nested.numbers (own ++ more), length-append own more, ap length c.lay_row-rest.ensures.free, length-drop (length nested.numbers) (free c.loop.out))

pub loop-preserved : goal.loop-preserved
loop-preserved t c =
    let U = numbers_at (c.args.room - 1) in
    let m = c.args.n - (c.loop.counter + 1) in
    let x = c.in-Some.x.now in
    let stands : c.loop.rest.now ≡ x ∷ c.in-Some.nested.now = search rules in
    let nested = U x.children c.in-Some.nested.now in
    let on = row_on U c.args.n c.loop.counter c.loop.rest.now x c.in-Some.nested.now c.loop-test.true stands in
    let here = ap (numbers_row U m) c.lay_row-rest.ensures.behind in (
      one_step (items c.args.out.now) (free c.args.out.now) _ (items c.loop.out) (free c.loop.out) _ c.loop.invariant.0
          nested.numbers (own_number x) _ _ _ _ _
          (ap (λ t. t.numbers) on ∙ ap (λ r. nested.numbers ++ (own_number x ++ r.numbers)) (sym here))
          c.lay_row-rest.ensures.items c.lay_row-rest.ensures.free c.lay_own.ensures.items c.lay_own.ensures.free,
      ap (λ t. t.records) here ∙ sym (ap (λ t. t.records) on) ∙ c.loop.invariant.1,
    )
