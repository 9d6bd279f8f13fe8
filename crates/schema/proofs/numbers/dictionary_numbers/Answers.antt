use Rattle.std.proofs.Common.{◌<◌, ◌≤◌, ◌++◌, length, drop, sym, ap, ◌∙◌, subst, arith}
use Rattle.roll.specs.Rolls.{items, free}
use Rattle.sheet.specs.Contents.{content}
use Rattle.schema.specs.Numbers.{how_many, numbers_at}
use Rattle.schema.proofs.NumberTruth.{enough, too_few, laid}
use Rattle.schema.proofs.numbers.dictionary_numbers.Goals as goal

pub returns-then-count_dictionaries-capacity-clause-cases : goal.returns-then-count_dictionaries-capacity-clause-cases
returns-then-count_dictionaries-capacity-clause-cases c =
    let lack : length (free c.args.out.now) < c.count_dictionaries.result = omega (arith, c.capacity.ensures, c.len.ensures.value) in
    too_few (content c.args.sheet.now) c.in_ok-check.ensures.lawful c.count_dictionaries.result (length (free c.args.out.now)) (c.count_dictionaries.ensures ∙ ap how_many c.as_slice-records.ensures) lack

pub lay_row-requires : goal.lay_row-requires
lay_row-requires c =
    let n = length c.as_slice-records.result.now in
    let room : c.count_dictionaries.result ≤ length (free c.args.out.now) = omega (arith, c.capacity.ensures, c.len.ensures.value) in
    subst (λ xs. length (numbers_at 32 n xs).numbers ≤ length (free c.args.out.now)) (sym c.as_slice-records.ensures)
    (enough (content c.args.sheet.now) c.in_ok-check.ensures.lawful n c.count_dictionaries.result (length (free c.args.out.now)) (ap length c.as_slice-records.ensures)
    (c.count_dictionaries.ensures ∙ ap how_many c.as_slice-records.ensures) room)

pub returns-clause-laid : goal.returns-clause-laid
returns-clause-laid c =
    let n = length c.as_slice-records.result.now in
    let same = c.as_slice-records.ensures in
    laid (content c.args.sheet.now) c.in_ok-check.ensures.lawful n (items c.args.out.now) (free c.args.out.now) (items c.lay_row.new.out) (free c.lay_row.new.out) (ap length same)
    (c.lay_row.ensures.items ∙ ap (λ xs. items c.args.out.now ++ (numbers_at 32 n xs).numbers) same)
    (c.lay_row.ensures.free ∙ ap (λ xs. drop (length (numbers_at 32 n xs).numbers) (free c.args.out.now)) same)
