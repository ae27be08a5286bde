use Rattle.std.proofs.Common.{rules, ◌≡◌, ◌<◌, true, false, length, take, Some, sym, ap, ◌∙◌, subst, arith}
use Rattle.std.proofs.lemmas.Grind.{common_steps}
use Rattle.std.proofs.lemmas.List.{take_all}
use Rattle.std.specs.List.{AllByRecursion, slice_get}
use Rattle.std.specs.Ordering.{nat_cmp}
use Rattle.qz_types.specs.Sorted.{IsAscending}
use Rattle.qz_types.specs.Tables.{SchedulerTables}
use Rattle.qz_types.specs.Words.{fired_of}
use Rattle.qz_model.specs.Tests.{is_of}
use Rattle.qz_recover.specs.Rows.{with_row_ended}
use Rattle.qz_recover.proofs.Walk.{All-one_more, all_ended, step_ended, place_left, ordered_left, fewer_left, nothing_left}
use Rattle.qz_recover.proofs.Phases.{keeps_on}
use Rattle.qz_recover.proofs.ending.end_rows.Goals as goal

pub loop-place-smaller-then-is_of : goal.loop-place-smaller-then-is_of
loop-place-smaller-then-is_of c =
    let T = c.loop-place.tables.tables in
    let f = c.in-Some.row.now in
    let is : slice_get T.fired c.loop-place.place ≡ Some f = grind (arith, common_steps) in
    let mine : is_of c.args.member.now f ≡ true = cc in
    let then : c.end_row.new.tables.tables ≡ with_row_ended T f.entry (fired_of f.entry T.fired) = search rules in
    let fewer : length c.end_row.new.tables.tables.fired < length T.fired =
    subst (λ (x : SchedulerTables). length x.fired < length T.fired) (sym then) (fewer_left c.args.member.now T c.loop-place.invariant.0 c.loop-place.place f is mine) in
    omega (arith, fewer, c.loop-place-test.true, c.len_fired.ensures)

pub loop-place-preserved-then-is_of : goal.loop-place-preserved-then-is_of
loop-place-preserved-then-is_of c =
    let T = c.loop-place.tables.tables in
    let f = c.in-Some.row.now in
    let is : slice_get T.fired c.loop-place.place ≡ Some f = grind (arith, common_steps) in
    let mine : is_of c.args.member.now f ≡ true = cc in
    let then : c.end_row.new.tables.tables ≡ with_row_ended T f.entry (fired_of f.entry T.fired) = search rules in
    let sorted = ordered_left c.args.member.now T c.loop-place.invariant.0 c.loop-place.place f is mine in
    let left = place_left c.args.member.now T c.loop-place.invariant.0 c.loop-place.place f is mine c.loop-place.invariant.1 in
    let step = step_ended c.args.member.now T c.loop-place.invariant.0 c.loop-place.place f is mine in (
      subst (λ (x : SchedulerTables). IsAscending nat_cmp (λ r. r.entry) x.fired) (sym then) sorted,
      subst (λ (x : SchedulerTables). AllByRecursion (λ g. is_of c.args.member.now g ≡ false) (take c.loop-place.place x.fired)) (sym then) left,
      ap (all_ended c.args.member.now) then ∙ step ∙ c.loop-place.invariant.2,
      keeps_on c.loop-place.invariant.3 c.end_row.ensures.spare,
    )

pub loop-place-preserved : goal.loop-place-preserved
loop-place-preserved c =
    let T = c.loop-place.tables.tables in
    let f = c.in-Some.row.now in
    let is : slice_get T.fired c.loop-place.place ≡ Some f = grind (arith, common_steps) in
    let other : is_of c.args.member.now f ≡ false = cc in
    (c.loop-place.invariant.0, All-one_more (λ g. is_of c.args.member.now g ≡ false) T.fired c.loop-place.place f c.loop-place.invariant.1 is other, c.loop-place.invariant.2, c.loop-place.invariant.3)

pub returns-clause-tables : goal.returns-clause-tables
returns-clause-tables c =
    let T = c.loop-place.tables.tables in
    let all : take c.loop-place.place T.fired ≡ T.fired = take_all c.loop-place.place T.fired (omega (arith, c.loop-place-test.false, c.len_fired.ensures)) in
    let none : AllByRecursion (λ g. is_of c.args.member.now g ≡ false) T.fired = subst (AllByRecursion (λ g. is_of c.args.member.now g ≡ false)) all c.loop-place.invariant.1 in
    sym (nothing_left c.args.member.now T none) ∙ c.loop-place.invariant.2
