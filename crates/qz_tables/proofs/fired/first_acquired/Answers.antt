use Rattle.std.proofs.Common.{sym, ap, ◌∙◌, arith, add-one}
use Rattle.std.specs.List.{slice_get}
use Rattle.qz_types.specs.States.{is_acquired_for}
use Rattle.qz_tables.proofs.Firsts.{passes-at, fails-at}
use Rattle.qz_tables.proofs.fired.first_acquired.Goals as goal

pub returns-then-is_acquired_for : goal.returns-then-is_acquired_for
returns-then-is_acquired_for c =
    let e = passes-at (is_acquired_for c.args.trigger.now) c.args.rows.now.rows c.loop-place.place c.in-Some.row.now (sym c.in-Some.ensures) (sym c.if-is_acquired_for.ensures) in
    sym (c.loop-place.invariant.1 ∙ ap (λ xs. slice_get xs 0) e)

pub loop-place-preserved : goal.loop-place-preserved
loop-place-preserved c =
    let e = fails-at (is_acquired_for c.args.trigger.now) c.args.rows.now.rows c.loop-place.place c.in-Some.row.now (sym c.in-Some.ensures) (sym c.if-is_acquired_for.ensures) in
    (omega (arith, c.loop-place-test.true, c.len-count.ensures), rw add-one (c.loop-place.invariant.1 ∙ ap (λ xs. slice_get xs 0) e))
