use Rattle.std.proofs.Common.{◌≡◌, ◌-◌, suc, sym, arith}
use Rattle.qz_tables.proofs.DueLemmas.{next-due, skip-due}
use Rattle.qz_tables.proofs.due.first_waiting.Goals as goal

pub loop-place-preserved-then-waits_and : goal.loop-place-preserved-then-waits_and
loop-place-preserved-then-waits_and g c =
    let one : suc (c.loop-place.place - 1) ≡ c.loop-place.place = omega arith in
    (omega (arith, c.loop-place.invariant.0), rw c.earlier.ensures (next-due _ c.args.triggers.now.rows (c.loop-place.place - 1) c.in-Some.trigger.now _ (sym c.in-Some.ensures) (sym c.if-waits_and.ensures) (rw one c.loop-place.invariant.1)))

pub loop-place-preserved : goal.loop-place-preserved
loop-place-preserved g c =
    let one : suc (c.loop-place.place - 1) ≡ c.loop-place.place = omega arith in
    (omega (arith, c.loop-place.invariant.0), skip-due _ c.args.triggers.now.rows (c.loop-place.place - 1) c.in-Some.trigger.now _ (sym c.in-Some.ensures) (sym c.if-waits_and.ensures) (rw one c.loop-place.invariant.1))
