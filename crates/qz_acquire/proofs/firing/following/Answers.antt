use Rattle.std.proofs.Common.{◌≡◌, ◌≤ℤ◌, Some, w64, to_z, of_z, sym, subst, arith}
use Rattle.std.proofs.lemmas.Bool.{and_parts}
use Rattle.std.proofs.lemmas.Int.{ints, to_z-of_z}
use Rattle.std.proofs.lemmas.Grind.{common_steps}
use Rattle.qz_civil.specs.declared.limits.TheConstants.{LAST}
use Rattle.qz_types.specs.Tables.{IsMoment}
use Rattle.qz_types.specs.Words.{trigger_of}
use Rattle.qz_acquire.proofs.Firings.{time_of_row}
use Rattle.qz_acquire.proofs.firing.following.Goals as goal

pub next_after-requires-clause-spec : goal.next_after-requires-clause-spec
next_after-requires-clause-spec c = (and_parts _ _ c.trigger.invariant).0

pub next_after-requires-clause-low : goal.next_after-requires-clause-low
next_after-requires-clause-low c =
    let read : to_z w64 (of_z w64 c.next_time.result) ≡ c.next_time.result = grind (arith, common_steps, to_z-of_z) in
    let found : trigger_of c.args.row.now.trigger c.args.tables.now.tables.triggers ≡ Some c.in-Some.trigger.now = grind (arith, common_steps) in
    let within : IsMoment LAST c.next_time.result =
    subst (IsMoment LAST) (sym c.next_time.ensures) (time_of_row c.args.tables.now.tables c.args.entry c.args.row.now c.in-Some.trigger.now c.requires.valid c.requires.stored c.requires.taken found) in
    omega (arith, ints, read, within.low)

pub next_after-requires-clause-high : goal.next_after-requires-clause-high
next_after-requires-clause-high c =
    let read : to_z w64 (of_z w64 c.next_time.result) ≡ c.next_time.result = grind (arith, common_steps, to_z-of_z) in
    let found : trigger_of c.args.row.now.trigger c.args.tables.now.tables.triggers ≡ Some c.in-Some.trigger.now = grind (arith, common_steps) in
    let within : IsMoment LAST c.next_time.result =
    subst (IsMoment LAST) (sym c.next_time.ensures) (time_of_row c.args.tables.now.tables c.args.entry c.args.row.now c.in-Some.trigger.now c.requires.valid c.requires.stored c.requires.taken found) in
    subst (λ n. n ≤ℤ LAST) (sym read) within.high
