-- The timestamps lie in the stretch of the earliest one that may be, or in the next.
use Rattle.std.proofs.Common.{◌≡◌, ◌∙◌, ap, None, arith, pos, ◌-◌, to_z, w64}
use Rattle.std.proofs.lemmas.Int.{ints}
use Rattle.qz_civil.specs.declared.limits.TheConstants.{GREATEST_SHIFT_MS}
use Rattle.qz_civil.specs.Zones.{bad_zone, stretch_at}
use Rattle.qz_civil.proofs.InstantLemmas.{shown-both, shown-second}
use Rattle.qz_civil.proofs.zones.Zone.timestamps_at.Goals as goal

pub returns-in-Some : goal.returns-in-Some
returns-in-Some c =
    let known : bad_zone c.args.self.now ≡ None = cc (c.self.invariant, c.self.view_is) in
    let earliest : to_z w64 c.saturating_sub.result ≡ pos (c.args.local - GREATEST_SHIFT_MS) = omega (arith, ints) in
    let place : c.stretch_at-place.result ≡ stretch_at c.args.self.now (pos (c.args.local - GREATEST_SHIFT_MS)) = c.stretch_at-place.ensures.value ∙ ap (stretch_at c.args.self.now) earliest in
    let first = rw (c.in-Some.is, place) at c.timestamp_in-first.ensures in
    let second = rw place at c.timestamp_in-second.ensures in
    rw c.in-Some.is (shown-both c.args.self.now c.args.local c.in-Some.field-0 c.timestamp_in-second.result known first second)

pub returns-in-None : goal.returns-in-None
returns-in-None c =
    let known : bad_zone c.args.self.now ≡ None = cc (c.self.invariant, c.self.view_is) in
    let earliest : to_z w64 c.saturating_sub.result ≡ pos (c.args.local - GREATEST_SHIFT_MS) = omega (arith, ints) in
    let place : c.stretch_at-place.result ≡ stretch_at c.args.self.now (pos (c.args.local - GREATEST_SHIFT_MS)) = c.stretch_at-place.ensures.value ∙ ap (stretch_at c.args.self.now) earliest in
    let first = rw (c.in-None.is, place) at c.timestamp_in-first.ensures in
    let second = rw place at c.timestamp_in-second.ensures in
    shown-second c.args.self.now c.args.local c.timestamp_in-second.result known first second
