-- The instants of a civil time are the timestamps at which the local clock shows its number of milliseconds.
use Rattle.std.proofs.Common.{◌≡◌, None}
use Rattle.qz_civil.specs.Zones.{bad_zone}
use Rattle.qz_civil.proofs.InstantLemmas.{instants-shown, instants-none}
use Rattle.qz_civil.proofs.zones.Zone.instants_of.Goals as goal

pub returns-in-Some : goal.returns-in-Some
returns-in-Some c = instants-shown c.args.self.now c.in-Some.local c.args.civil c.timestamps_at.result.0 c.timestamps_at.result.1 c.in-Some.ensures.found c.timestamps_at.ensures

pub returns-in-None : goal.returns-in-None
returns-in-None c =
    let known : bad_zone c.args.self.now ≡ None = cc (c.self.invariant, c.self.view_is) in
    instants-none c.args.self.now c.args.civil known c.in-None.ensures.none
