-- The next stretch begins behind the timestamp and up to the last one, and until then the offset stays.
use Rattle.std.proofs.Common.{◌≡◌, None, arith, to_z, of_z, w64}
use Rattle.std.proofs.lemmas.Int.{ints}
use Rattle.qz_civil.specs.Zones.{bad_zone}
use Rattle.qz_civil.proofs.ZoneLemmas.{next_start-later, offset-stays}
use Rattle.qz_civil.proofs.zones.Zone.offset_until.Goals as goal

pub returns-clause-later : goal.returns-clause-later
returns-clause-later c =
    let known : bad_zone c.args.self.now ≡ None = cc (c.self.invariant, c.self.view_is) in
    let same : to_z w64 (of_z w64 c.args.ms) ≡ c.args.ms = omega (arith, ints) in
    let later = next_start-later c.args.self.now c.args.ms known in
    rw (c.start_of.ensures, c.begun-place.ensures, same) later.0

pub returns-clause-high : goal.returns-clause-high
returns-clause-high c =
    let known : bad_zone c.args.self.now ≡ None = cc (c.self.invariant, c.self.view_is) in
    let same : to_z w64 (of_z w64 c.args.ms) ≡ c.args.ms = omega (arith, ints) in
    let later = next_start-later c.args.self.now c.args.ms known in
    rw (c.start_of.ensures, c.begun-place.ensures, same) later.1

pub returns-clause-stays : goal.returns-clause-stays
returns-clause-stays c t le before =
    let same : to_z w64 (of_z w64 c.args.ms) ≡ c.args.ms = omega (arith, ints) in
    let until = rw (c.start_of.ensures, c.begun-place.ensures, same) at before in
    offset-stays c.args.self.now c.args.ms t le until

pub returns-clause-valid : goal.returns-clause-valid
returns-clause-valid c = cc (c.self.invariant, c.self.view_is)
