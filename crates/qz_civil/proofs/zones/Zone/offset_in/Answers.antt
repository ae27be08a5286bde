-- A zone's offsets are within their limit.
use Rattle.std.proofs.Common.{◌≡◌, None, arith, neg_ℤ, ◌≤ℤ◌}
use Rattle.std.proofs.lemmas.Int.{ints}
use Rattle.qz_civil.specs.declared.limits.TheConstants.{OFFSET_LIMIT}
use Rattle.qz_civil.specs.Zones.{bad_zone}
use Rattle.qz_civil.proofs.ZoneLemmas.{offset_of-bound}
use Rattle.qz_civil.proofs.zones.Zone.offset_in.Goals as goal

pub returns-clause-low : goal.returns-clause-low
returns-clause-low c =
    let known : bad_zone c.args.self.now ≡ None = cc (c.self.invariant, c.self.view_is) in
    let bound = offset_of-bound c.args.self.now c.args.place known in
    let here : neg_ℤ OFFSET_LIMIT ≤ℤ c.offset_of.result = rw c.offset_of.ensures bound.0 in
    omega (arith, ints)

pub returns-clause-high : goal.returns-clause-high
returns-clause-high c =
    let known : bad_zone c.args.self.now ≡ None = cc (c.self.invariant, c.self.view_is) in
    let bound = offset_of-bound c.args.self.now c.args.place known in
    let here : c.offset_of.result ≤ℤ OFFSET_LIMIT = rw c.offset_of.ensures bound.1 in
    omega (arith, ints)
