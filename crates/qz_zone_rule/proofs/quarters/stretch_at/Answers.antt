use Rattle.std.proofs.Common.{◌≡◌, ◌*◌, arith, refl, pos, ◌*ℤ◌, to_z, of_z, w64, w32}
use Rattle.jiff_core.proofs.SignedLemmas.{signed_arith}
use Rattle.jiff_tz.specs.Zone.{offset_at}
use Rattle.qz_zone_rule.specs.Tables.{offset}
use Rattle.qz_zone_rule.proofs.quarters.stretch_at.Goals as goal

pub returns : goal.returns
unfolding offset offset_at
returns c =
    let from : to_z w64 (of_z w64 (to_z w64 (of_z w64 c.from.result) *ℤ pos 900000)) ≡ pos (c.args.place * 900000) = omega (arith, signed_arith) in
    let low = c.to_offset.result.in_range.0 in
    let high = c.to_offset.result.in_range.1 in
    let seconds : to_z w32 (of_z w32 c.to_offset.result.seconds) ≡ c.to_offset.result.seconds = omega (arith, signed_arith) in
    let same = rw c.instant.ensures at c.to_offset.ensures in
    rw (from, seconds, same) refl
