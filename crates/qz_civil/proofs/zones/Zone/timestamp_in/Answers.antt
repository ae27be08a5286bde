-- In a stretch the timestamp is the local clock less the offset, where that lies in the stretch.
use Rattle.std.proofs.Common.{◌≡◌, ◌∙◌, sym, None, arith, slice_get, to_z, of_z, w32, w64}
use Rattle.std.proofs.lemmas.Int.{ints}
use Rattle.qz_civil.specs.Zones.{bad_zone, offset_of}
use Rattle.qz_civil.proofs.InstantLemmas.{shown-in, not-shown-in}
use Rattle.qz_civil.proofs.zones.Zone.timestamp_in.Goals as goal

pub returns-then-is_in_stretch : goal.returns-then-is_in_stretch
returns-then-is_in_stretch c =
    let known : bad_zone c.args.self.now ≡ None = cc (c.self.invariant, c.self.view_is) in
    let ms : to_z w64 (of_z w64 c.unshifted-ms.result) ≡ c.unshifted-ms.result = omega (arith, ints) in
    let passed : to_z w32 (of_z w32 c.offset_in.result) ≡ c.offset_in.result = omega (arith, ints) in
    let offset : to_z w32 (of_z w32 c.offset_in.result) ≡ offset_of (slice_get c.args.self.now c.args.place) = passed ∙ c.offset_in.ensures.value in
    let shift = rw offset at c.unshifted-ms.ensures in
    shown-in c.args.self.now c.args.local c.args.place _ known (ms ∙ shift) (sym c.is_in_stretch.ensures ∙ c.if-is_in_stretch.true)

pub returns-else-is_in_stretch : goal.returns-else-is_in_stretch
returns-else-is_in_stretch c =
    let known : bad_zone c.args.self.now ≡ None = cc (c.self.invariant, c.self.view_is) in
    let ms : to_z w64 (of_z w64 c.unshifted-ms.result) ≡ c.unshifted-ms.result = omega (arith, ints) in
    let passed : to_z w32 (of_z w32 c.offset_in.result) ≡ c.offset_in.result = omega (arith, ints) in
    let offset : to_z w32 (of_z w32 c.offset_in.result) ≡ offset_of (slice_get c.args.self.now c.args.place) = passed ∙ c.offset_in.ensures.value in
    let shift = rw offset at c.unshifted-ms.ensures in
    not-shown-in c.args.self.now c.args.local c.args.place _ known (ms ∙ shift) (sym c.is_in_stretch.ensures ∙ c.if-is_in_stretch.false)
