-- A stretch shows the local clock at one moment, if at all, and the first stretch that does so has the first timestamp.
use Rattle.std.proofs.Common.{◌≡◌, arith, rules, pos, to_z, w32, w64, FitsSigned}
use Rattle.std.proofs.lemmas.Int.{ints, to_z-of_z}
use Rattle.qz_civil.proofs.EarliestLemmas.{found_in, later_than, none_before_next, none_early, none_left}
use Rattle.qz_civil.proofs.zones.Zone.earliest_at.Goals as goal

pub loop-next_start-init : goal.loop-next_start-init
loop-next_start-init c = (λ known. rw c.saturating_sub-from.ensures (none_early c.args.self.now c.args.local known), omega arith)

pub returns-then-is_within : goal.returns-then-is_within
returns-then-is_within c =
    let f : FitsSigned w64 c.unshifted-ms.result = search rules in
    let g : FitsSigned w32 c.offset_until-offset.result.0 = search rules in
    let from : to_z w64 c.loop-next_start.from ≡ pos c.loop-next_start.from = omega (arith, ints) in
    let cast = to_z-of_z w64 c.unshifted-ms.result f in
    let offset = to_z-of_z w32 c.offset_until-offset.result.0 g in
    let clock = rw (offset, c.offset_until-offset.ensures.offset, from) at c.unshifted-ms.ensures in
    let stays = rw from at c.offset_until-offset.ensures.stays in
    let none = c.loop-next_start.invariant.0 c.offset_until-offset.ensures.valid in
    let inside = rw cast at (c.is_within.ensures.0 c.if-is_within.true) in
    let known = rw cast at c.known.ensures.some in
    let unknown = rw cast at c.known.ensures.none in
    found_in c.args.self.now c.args.local c.loop-next_start.from c.unshifted-ms.result _ c.offset_until-offset.result.1 c.known.result c.offset_until-offset.ensures.valid none stays clock inside.0 inside.1 known unknown

pub next_from-requires-clause-low : goal.next_from-requires-clause-low
next_from-requires-clause-low c = λ x e.
    let later = later_than _ _ x c.offset_until-offset.ensures.later e in
    omega (arith, ints)

pub returns-in_err-from : goal.returns-in_err-from
returns-in_err-from c =
    let f : FitsSigned w64 c.unshifted-ms.result = search rules in
    let g : FitsSigned w32 c.offset_until-offset.result.0 = search rules in
    let from : to_z w64 c.loop-next_start.from ≡ pos c.loop-next_start.from = omega (arith, ints) in
    let cast = to_z-of_z w64 c.unshifted-ms.result f in
    let offset = to_z-of_z w32 c.offset_until-offset.result.0 g in
    let clock = rw (offset, c.offset_until-offset.ensures.offset, from) at c.unshifted-ms.ensures in
    let stays = rw from at c.offset_until-offset.ensures.stays in
    let none = c.loop-next_start.invariant.0 c.offset_until-offset.ensures.valid in
    let outside = rw cast at c.if-is_within.ensures.1 in
    rw c.from_residual.ensures (none_left c.args.self.now c.args.local (pos c.loop-next_start.from) c.unshifted-ms.result _ c.offset_until-offset.result.1 c.offset_until-offset.ensures.valid none stays clock (λ within. let inside = outside within in cc) (c.next_from.ensures.none c.in_err-from.was))

pub loop-next_start-preserved : goal.loop-next_start-preserved
loop-next_start-preserved c =
    let f : FitsSigned w64 c.unshifted-ms.result = search rules in
    let g : FitsSigned w32 c.offset_until-offset.result.0 = search rules in
    let from : to_z w64 c.loop-next_start.from ≡ pos c.loop-next_start.from = omega (arith, ints) in
    let cast = to_z-of_z w64 c.unshifted-ms.result f in
    let offset = to_z-of_z w32 c.offset_until-offset.result.0 g in
    let clock = rw (offset, c.offset_until-offset.ensures.offset, from) at c.unshifted-ms.ensures in
    let stays = rw from at c.offset_until-offset.ensures.stays in
    let none = c.loop-next_start.invariant.0 c.offset_until-offset.ensures.valid in
    let outside = rw (cast, c.in_ok-from.ensures.some) at c.if-is_within.ensures.1 in
    (λ known. none_before_next c.args.self.now c.args.local (pos c.loop-next_start.from) c.unshifted-ms.result _ (pos c.in_ok-from.from) known none (rw c.in_ok-from.ensures.some at stays) clock (λ within. let inside = outside within in cc), c.in_ok-from.ensures.bound)
