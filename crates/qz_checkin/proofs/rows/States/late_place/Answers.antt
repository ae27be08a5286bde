use Rattle.std.proofs.Common.{◌≡◌, ◌∙◌, List, ap, w64, to_z, of_z, arith}
use Rattle.std.proofs.lemmas.Grind.{common_steps}
use Rattle.std.proofs.lemmas.Int.{to_z-of_z}
use Rattle.std.specs.List.{position_from}
use Rattle.qz_types.specs.Rows.{StateData}
use Rattle.qz_checkin.specs.Rows.{state_moment}
use Rattle.qz_checkin.specs.InMemory.{tables_in}
use Rattle.qz_checkin.specs.Lateness.{is_late}
use Rattle.qz_checkin.proofs.Looking.{late_place_is}
use Rattle.qz_checkin.proofs.rows.States.late_place.Goals as goal

pub returns : goal.returns
returns c =
    let own : to_z w64 (of_z w64 c.last_of.result) ≡ c.last_of.result = grind (arith, common_steps, to_z-of_z) in
    let now : to_z w64 (of_z w64 c.moment.result) ≡ c.moment.result = grind (arith, common_steps, to_z-of_z) in
    let at : to_z w64 (of_z w64 c.args.at) ≡ c.args.at = grind (arith, common_steps, to_z-of_z) in
    late_place_is (tables_in c.args.self.now) c.args.at _ _ c.args.own.now _ (own ∙ c.last_of.ensures.value) (now ∙ c.moment.ensures.value ∙ ap (state_moment (tables_in c.args.self.now)) at)
    (c.place_of_late.ensures ∙ ap (λ (xs : List StateData). position_from (λ row. is_late row (to_z w64 (of_z w64 c.last_of.result)) (to_z w64 (of_z w64 c.moment.result))) 0 xs) c.deref.ensures.value)
