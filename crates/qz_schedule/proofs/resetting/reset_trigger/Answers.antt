use Rattle.std.proofs.Common.{◌≡◌, ℤ, Some, w64, to_z, of_z, ap, subst, arith}
use Rattle.std.proofs.lemmas.Int.{to_z-of_z}
use Rattle.std.proofs.lemmas.Grind.{common_steps}
use Rattle.qz_types.specs.Words.{trigger_of}
use Rattle.qz_tables.specs.Contents.{TablesData}
use Rattle.qz_schedule.proofs.Resets.{reset_done}
use Rattle.qz_schedule.proofs.resetting.reset_trigger.Goals as goal

pub returns : goal.returns
returns c =
    let read : to_z w64 (of_z w64 c.args.moment) ≡ c.args.moment = grind (arith, common_steps, to_z-of_z) in
    let found : trigger_of c.args.key.now c.args.tables.now.tables.triggers ≡ Some c.in-Some.trigger.now = grind (arith, common_steps) in
    let moment : c.set_last_moment.new.self.tables ≡ record c.set_trigger_state.new.self.tables { last_moment = c.args.moment } =
    subst (λ (m : ℤ). c.set_last_moment.new.self.tables ≡ record c.set_trigger_state.new.self.tables { last_moment = m }) read (ap (λ (d : TablesData). d.tables) c.set_last_moment.ensures) in
    reset_done c.args.tables.now.tables c.set_trigger_state.new.self.tables c.set_last_moment.new.self.tables c.args.moment c.args.key.now c.in-Some.trigger.now c.reset_state-state.result
    c.requires c.get_trigger.ensures.sorted found c.reset_state-state.ensures c.set_trigger_state.ensures.tables moment
