use Rattle.std.proofs.Common.{◌≡◌, ℤ, Some, w64, to_z, of_z, ap, subst, arith}
use Rattle.std.proofs.lemmas.Int.{to_z-of_z}
use Rattle.std.proofs.lemmas.Grind.{common_steps}
use Rattle.qz_tables.specs.Contents.{TablesData}
use Rattle.qz_schedule.proofs.Steps.{trigger_added}
use Rattle.qz_schedule.proofs.triggers.add_trigger.Goals as goal

pub returns : goal.returns
returns c replace clear =
    let time : c.args.row.next ≡ Some (to_z w64 (of_z w64 c.in-Some.next)) = grind (arith, common_steps, to_z-of_z) in
    let read : to_z w64 (of_z w64 c.args.moment) ≡ c.args.moment = grind (arith, common_steps, to_z-of_z) in
    let moment : c.set_last_moment.new.self.tables ≡ record c.set_trigger.new.tables.tables { last_moment = c.args.moment } =
    subst (λ (m : ℤ). c.set_last_moment.new.self.tables ≡ record c.set_trigger.new.tables.tables { last_moment = m }) read (ap (λ (d : TablesData). d.tables) c.set_last_moment.ensures) in
    trigger_added c.args.tables.now.tables c.set_trigger.new.tables.tables c.set_last_moment.new.self.tables c.args.moment replace c.args.row (to_z w64 (of_z w64 c.in-Some.next)) clear c.requires.row time c.set_trigger.ensures moment
