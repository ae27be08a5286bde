use Rattle.std.proofs.Common.{◌≡◌, Some, None, ap, arith}
use Rattle.std.proofs.lemmas.Grind.{common_steps}
use Rattle.qz_types.specs.Rows.{TriggerData}
use Rattle.qz_types.specs.Words.{trigger_of}
use Rattle.qz_schedule.proofs.Steps.{trigger_is_new, trigger_is_replaced}
use Rattle.qz_schedule.proofs.triggers.set_trigger.Goals as goal

pub returns-in-Some : goal.returns-in-Some
returns-in-Some c =
    let found : trigger_of c.trigger.inside.spec.key c.args.tables.now.tables.triggers ≡ Some c.in-Some.old = grind (arith, common_steps) in
    trigger_is_replaced c.args.tables.now.tables c.remove_trigger-old.new.self.tables c.remove_acquired.new.self.tables c.insert_trigger.new.self.tables c.remove_orphan.new.tables.tables
    c.trigger.inside.spec.key c.old.inside.spec.job c.args.trigger c.in-Some.old (cc (ap (λ (t : TriggerData). t.spec.key) c.trigger.view_is)) (cc (ap (λ (t : TriggerData). t.spec.job) c.old.view_is)) found
    c.remove_trigger-old.ensures.tables c.remove_acquired.ensures.tables c.insert_trigger.ensures.tables c.remove_orphan.ensures.tables

pub returns-in_default : goal.returns-in_default
returns-in_default c =
    let none : trigger_of c.trigger.inside.spec.key c.args.tables.now.tables.triggers ≡ None = grind (arith, common_steps) in
    trigger_is_new c.args.tables.now.tables c.remove_trigger-old.new.self.tables c.remove_acquired.new.self.tables c.insert_trigger.new.self.tables
    c.trigger.inside.spec.key c.args.trigger (cc (ap (λ (t : TriggerData). t.spec.key) c.trigger.view_is)) none
    c.remove_trigger-old.ensures.tables c.remove_acquired.ensures.tables c.insert_trigger.ensures.tables
