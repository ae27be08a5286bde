use Rattle.std.proofs.Common.{◌≡◌, Some, ap, arith}
use Rattle.std.proofs.lemmas.Grind.{common_steps}
use Rattle.qz_types.specs.Rows.{TriggerData}
use Rattle.qz_types.specs.Words.{trigger_of}
use Rattle.qz_apply.proofs.Deletions.{deleted_is}
use Rattle.qz_apply.proofs.orphans.remove_trigger_and_orphan.Goals as goal

pub returns-clause-tables : goal.returns-clause-tables
returns-clause-tables c =
    let found : trigger_of c.args.key.now c.args.tables.now.tables.triggers ≡ Some c.in-Some.trigger = grind (arith, common_steps) in
    deleted_is c.args.tables.now.tables c.remove_trigger.new.self.tables c.remove_acquired.new.self.tables c.remove_orphan.new.tables.tables
    c.args.key.now c.trigger.inside.spec.job c.in-Some.trigger found (cc (ap (λ (t : TriggerData). t.spec.job) c.trigger.view_is)) c.in-Some.ensures.tables c.remove_acquired.ensures.tables c.remove_orphan.ensures.tables
