use Rattle.std.proofs.Common.{w64, sym, subst, ◌∙◌}
use Rattle.std.proofs.lemmas.Int.{to_z-of_z}
use Rattle.std.specs.Prelude.{IfOk, IfErr}
use Rattle.qz_types.specs.declared.commands.Actor.TheVariants as actor
use Rattle.qz_trigger_store.specs.Entries.{trigger_entry}
use Rattle.qz_cluster.specs.Script.{entry_of}
use Rattle.qz_cluster.specs.Submitting.{Submitted, Unsubmitted}
use Rattle.qz_cluster.specs.View.{view}
use Rattle.qz_cluster.proofs.Leaving.{left, left_cut}
use Rattle.qz_cluster.proofs.clusters.Cluster.obey.Goals as goal

-- the command is a leave
pub returns-in-Ok-clause-ok : goal.returns-in-Ok-clause-ok
returns-in-Ok-clause-ok g c =
    let s = (view c.args.self.now).triggers in
    let t = (view c.leave.new.self).triggers in
    subst (λ at. IfOk c.leave.result (λ r. Submitted (entry_of (actor.Node c.args.me) c.args.command at) r s t)) (to_z-of_z w64 c.args.at c.ranges.at)
    (left c.args.me c.args.command _ c.leave.result s t (sym c.is_leave.ensures ∙ c.if-not-is_leave.false) c.leave.ensures.ok)

pub returns-in-Ok-clause-err : goal.returns-in-Ok-clause-err
returns-in-Ok-clause-err g c =
    let s = (view c.args.self.now).triggers in
    let t = (view c.leave.new.self).triggers in
    subst (λ at. IfErr c.leave.result (λ e. Unsubmitted trigger_entry (entry_of (actor.Node c.args.me) c.args.command at) e s t)) (to_z-of_z w64 c.args.at c.ranges.at)
    (left_cut c.args.me c.args.command _ c.leave.result s t (sym c.is_leave.ensures ∙ c.if-not-is_leave.false) c.leave.ensures.err)
