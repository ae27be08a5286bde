use Rattle.std.proofs.Common.{sym, subst}
use Rattle.std.specs.Prelude.{None, Some, MatchResult}
use Rattle.qz_follow.specs.View.{view}
use Rattle.qz_trigger_store.specs.View.{disk_state}
use Rattle.qz_standby.specs.Parts.{MakesTriggers}
use Rattle.qz_standby.specs.declared.forms.Form.{Form}
use Rattle.qz_standby.proofs.triggers.make_triggers.Goals as goal

pub returns-in-Entries-clause-makes : goal.returns-in-Entries-clause-makes
returns-in-Entries-clause-makes g c honest none =
    let old = g.D.Disk.state c.args.disk in
    subst (λ (x : Form). MatchResult c.promote.result (λ store. MakesTriggers x None (view c.args.follower) old (disk_state store)) (λ e. MakesTriggers x (Some e.0) (view c.args.follower) old (g.D.Disk.state e.1)))
    (sym c.in-Entries.is) (c.promote.ensures.makes honest none)

pub returns-in-Snapshot-clause-makes : goal.returns-in-Snapshot-clause-makes
returns-in-Snapshot-clause-makes g c honest none =
    let old = g.D.Disk.state c.args.disk in
    subst (λ (x : Form). MatchResult c.compact.result (λ store. MakesTriggers x None (view c.args.follower) old (disk_state store)) (λ e. MakesTriggers x (Some e.0) (view c.args.follower) old (g.D.Disk.state e.1)))
    (sym c.in-Snapshot.is) (c.compact.ensures.makes honest none)
