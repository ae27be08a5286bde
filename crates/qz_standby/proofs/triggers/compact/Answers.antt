use Rattle.std.proofs.Common.{◌∙◌, ap}
use Rattle.qz_follow.specs.View.{view}
use Rattle.qz_model.specs.History.{replay}
use Rattle.qz_standby.proofs.Leaving.{looks_not}
use Rattle.qz_standby.proofs.MadeLaws.{uncompacted_header}
use Rattle.qz_standby.proofs.TriggersMade.{compacted, not_compacted}
use Rattle.qz_standby.proofs.triggers.compact.Goals as goal

pub returns-in-Ok-clause-tables : goal.returns-in-Ok-clause-tables
returns-in-Ok-clause-tables g c = ap replay c.in-Ok.ensures.history ∙ c.into_tables-version.ensures.tables

pub returns-in-Ok-clause-makes : goal.returns-in-Ok-clause-makes
returns-in-Ok-clause-makes g c honest none =
    let made = rw (c.into_tables-version.ensures.tables, c.into_tables-version.ensures.version.0) at (c.in-Ok.ensures.made honest).0 in
    compacted (view c.args.follower) _ _ made

pub returns-in-Err-clause-makes : goal.returns-in-Err-clause-makes
returns-in-Err-clause-makes g c honest none =
    let made = rw (c.into_tables-version.ensures.tables, c.into_tables-version.ensures.version.0) at (c.in-Err.ensures.made honest) in
    let lacks = rw c.into_tables-version.ensures.tables at c.in-Err.ensures.no_room in
    rw c.uncompacted.ensures.value (not_compacted (view c.args.follower) _ _ none c.in-Err.error lacks made)

pub returns-in-Err-clause-header : goal.returns-in-Err-clause-header
returns-in-Err-clause-header g c = rw c.uncompacted.ensures.value (uncompacted_header c.in-Err.error (view c.args.follower))

pub returns-in-Some-clause-makes : goal.returns-in-Some-clause-makes
returns-in-Some-clause-makes g c honest none = looks_not (g.D.Disk.state c.args.disk) (g.met.D.Disk.lawful honest c.args.disk)
