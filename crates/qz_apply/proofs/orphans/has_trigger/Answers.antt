use Rattle.std.proofs.Common.{◌∙◌}
use Rattle.qz_apply.proofs.JobLists.{yields_some, any_filled}
use Rattle.qz_apply.proofs.orphans.has_trigger.Goals as goal

pub returns : goal.returns
returns c =
    c.is_some.ensures ∙ yields_some _ _ c.next.result c.next.ensures.steps
    ∙ any_filled c.args.job.now c.args.tables.now.tables.triggers c.triggers_of-triggers.result c.triggers_of-triggers.ensures.rows
