use Rattle.qz_trigger_store.proofs.Images.{rests}
use Rattle.qz_top.proofs.NodeRestLaws.{rests_none}
use Rattle.qz_top.proofs.checkpoints.rest_nodes.Goals as goal

-- the run ended early, and no checkpoint is made
pub returns-in_default-clause-rests : goal.returns-in_default-clause-rests
returns-in_default-clause-rests g c = rests_none _ _

pub returns-in_default-clause-few : goal.returns-in_default-clause-few
returns-in_default-clause-few g c is = absurd (c.in_default.not-Ok is)

pub returns-in_default-clause-any_moment : goal.returns-in_default-clause-any_moment
returns-in_default-clause-any_moment g c honest = rests c.args.triggers.now (g.met.D.Disk.lawful honest _) honest
