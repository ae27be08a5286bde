use Rattle.std.proofs.Common.{refl}
use Rattle.std.proofs.Math.Logic.{∥∥₁_map}
use Rattle.qz_cluster.proofs.Told.{still_told}
use Rattle.qz_top.proofs.MomentLaws.{Shows-none, Shows-rest}
use Rattle.qz_top.proofs.checkpoints.rest_run.Goals as goal

-- disks that told what they hold still do
pub invariant_of-run : goal.invariant_of-run
invariant_of-run g c = record { told = λ was. ∥∥₁_map (c.args.run.now.told was) (still_told _ _ c.checkpoint.ensures.any_moment) }

pub returns-then-run-clause-shows : goal.returns-then-run-clause-shows
returns-then-run-clause-shows g c = Shows-none _ _

pub returns-then-behind-lt-CHECKPOINT_AFTER-clause-shows : goal.returns-then-behind-lt-CHECKPOINT_AFTER-clause-shows
returns-then-behind-lt-CHECKPOINT_AFTER-clause-shows g c = Shows-none _ _

pub returns-in-Ok-Done-clause-shows : goal.returns-in-Ok-Done-clause-shows
returns-in-Ok-Done-clause-shows g c = Shows-rest _ _ refl refl refl c.in-Ok-Done.ensures.any_moment

pub returns-in-Ok-NoRoom-clause-shows : goal.returns-in-Ok-NoRoom-clause-shows
returns-in-Ok-NoRoom-clause-shows g c = Shows-rest _ _ refl refl refl c.in-Ok-NoRoom.ensures.any_moment

pub returns-in-Ok-Closed-clause-shows : goal.returns-in-Ok-Closed-clause-shows
returns-in-Ok-Closed-clause-shows g c = Shows-rest _ _ refl refl refl c.in-Ok-Closed.ensures.any_moment

pub returns-in-Ok-Fault-clause-shows : goal.returns-in-Ok-Fault-clause-shows
returns-in-Ok-Fault-clause-shows g c = Shows-rest _ _ refl refl refl c.in-Ok-Fault.ensures.any_moment

pub returns-in-Err-clause-shows : goal.returns-in-Err-clause-shows
returns-in-Err-clause-shows g c = Shows-rest _ _ refl refl refl c.in-Err.ensures.any_moment
