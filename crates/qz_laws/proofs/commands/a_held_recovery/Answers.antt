use Rattle.std.proofs.Common.{refl}
use Rattle.qz_model.specs.Jobs.{is_orphan}
use Rattle.qz_model.specs.Executions.{is_busy, is_exclusive_of}
use Rattle.qz_model.specs.Recovery.{join_refusal, epoch_refusal, with_new_member, recovery_refusal, lost_of, rows_of_others, freed_by, unblocked_by, asks, recovery_trigger, recoveries, triggers_added, triggers_left, jobs_left, recovered}
use Rattle.qz_model.specs.Membership.{node_refusal, live_epoch}
use Rattle.qz_model.specs.Tests.{is_of}
use Rattle.qz_model.specs.Completing.{is_finished}
use Rattle.qz_types.specs.States.{is_acquired_for}
use Rattle.qz_types.specs.Entries.{is_entry}
use Rattle.qz_types.specs.Words.{same_text, same_key, job_of, trigger_of, put_trigger, group_of, member_of, put_member, without_member, fired_of}
use Rattle.qz_laws.specs.Losses.{is_held_by, is_recovery}
use Rattle.qz_laws.proofs.commands.a_held_recovery.Goals as goal

pub returns : goal.returns
unfolding is_orphan is_busy is_exclusive_of join_refusal epoch_refusal with_new_member recovery_refusal lost_of rows_of_others freed_by unblocked_by asks recovery_trigger recoveries triggers_added triggers_left jobs_left recovered node_refusal live_epoch is_of is_finished is_acquired_for is_entry same_text same_key job_of trigger_of put_trigger group_of member_of put_member without_member fired_of is_held_by is_recovery
returns c = refl
