use Rattle.std.proofs.Common.{refl}
use Rattle.qz_model.specs.Acquiring.{acquire_refusal, is_sibling, chosen, next_time, acquired_row, with_acquired}
use Rattle.qz_model.specs.Due.{is_misfired, is_due, due_triggers}
use Rattle.qz_model.specs.Executions.{is_exclusive_of, is_busy}
use Rattle.qz_model.specs.Membership.{live_epoch, node_refusal}
use Rattle.qz_model.specs.Pausing.{pause_group_refusal, pause_job_group_refusal}
use Rattle.qz_model.specs.Tests.{is_of, stored_job}
use Rattle.qz_model.specs.Triggers.{is_reserved, is_in_paused, new_state, new_trigger, manual_trigger, trigger_now_refusal}
use Rattle.qz_types.specs.Changes.{with_states, without_acquired}
use Rattle.qz_types.specs.States.{is_acquired_for}
use Rattle.qz_types.specs.Words.{same_text, same_key, job_of, trigger_of, put_trigger, with_trigger, without_trigger, group_of, put_group, without_group, member_of, fired_of, put_fired}
use Rattle.qz_laws.proofs.commands.job_groups_hold_new_triggers.Goals as goal

pub returns-clause-legal : goal.returns-clause-legal
unfolding is_misfired is_due due_triggers acquire_refusal is_sibling chosen next_time acquired_row with_acquired is_reserved is_in_paused new_state new_trigger manual_trigger trigger_now_refusal pause_job_group_refusal pause_group_refusal is_busy is_exclusive_of live_epoch node_refusal is_of stored_job is_acquired_for with_states without_acquired same_text same_key job_of trigger_of put_trigger with_trigger without_trigger group_of put_group without_group member_of fired_of put_fired
returns-clause-legal c = (tt, (tt, (tt, (tt, (tt, (tt, (tt, (tt, (tt, (tt, tt))))))))))

pub returns-clause-takings : goal.returns-clause-takings
unfolding is_misfired is_due due_triggers acquire_refusal is_sibling chosen next_time acquired_row with_acquired is_reserved is_in_paused new_state new_trigger manual_trigger trigger_now_refusal pause_job_group_refusal pause_group_refusal is_busy is_exclusive_of live_epoch node_refusal is_of stored_job is_acquired_for with_states without_acquired same_text same_key job_of trigger_of put_trigger with_trigger without_trigger group_of put_group without_group member_of fired_of put_fired
returns-clause-takings c = refl
