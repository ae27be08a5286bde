use Rattle.std.proofs.Common.{◌≡◌, inr, ℤ, pos, List, [], ◌∷◌, ◌++◌, Some, refl, ap, ◌∙◌, arith}
use Rattle.qz_types.specs.Tables.{SchedulerTables}
use Rattle.qz_types.specs.declared.triggers.TriggerState.TheVariants.{Waiting}
use Rattle.qz_model.specs.History.{replay_from, replies_from}
use Rattle.qz_model.proofs.Histories.{replies_from-append}
use Rattle.qz_schedule_law.specs.Example.{example_key, often, example_tables, storing, once, again, firings}
use Rattle.qz_schedule_law.specs.Turns.{fired_times}
use Rattle.qz_schedule_law.proofs.Turns.{fired-append}
use Rattle.qz_civil.specs.Zones.{fixed_offset}
use Rattle.qz_model.specs.Due.{is_misfired, is_due, due_triggers}
use Rattle.qz_model.specs.Plan.{is_utc, is_known_zone, stretches_named, zoned_chain, next_after}
use Rattle.qz_model.specs.Acquiring.{acquire_refusal, is_sibling, chosen, next_time, acquired_row, with_acquired, owner_refusal, acquired_refusal}
use Rattle.qz_model.specs.Firing.{next_of, fire_refusal, following, with_begun}
use Rattle.qz_model.specs.Triggers.{is_reserved, is_in_paused, new_state, new_trigger, naming_refusal, add_trigger_refusal, with_new_trigger, without_trigger_and_orphan}
use Rattle.qz_model.specs.Completing.{is_finished, without_execution, complete_refusal}
use Rattle.qz_model.specs.Executions.{is_exclusive_of, is_busy}
use Rattle.qz_model.specs.Membership.{live_epoch, node_refusal}
use Rattle.qz_model.specs.Tests.{is_of, stored_job}
use Rattle.qz_types.specs.States.{is_acquired_for}
use Rattle.qz_types.specs.Entries.{is_entry}
use Rattle.qz_types.specs.Changes.{with_states, without_acquired}
use Rattle.qz_types.specs.Chains.{chain_of}
use Rattle.qz_types.specs.Words.{same_text, same_key, job_of, trigger_of, put_trigger, with_trigger, without_trigger, group_of, member_of, fired_of, put_fired, with_fired, without_fired}
use Rattle.qz_schedule_law.proofs.Often.{first_turn, second_turn, third_turn}
use Rattle.qz_schedule_law.proofs.examples.two_firings.Goals as goal

pub returns-clause-tables : goal.returns-clause-tables
unfolding is_misfired is_due due_triggers is_utc is_known_zone stretches_named zoned_chain next_after acquire_refusal is_sibling chosen next_time acquired_row with_acquired owner_refusal acquired_refusal next_of fire_refusal following with_begun is_reserved is_in_paused new_state new_trigger naming_refusal add_trigger_refusal with_new_trigger without_trigger_and_orphan is_finished without_execution complete_refusal is_exclusive_of is_busy live_epoch node_refusal is_of stored_job is_acquired_for is_entry with_states without_acquired chain_of same_text same_key job_of trigger_of put_trigger with_trigger without_trigger group_of member_of fired_of put_fired with_fired without_fired
returns-clause-tables c = record {
  references_and_limits = record {
    ordered = record { jobs = (tt, tt); triggers = tt; calendars = tt; zones = tt; paused_groups = tt; paused_job_groups = tt; members = (tt, tt); fired = tt };
    stored = record { trigger_jobs = tt; trigger_calendars = tt; trigger_zones = tt; bases = tt; calendar_zones = tt; chains = tt };
    limits = record {
      jobs = omega arith;
      triggers = omega arith;
      calendars = omega arith;
      zones = omega arith;
      paused_groups = omega arith;
      paused_job_groups = omega arith;
      members = omega arith;
      fired = omega arith;
      next_entry = omega arith;
      next_epoch = omega arith;
      threshold = refl;
      horizon = inr refl;
      group_names = tt;
      job_group_names = tt;
    };
  };
  acquired_match = record { one_row = tt; a_trigger = tt };
  concurrency_agrees = record { with_rows = tt; with_jobs = (tt, tt) };
  one_exclusive = record { one = λ key. omega arith; blocked = tt };
  blocked_are_busy = record { busy = tt };
  rows_of_members = record { given = (omega arith, tt); distinct = ((λ e. refl, tt), tt); rows = tt };
  next_times = record { next = tt; within = tt; moment = record { low = omega arith; high = omega arith } };
  fresh = record { fired = tt; added = tt };
  row_times = record { rows = tt };
}

pub returns-clause-valid : goal.returns-clause-valid
unfolding is_misfired is_due due_triggers is_utc is_known_zone stretches_named zoned_chain next_after acquire_refusal is_sibling chosen next_time acquired_row with_acquired owner_refusal acquired_refusal next_of fire_refusal following with_begun is_reserved is_in_paused new_state new_trigger naming_refusal add_trigger_refusal with_new_trigger without_trigger_and_orphan is_finished without_execution complete_refusal is_exclusive_of is_busy live_epoch node_refusal is_of stored_job is_acquired_for is_entry with_states without_acquired chain_of same_text same_key job_of trigger_of put_trigger with_trigger without_trigger group_of member_of fired_of put_fired with_fired without_fired
returns-clause-valid c = (refl, (refl, (refl, (refl, (refl, (refl, tt))))))

-- the tables in between: the trigger has fired once
abbrev between : SchedulerTables
between = record example_tables {
  triggers = record { spec = often; next = Some (pos 2); prev = Some (pos 0); times = 1; state = Waiting } ∷ [];
  next_entry = 2;
  last_moment = pos 3;
}

first_part : replay_from example_tables (storing ∷ once) ≡ between
unfolding is_misfired is_due due_triggers is_utc is_known_zone stretches_named zoned_chain next_after acquire_refusal is_sibling chosen next_time acquired_row with_acquired owner_refusal acquired_refusal next_of fire_refusal following with_begun is_reserved is_in_paused new_state new_trigger naming_refusal add_trigger_refusal with_new_trigger without_trigger_and_orphan is_finished without_execution complete_refusal is_exclusive_of is_busy live_epoch node_refusal is_of stored_job is_acquired_for is_entry with_states without_acquired chain_of same_text same_key job_of trigger_of put_trigger with_trigger without_trigger group_of member_of fired_of put_fired with_fired without_fired
first_part = rw (first_turn (fixed_offset (pos 0)), second_turn (fixed_offset (pos 0))) refl

first_times : fired_times example_key (replies_from example_tables (storing ∷ once)) ≡ pos 0 ∷ []
unfolding is_misfired is_due due_triggers is_utc is_known_zone stretches_named zoned_chain next_after acquire_refusal is_sibling chosen next_time acquired_row with_acquired owner_refusal acquired_refusal next_of fire_refusal with_begun is_reserved is_in_paused new_state new_trigger naming_refusal add_trigger_refusal with_new_trigger without_trigger_and_orphan is_finished without_execution complete_refusal is_exclusive_of is_busy live_epoch node_refusal is_of stored_job is_acquired_for is_entry with_states without_acquired chain_of same_text same_key job_of trigger_of put_trigger with_trigger without_trigger group_of member_of fired_of put_fired with_fired without_fired
first_times = rw (first_turn (fixed_offset (pos 0))) refl

second_times : fired_times example_key (replies_from between again) ≡ pos 2 ∷ []
unfolding is_misfired is_due due_triggers is_utc is_known_zone stretches_named zoned_chain next_after acquire_refusal is_sibling chosen next_time acquired_row with_acquired owner_refusal acquired_refusal next_of fire_refusal with_begun is_reserved is_in_paused new_state new_trigger naming_refusal add_trigger_refusal with_new_trigger without_trigger_and_orphan is_finished without_execution complete_refusal is_exclusive_of is_busy live_epoch node_refusal is_of stored_job is_acquired_for is_entry with_states without_acquired chain_of same_text same_key job_of trigger_of put_trigger with_trigger without_trigger group_of member_of fired_of put_fired with_fired without_fired
second_times = refl

all_times : fired_times example_key (replies_from example_tables (storing ∷ firings)) ≡ pos 0 ∷ pos 2 ∷ []
all_times =
    ap (fired_times example_key) (replies_from-append example_tables (storing ∷ once) again)
    ∙ fired-append example_key (replies_from example_tables (storing ∷ once)) (replies_from (replay_from example_tables (storing ∷ once)) again)
    ∙ ap (λ (ts : List ℤ). ts ++ fired_times example_key (replies_from (replay_from example_tables (storing ∷ once)) again)) first_times
    ∙ ap (λ (T : SchedulerTables). (pos 0 ∷ []) ++ fired_times example_key (replies_from T again)) first_part
    ∙ ap (λ (ts : List ℤ). (pos 0 ∷ []) ++ ts) second_times

pub returns-clause-times : goal.returns-clause-times
returns-clause-times c = all_times

pub returns-clause-next : goal.returns-clause-next
unfolding is_misfired is_due due_triggers is_utc is_known_zone stretches_named zoned_chain next_after acquire_refusal is_sibling chosen next_time acquired_row with_acquired owner_refusal acquired_refusal next_of fire_refusal following with_begun is_reserved is_in_paused new_state new_trigger naming_refusal add_trigger_refusal with_new_trigger without_trigger_and_orphan is_finished without_execution complete_refusal is_exclusive_of is_busy live_epoch node_refusal is_of stored_job is_acquired_for is_entry with_states without_acquired chain_of same_text same_key job_of trigger_of put_trigger with_trigger without_trigger group_of member_of fired_of put_fired with_fired without_fired
returns-clause-next c = rw (first_turn (fixed_offset (pos 0)), second_turn (fixed_offset (pos 0)), third_turn (fixed_offset (pos 0))) refl

pub returns-clause-legal : goal.returns-clause-legal
unfolding is_misfired is_due due_triggers is_utc is_known_zone stretches_named zoned_chain next_after acquire_refusal is_sibling chosen next_time acquired_row with_acquired owner_refusal acquired_refusal next_of fire_refusal following with_begun is_reserved is_in_paused new_state new_trigger naming_refusal add_trigger_refusal with_new_trigger without_trigger_and_orphan is_finished without_execution complete_refusal is_exclusive_of is_busy live_epoch node_refusal is_of stored_job is_acquired_for is_entry with_states without_acquired chain_of same_text same_key job_of trigger_of put_trigger with_trigger without_trigger group_of member_of fired_of put_fired with_fired without_fired
returns-clause-legal c = rw (first_turn (fixed_offset (pos 0)), second_turn (fixed_offset (pos 0))) (tt, (tt, (tt, (tt, (tt, (tt, tt))))))

pub returns-clause-undisturbed : goal.returns-clause-undisturbed
unfolding is_misfired is_due due_triggers is_utc is_known_zone stretches_named zoned_chain next_after acquire_refusal is_sibling chosen next_time acquired_row with_acquired owner_refusal acquired_refusal next_of fire_refusal following with_begun is_reserved is_in_paused new_state new_trigger naming_refusal add_trigger_refusal with_new_trigger without_trigger_and_orphan is_finished without_execution complete_refusal is_exclusive_of is_busy live_epoch node_refusal is_of stored_job is_acquired_for is_entry with_states without_acquired chain_of same_text same_key job_of trigger_of put_trigger with_trigger without_trigger group_of member_of fired_of put_fired with_fired without_fired
returns-clause-undisturbed c = rw (first_turn (fixed_offset (pos 0)), second_turn (fixed_offset (pos 0))) (record { stored = refl; kept = refl; on_time = refl; calendars = refl; version = refl }, (record { stored = refl; kept = refl; on_time = refl; calendars = refl; version = refl }, (record { stored = refl; kept = refl; on_time = refl; calendars = refl; version = refl }, (record { stored = refl; kept = refl; on_time = refl; calendars = refl; version = refl }, (record { stored = refl; kept = refl; on_time = refl; calendars = refl; version = refl }, tt)))))
