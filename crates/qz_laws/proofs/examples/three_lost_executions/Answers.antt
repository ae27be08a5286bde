use Rattle.std.proofs.Common.{inr, refl, arith}
use Rattle.std.proofs.lemmas.Fmt.{decimal_digit}
use Rattle.qz_model.specs.Jobs.{is_orphan}
use Rattle.qz_model.specs.Executions.{is_busy, is_exclusive_of}
use Rattle.qz_model.specs.Recovery.{join_refusal, epoch_refusal, with_new_member, recovery_refusal, lost_of, rows_of_others, freed_by, unblocked_by, asks, recovery_trigger, recoveries, triggers_added, triggers_left, jobs_left, recovered}
use Rattle.qz_model.specs.Membership.{node_refusal, live_epoch}
use Rattle.qz_model.specs.Tests.{is_of}
use Rattle.qz_model.specs.Completing.{is_finished}
use Rattle.qz_types.specs.States.{is_acquired_for}
use Rattle.qz_types.specs.Entries.{is_entry}
use Rattle.qz_types.specs.Words.{same_text, same_key, job_of, trigger_of, put_trigger, group_of, member_of, put_member, without_member, fired_of}
use Rattle.qz_laws.specs.Before.{recovery_trigger_before, recoveries_before, triggers_added_before, triggers_left_before, jobs_left_before, recovered_before, recovery_refusal_before, join_refusal_before}
use Rattle.qz_laws.specs.Losses.{is_held_by, is_recovery}
use Rattle.qz_laws.proofs.examples.three_lost_executions.Goals as goal

pub returns-clause-tables : goal.returns-clause-tables
unfolding is_orphan is_busy is_exclusive_of join_refusal epoch_refusal with_new_member recovery_refusal lost_of rows_of_others freed_by unblocked_by asks recovery_trigger recoveries triggers_added triggers_left jobs_left recovered node_refusal live_epoch is_of is_finished is_acquired_for is_entry same_text same_key job_of trigger_of put_trigger group_of member_of put_member without_member fired_of is_held_by is_recovery
returns-clause-tables c = record {
  references_and_limits = record {
    ordered = record {
      jobs = ((refl, tt), (tt, tt));
      triggers = tt;
      calendars = tt;
      zones = tt;
      paused_groups = tt;
      paused_job_groups = tt;
      members = ((refl, tt), (tt, tt));
      fired = ((refl, (refl, tt)), ((refl, tt), (tt, tt)));
    };
    stored = record { trigger_jobs = tt; trigger_calendars = tt; trigger_zones = tt; bases = tt; calendar_zones = tt; chains = tt };
    limits = record {
      jobs = omega arith;
      triggers = omega arith;
      calendars = omega arith;
      zones = omega arith;
      paused_groups = omega arith;
      paused_job_groups = omega arith;
      members = omega arith;
      fired = omega arith;
      next_entry = omega arith;
      next_epoch = omega arith;
      threshold = refl;
      horizon = inr refl;
      group_names = tt;
      job_group_names = tt;
    };
  };
  acquired_match = record { one_row = tt; a_trigger = (λ wrong. absurd (cc), (λ wrong. absurd (cc), (λ wrong. absurd (cc), tt))) };
  concurrency_agrees = record {
    with_rows = (λ e. (λ x y. refl, (λ x y. refl, (λ x y. refl, tt))), (λ e. (λ x y. refl, (λ x y. refl, (λ x y. refl, tt))), (λ e. (λ x y. refl, (λ x y. refl, (λ x y. refl, tt))), tt)));
    with_jobs = ((λ x y. refl, (λ x y. refl, (λ x y. refl, tt))), ((λ x y. refl, (λ x y. refl, (λ x y. refl, tt))), tt));
  };
  one_exclusive = record { one = λ key. omega arith; blocked = tt };
  blocked_are_busy = record { busy = tt };
  rows_of_members = record { given = (omega arith, (omega arith, tt)); distinct = ((λ e. refl, (λ e. absurd (omega arith), tt)), ((λ e. absurd (omega arith), (λ e. refl, tt)), tt)); rows = (refl, (refl, (refl, tt))) };
  next_times = record { next = tt; within = tt; moment = record { low = omega arith; high = omega arith } };
  fresh = record { fired = (omega arith, (omega arith, (omega arith, tt))); added = tt };
  row_times = record { rows = ((record { low = omega arith; high = omega arith }, omega arith), ((record { low = omega arith; high = omega arith }, omega arith), ((record { low = omega arith; high = omega arith }, omega arith), tt))) };
}

pub returns-clause-valid : goal.returns-clause-valid
unfolding is_orphan is_busy is_exclusive_of join_refusal epoch_refusal with_new_member recovery_refusal lost_of rows_of_others freed_by unblocked_by asks recovery_trigger recoveries triggers_added triggers_left jobs_left recovered node_refusal live_epoch is_of is_finished is_acquired_for is_entry same_text same_key job_of trigger_of put_trigger group_of member_of put_member without_member fired_of is_held_by is_recovery
returns-clause-valid c = (refl, (refl, tt))

pub returns-clause-legal : goal.returns-clause-legal
unfolding is_orphan is_busy is_exclusive_of join_refusal epoch_refusal with_new_member recovery_refusal lost_of rows_of_others freed_by unblocked_by asks recovery_trigger recoveries triggers_added triggers_left jobs_left recovered node_refusal live_epoch is_of is_finished is_acquired_for is_entry same_text same_key job_of trigger_of put_trigger group_of member_of put_member without_member fired_of is_held_by is_recovery
returns-clause-legal c = (tt, (tt, tt))

pub returns-clause-was_legal : goal.returns-clause-was_legal
unfolding is_orphan is_busy is_exclusive_of join_refusal_before epoch_refusal with_new_member recovery_refusal_before lost_of rows_of_others freed_by unblocked_by asks recovery_trigger_before recoveries_before triggers_added_before triggers_left_before jobs_left_before recovered_before node_refusal live_epoch is_of is_finished is_acquired_for is_entry same_text same_key job_of trigger_of put_trigger group_of member_of put_member without_member fired_of is_held_by is_recovery
returns-clause-was_legal c = (refl, tt, (refl, tt, tt))

pub returns-clause-lost : goal.returns-clause-lost
unfolding is_orphan is_busy is_exclusive_of join_refusal epoch_refusal with_new_member recovery_refusal lost_of rows_of_others freed_by unblocked_by asks recovery_trigger recoveries triggers_added triggers_left jobs_left recovered node_refusal live_epoch is_of is_finished is_acquired_for is_entry same_text same_key job_of trigger_of put_trigger group_of member_of put_member without_member fired_of is_held_by is_recovery
returns-clause-lost c = refl

pub returns-clause-asked : goal.returns-clause-asked
unfolding is_orphan is_busy is_exclusive_of join_refusal epoch_refusal with_new_member recovery_refusal lost_of rows_of_others freed_by unblocked_by asks recovery_trigger recoveries triggers_added triggers_left jobs_left recovered node_refusal live_epoch is_of is_finished is_acquired_for is_entry same_text same_key job_of trigger_of put_trigger group_of member_of put_member without_member fired_of is_held_by is_recovery
returns-clause-asked c = rw (decimal_digit 3 (omega arith), decimal_digit 4 (omega arith), decimal_digit 5 (omega arith)) refl
