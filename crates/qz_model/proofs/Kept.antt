-- The tables are valid after every transaction.
use Rattle.std.proofs.Common.{◌≡◌, inl, inr, ◌==◌, ℕ, ℤ, true, false, None, IsTrue, refl, arith, if◌then◌else◌}
use Rattle.std.proofs.lemmas.Bool.{and_parts}
use Rattle.qz_civil.specs.declared.limits.TheConstants.{LAST, VERSION_ONE_LAST}
use Rattle.qz_types.specs.Entries.{EntryData, is_command, is_of_node, has_actor, is_entry}
use Rattle.qz_types.specs.declared.commands.Command.{Command}
use Rattle.qz_types.specs.declared.commands.Command.TheVariants.{AddJob, DeleteJob, AddTrigger, DeleteTrigger, PauseTrigger, ResumeTrigger, PauseGroup, ResumeGroup, AddCalendar, DeleteCalendar, AddZone, DeleteZone, TriggerNow, Threshold, Join, Leave, Acquire, Release, Fire, Complete, Misfires, Recover, Upgrade, ResetTrigger, PauseJobGroup, ResumeJobGroup}
use Rattle.qz_types.specs.declared.commands.Actor.{Actor}
use Rattle.qz_types.specs.declared.commands.Actor.TheVariants.{Client, Node}
use Rattle.qz_types.specs.declared.replies.Reply.{Reply}
use Rattle.qz_types.specs.Tables.{SchedulerTables, IsMoment, horizon_of, empty, new_tables, recorded_moment}
use Rattle.qz_types.specs.declared.replies.Refusal.{Refusal}
use Rattle.qz_types.specs.declared.replies.Refusal.TheVariants.{Fenced}
use Rattle.qz_types.specs.Outcomes.{accepted, refused}
use Rattle.qz_model.specs.Transaction.{by_command, transaction}
use Rattle.qz_model.specs.Executions.{is_busy}
use Rattle.qz_model.specs.Invariant.{IsHorizon, TablesValid}
use Rattle.qz_model.proofs.Changes.{moment_within}
use Rattle.qz_model.proofs.KeptAcquiring.{kept-acquire}
use Rattle.qz_model.proofs.KeptCalendars.{kept-add_calendar, kept-delete_calendar}
use Rattle.qz_model.proofs.KeptCompletion.{kept-complete}
use Rattle.qz_model.proofs.KeptFiring.{kept-fire}
use Rattle.qz_model.proofs.KeptJobs.{kept-add_job, kept-delete_job}
use Rattle.qz_model.proofs.KeptLeaving.{kept-leave}
use Rattle.qz_model.proofs.KeptMembership.{kept-join}
use Rattle.qz_model.proofs.KeptMisfires.{kept-misfires}
use Rattle.qz_model.proofs.KeptPausing.{kept-pause_trigger, kept-resume_trigger, kept-pause_group, kept-resume_group, kept-pause_job_group, kept-resume_job_group}
use Rattle.qz_model.proofs.KeptRecovery.{kept-recover}
use Rattle.qz_model.proofs.KeptReleasing.{kept-release}
use Rattle.qz_model.proofs.KeptResetting.{kept-reset_trigger}
use Rattle.qz_model.proofs.KeptTriggers.{kept-add_trigger, kept-delete_trigger, kept-trigger_now, kept-set_threshold}
use Rattle.qz_model.proofs.KeptUpgrading.{kept-upgrade}
use Rattle.qz_model.proofs.KeptZones.{kept-add_zone, kept-delete_zone}
use Rattle.qz_model.proofs.NextTimes.{horizon_moment}

-- what is refused leaves no other tables
refused-keeps : (T' : SchedulerTables) (r : Reply) (x : Refusal) → refused x ≡ accepted T' r → TablesValid T'
refused-keeps T' r x e = absurd (cc)

kept-by_command : (T T' : SchedulerTables) (m : ℤ) (actor : Actor) (c : Command) (r : Reply) → IsTrue (is_command c) → TablesValid T → IsMoment T.horizon m → by_command T m actor c ≡ accepted T' r → TablesValid T'
kept-by_command T T' m actor (AddJob job replace) r good valid is e = kept-add_job T T' m job replace r valid is e
kept-by_command T T' m actor (DeleteJob key) r good valid is e = kept-delete_job T T' m key r valid is e
kept-by_command T T' m actor (AddTrigger spec replace) r good valid is e = kept-add_trigger T T' m spec replace r valid is e
kept-by_command T T' m actor (DeleteTrigger key) r good valid is e = kept-delete_trigger T T' m key r valid is e
kept-by_command T T' m actor (PauseTrigger key) r good valid is e = kept-pause_trigger T T' m key r valid is e
kept-by_command T T' m actor (ResumeTrigger key) r good valid is e = kept-resume_trigger T T' m key r valid is e
kept-by_command T T' m actor (PauseGroup group) r good valid is e = kept-pause_group T T' m group r good valid is e
kept-by_command T T' m actor (ResumeGroup group) r good valid is e = kept-resume_group T T' m group r valid is e
kept-by_command T T' m actor (AddCalendar calendar replace) r good valid is e = kept-add_calendar T T' m calendar replace r valid is e
kept-by_command T T' m actor (DeleteCalendar name) r good valid is e = kept-delete_calendar T T' m name r valid is e
kept-by_command T T' m actor (AddZone zone) r good valid is e = kept-add_zone T T' m zone r valid is e
kept-by_command T T' m actor (DeleteZone name) r good valid is e = kept-delete_zone T T' m name r valid is e
kept-by_command T T' m actor (TriggerNow job) r good valid is e = kept-trigger_now T T' m job r valid is e
kept-by_command T T' m actor (Threshold ms) r good valid is e = kept-set_threshold T T' m ms r good valid is e
kept-by_command T T' m actor (Join node) r good valid is e = kept-join T T' m node r valid is e
kept-by_command T T' m Client Leave r good valid is e = refused-keeps T' r (Fenced None) e
kept-by_command T T' m (Node me) Leave r good valid is e = kept-leave T T' m me r valid is e
kept-by_command T T' m Client (Acquire no_later window max) r good valid is e = refused-keeps T' r (Fenced None) e
kept-by_command T T' m (Node me) (Acquire no_later window max) r good valid is e = kept-acquire T T' m me no_later window max r valid is e
kept-by_command T T' m Client (Release entry) r good valid is e = refused-keeps T' r (Fenced None) e
kept-by_command T T' m (Node me) (Release entry) r good valid is e = kept-release T T' m me entry r valid is e
kept-by_command T T' m Client (Fire entry) r good valid is e = refused-keeps T' r (Fenced None) e
kept-by_command T T' m (Node me) (Fire entry) r good valid is e = kept-fire T T' m me entry r valid is e
kept-by_command T T' m Client (Complete entry code) r good valid is e = refused-keeps T' r (Fenced None) e
kept-by_command T T' m (Node me) (Complete entry code) r good valid is e = kept-complete T T' m me entry code r valid is e
kept-by_command T T' m Client Misfires r good valid is e = refused-keeps T' r (Fenced None) e
kept-by_command T T' m (Node me) Misfires r good valid is e = kept-misfires T T' m me r valid is e
kept-by_command T T' m Client (Recover node) r good valid is e = refused-keeps T' r (Fenced None) e
kept-by_command T T' m (Node me) (Recover node) r good valid is e = kept-recover T T' m me node r valid is e
kept-by_command T T' m actor Upgrade r good valid is e = kept-upgrade T T' m r valid is e
kept-by_command T T' m actor (ResetTrigger key) r good valid is e = kept-reset_trigger T T' m key r valid is e
kept-by_command T T' m actor (PauseJobGroup group) r good valid is e = kept-pause_job_group T T' m group r good valid is e
kept-by_command T T' m actor (ResumeJobGroup group) r good valid is e = kept-resume_job_group T T' m group r valid is e

command_of : (e : EntryData) → IsTrue (is_entry e) → IsTrue (is_command e.command)
unfolding is_entry
command_of e is = (and_parts (is_command e.command) (has_actor (is_of_node e.command) e.actor) is).0

-- An accepted transaction of a valid entry keeps the tables valid.
pub kept : (T T' : SchedulerTables) (e : EntryData) (r : Reply) → IsTrue (is_entry e) → TablesValid T → transaction T e ≡ accepted T' r → TablesValid T'
kept T T' e r good valid way = kept-by_command T T' (recorded_moment T e.at) e.actor e.command r (command_of e good) valid (moment_within T e.at valid.next_times.moment) way

horizon_is : (version : ℕ) → IsHorizon (horizon_of version)
horizon_is version = elim (version == 1) as (λ b. IsHorizon (if b then VERSION_ONE_LAST else LAST)) [ true ↦ inl refl | false ↦ inr refl ]

-- The tables of a new store are valid.
pub valid-empty : (version : ℕ) → TablesValid (empty version)
unfolding is_busy
valid-empty version = record {
  references_and_limits = record {
    ordered = record { jobs = tt; triggers = tt; calendars = tt; zones = tt; paused_groups = tt; paused_job_groups = tt; members = tt; fired = tt };
    stored = record { trigger_jobs = tt; trigger_calendars = tt; trigger_zones = tt; bases = tt; calendar_zones = tt; chains = tt };
    limits = record {
      jobs = omega arith;
      triggers = omega arith;
      calendars = omega arith;
      zones = omega arith;
      paused_groups = omega arith;
      paused_job_groups = omega arith;
      members = omega arith;
      fired = omega arith;
      next_entry = omega arith;
      next_epoch = omega arith;
      threshold = refl;
      horizon = horizon_is version;
      group_names = tt;
      job_group_names = tt;
    };
  };
  acquired_match = record { one_row = tt; a_trigger = tt };
  concurrency_agrees = record { with_rows = tt; with_jobs = tt };
  one_exclusive = record { one = λ key. omega arith; blocked = tt };
  blocked_are_busy = record { busy = tt };
  rows_of_members = record { given = tt; distinct = tt; rows = tt };
  next_times = record { next = tt; within = tt; moment = record { low = omega arith; high = (horizon_moment (horizon_of version) (horizon_is version)).low } };
  fresh = record { fired = tt; added = tt };
  row_times = record { rows = tt };
}

pub valid-new_tables : TablesValid new_tables
unfolding new_tables
valid-new_tables = valid-empty 2
