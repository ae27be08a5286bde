-- An Upgrade moves the horizon, so that a trigger that is stored then may fire for more times; one that isn't stored then isn't
-- stored by it.
use Rattle.std.proofs.Common.{◌≡◌, ℤ, map, None, option_map, ap, ◌∙◌}
use Rattle.qz_civil.specs.declared.limits.TheConstants.{LAST}
use Rattle.qz_types.specs.declared.keys.Key.{Key}
use Rattle.qz_types.specs.declared.commands.Command.TheVariants.{Upgrade}
use Rattle.qz_types.specs.declared.replies.Reply.{Reply}
use Rattle.qz_types.specs.declared.replies.Reply.TheVariants.{Done}
use Rattle.qz_types.specs.Tables.{SchedulerTables}
use Rattle.qz_types.specs.Outcomes.{accepted}
use Rattle.qz_types.specs.Words.{trigger_of}
use Rattle.qz_model.specs.Upgrading.{widened_trigger, widened_calendar, upgrade_refusal, upgrade}
use Rattle.qz_model.proofs.Changes.{passes}
use Rattle.qz_model.proofs.RowPoints.{All-from}
use Rattle.qz_model.proofs.Widened.{trigger_of-widened}
use Rattle.qz_schedule_law.proofs.Stays.{HasTurned, TurnFacts, accepted_facts}

none_upgraded : (T : SchedulerTables) (key : Key) → trigger_of key T.triggers ≡ None → trigger_of key (map widened_trigger T.triggers) ≡ None
none_upgraded T key absent = trigger_of-widened key T.triggers ∙ ap (option_map widened_trigger) absent

pub facts-upgrade : (T T' : SchedulerTables) (key : Key) (m : ℤ) (r : Reply) → trigger_of key T.triggers ≡ None → upgrade T m ≡ accepted T' r → TurnFacts T key Upgrade r T'
facts-upgrade T T' key m r absent e =
    accepted_facts T (record T { triggers = map widened_trigger T.triggers; calendars = map widened_calendar T.calendars; horizon = LAST; last_moment = m }) T' key Upgrade Done r (passes (upgrade_refusal T) _ T' r e).outcome
    (record {
      triggers = All-from (HasTurned T key Done) (map widened_trigger T.triggers) (λ u same t found. absurd (cc));
      plan = λ t found alone a. absurd (cc);
      new = λ none u found. let still = none_upgraded T key absent in absurd (cc);
    })
