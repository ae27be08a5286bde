-- What nodes do with triggers keeps their next times, but for those that fire and those that are misfired; nor does a node
-- that leaves move any.
use Rattle.std.proofs.Common.{◌≡◌, ◌⊎◌, ⊎_elim, ℕ, ℤ, ◌+ℤ◌, true, false, List, [], ◌∷◌, fold, map, Option, Some, None, refl, sym, subst}
use Rattle.std.specs.List.{AllByRecursion, list_any}
use Rattle.std.proofs.lemmas.Bool.{or_parts, or_from, false_from_ne_true}
use Rattle.qz_types.specs.Rows.{TriggerData, MemberData, FiredData}
use Rattle.qz_types.specs.declared.keys.Key.{Key}
use Rattle.qz_types.specs.declared.commands.Code.{Code}
use Rattle.qz_types.specs.declared.commands.Code.TheVariants.{Noop, ReExecuteJob, SetTriggerComplete, DeleteTrigger, SetAllJobTriggersComplete, SetTriggerError, SetAllJobTriggersError}
use Rattle.qz_types.specs.declared.commands.Command.{Command}
use Rattle.qz_types.specs.declared.triggers.TriggerState.{TriggerState}
use Rattle.qz_types.specs.declared.triggers.TriggerState.TheVariants as state
use Rattle.qz_types.specs.declared.replies.Reply.{Reply}
use Rattle.qz_types.specs.declared.replies.Reply.TheVariants as reply
use Rattle.qz_types.specs.Changes.{in_state, moved_trigger}
use Rattle.qz_types.specs.Tables.{SchedulerTables}
use Rattle.qz_types.specs.Outcomes.{accepted}
use Rattle.qz_types.specs.Words.{same_key, trigger_of, fired_of}
use Rattle.qz_model.specs.Acquiring.{acquire_refusal, with_acquired, chosen, acquire, acquired_refusal, release_row, release}
use Rattle.qz_model.specs.Completing.{finished, with_trigger_ended, with_job_ended, with_code, without_execution, without_finished, completed, complete_refusal, complete_one, complete_row, complete}
use Rattle.qz_model.specs.Invariant.{TablesValid}
use Rattle.qz_model.specs.Membership.{node_refusal}
use Rattle.qz_model.specs.Misfires.{misfired_triggers, move_of, with_moved, moved_row, misfires}
use Rattle.qz_model.specs.Recovery.{leave_refusal, leave}
use Rattle.qz_model.specs.Tests.{or_refusal, is_trigger_of}
use Rattle.qz_model.proofs.Changes.{passes}
use Rattle.qz_model.proofs.DueLaws.{IsStoredWaiting}
use Rattle.qz_model.proofs.KeptMisfires.{each_misfired}
use Rattle.qz_model.proofs.RowLaws.{same_key-exact, trigger_of-alike, All-with_trigger}
use Rattle.qz_schedule_law.specs.Undisturbed.{is_misfired}
use Rattle.qz_schedule_law.proofs.Stays.{IsAsBefore, Stays, TurnFacts, accepted_stays, as_before, same_triggers, before-with_trigger, before-with_states, before-with_unblocked, before-freed_by, stays-without_trigger, stays-moment}

-- Acquire and Release.

stays-with_acquired : (T : SchedulerTables) (key : Key) (U : SchedulerTables) (me : MemberData) (t : TriggerData) → Stays T key U → Stays T key (with_acquired me U t)
unfolding with_acquired
stays-with_acquired T key U me t was = record {
  triggers = before-with_trigger T key t.spec.key (in_state state.Acquired) U.triggers (λ u. refl) (λ u. refl) was.triggers;
  calendars = was.calendars;
  zones = was.zones;
  horizon = was.horizon;
}

stays-acquire_each : (T : SchedulerTables) (key : Key) (U : SchedulerTables) (me : MemberData) (ts : List TriggerData) → Stays T key U → Stays T key (fold (with_acquired me) U ts)
stays-acquire_each T key U me [] was = was
stays-acquire_each T key U me (t ∷ ts) was = stays-acquire_each T key (with_acquired me U t) me ts (stays-with_acquired T key U me t was)

pub facts-acquire : (T T' : SchedulerTables) (key : Key) (c : Command) (m : ℤ) (me : MemberData) (no_later window : ℤ) (max : ℕ) (r : Reply) → TablesValid T → acquire T m me no_later window max ≡ accepted T' r → TurnFacts T key c r T'
facts-acquire T T' key c m me no_later window max r valid e =
    let ts = chosen T m (no_later +ℤ window) max in
    accepted_stays T _ T' key c _ r (passes (or_refusal (node_refusal T me) (acquire_refusal T max)) _ T' r e).outcome refl
    (stays-moment T key (fold (with_acquired me) T ts) m (stays-acquire_each T key T me ts (same_triggers T key T valid refl refl refl refl)))

facts-release_row : (T T' : SchedulerTables) (key : Key) (c : Command) (m : ℤ) (me : MemberData) (o : Option FiredData) (r : Reply) → TablesValid T → release_row T m me o ≡ accepted T' r → TurnFacts T key c r T'
facts-release_row T T' key c m me None r valid e = absurd (cc)
facts-release_row T T' key c m me (Some f) r valid e =
    accepted_stays T _ T' key c _ r (passes (acquired_refusal me f) _ T' r e).outcome refl
    (record { triggers = before-with_trigger T key f.trigger (in_state state.Waiting) T.triggers (λ t. refl) (λ t. refl) (as_before T key valid); calendars = refl; zones = refl; horizon = refl })

pub facts-release : (T T' : SchedulerTables) (key : Key) (c : Command) (m : ℤ) (me : MemberData) (entry : ℕ) (r : Reply) → TablesValid T → release T m me entry ≡ accepted T' r → TurnFacts T key c r T'
facts-release T T' key c m me entry r valid e = facts-release_row T T' key c m me (fired_of entry T.fired) r valid (passes (node_refusal T me) _ T' r e).outcome

-- Complete.

stays-trigger_ended : (T : SchedulerTables) (key k : Key) (s : TriggerState) → TablesValid T → Stays T key (with_trigger_ended T k s)
unfolding with_trigger_ended
stays-trigger_ended T key k s valid = record { triggers = before-with_trigger T key k (in_state s) T.triggers (λ t. refl) (λ t. refl) (as_before T key valid); calendars = refl; zones = refl; horizon = refl }

stays-job_ended : (T : SchedulerTables) (key job : Key) (s : TriggerState) → TablesValid T → Stays T key (with_job_ended T job s)
unfolding with_job_ended
stays-job_ended T key job s valid = record { triggers = before-with_states T key (λ _. s) (is_trigger_of job) T.triggers (as_before T key valid); calendars = refl; zones = refl; horizon = refl }

stays-with_code : (code : Code) (T : SchedulerTables) (key : Key) (f : FiredData) → TablesValid T → Stays T key (with_code code T f)
stays-with_code Noop T key f valid = same_triggers T key T valid refl refl refl refl
stays-with_code ReExecuteJob T key f valid = same_triggers T key T valid refl refl refl refl
stays-with_code SetTriggerComplete T key f valid = stays-trigger_ended T key f.trigger state.Complete valid
stays-with_code DeleteTrigger T key f valid = stays-without_trigger T key T (trigger_of f.trigger T.triggers) (same_triggers T key T valid refl refl refl refl)
stays-with_code SetAllJobTriggersComplete T key f valid = stays-job_ended T key f.job state.Complete valid
stays-with_code SetTriggerError T key f valid = stays-trigger_ended T key f.trigger state.Error valid
stays-with_code SetAllJobTriggersError T key f valid = stays-job_ended T key f.job state.Error valid

stays-without_execution : (T : SchedulerTables) (key : Key) (U : SchedulerTables) (f : FiredData) → Stays T key U → Stays T key (without_execution U f)
unfolding without_execution
stays-without_execution T key U f was = record {
  triggers = before-with_unblocked T key f.no_concurrent f.job U.triggers was.triggers;
  calendars = was.calendars;
  zones = was.zones;
  horizon = was.horizon;
}

stays-without_finished : (code : Code) (T : SchedulerTables) (key : Key) (U : SchedulerTables) (k : Key) → Stays T key U → Stays T key (without_finished code U k)
stays-without_finished Noop T key U k was = stays-without_trigger T key U (finished U.fired (trigger_of k U.triggers)) was
stays-without_finished ReExecuteJob T key U k was = was
stays-without_finished SetTriggerComplete T key U k was = was
stays-without_finished DeleteTrigger T key U k was = was
stays-without_finished SetAllJobTriggersComplete T key U k was = was
stays-without_finished SetTriggerError T key U k was = was
stays-without_finished SetAllJobTriggersError T key U k was = was

stays-completed : (T : SchedulerTables) (key : Key) (m : ℤ) (f : FiredData) (code : Code) → TablesValid T → Stays T key (record (completed T f code) { last_moment = m })
stays-completed T key m f code valid =
    stays-moment T key (completed T f code) m
    (stays-without_finished code T key (without_execution (with_code code T f) f) f.trigger (stays-without_execution T key (with_code code T f) f (stays-with_code code T key f valid)))

facts-complete_one : (T T' : SchedulerTables) (key : Key) (c : Command) (m : ℤ) (f : FiredData) (code : Code) (r : Reply) → TablesValid T → complete_one T m f code ≡ accepted T' r → TurnFacts T key c r T'
facts-complete_one T T' key c m f ReExecuteJob r valid e = accepted_stays T _ T' key c _ r e refl (same_triggers T key _ valid refl refl refl refl)
facts-complete_one T T' key c m f Noop r valid e = accepted_stays T _ T' key c _ r e refl (stays-completed T key m f Noop valid)
facts-complete_one T T' key c m f SetTriggerComplete r valid e = accepted_stays T _ T' key c _ r e refl (stays-completed T key m f SetTriggerComplete valid)
facts-complete_one T T' key c m f DeleteTrigger r valid e = accepted_stays T _ T' key c _ r e refl (stays-completed T key m f DeleteTrigger valid)
facts-complete_one T T' key c m f SetAllJobTriggersComplete r valid e = accepted_stays T _ T' key c _ r e refl (stays-completed T key m f SetAllJobTriggersComplete valid)
facts-complete_one T T' key c m f SetTriggerError r valid e = accepted_stays T _ T' key c _ r e refl (stays-completed T key m f SetTriggerError valid)
facts-complete_one T T' key c m f SetAllJobTriggersError r valid e = accepted_stays T _ T' key c _ r e refl (stays-completed T key m f SetAllJobTriggersError valid)

facts-complete_row : (T T' : SchedulerTables) (key : Key) (c : Command) (m : ℤ) (me : MemberData) (o : Option FiredData) (code : Code) (r : Reply) → TablesValid T → complete_row T m me o code ≡ accepted T' r → TurnFacts T key c r T'
facts-complete_row T T' key c m me None code r valid e = absurd (cc)
facts-complete_row T T' key c m me (Some f) code r valid e = facts-complete_one T T' key c m f code r valid (passes (complete_refusal me f) _ T' r e).outcome

pub facts-complete : (T T' : SchedulerTables) (key : Key) (c : Command) (m : ℤ) (me : MemberData) (entry : ℕ) (code : Code) (r : Reply) → TablesValid T → complete T m me entry code ≡ accepted T' r → TurnFacts T key c r T'
facts-complete T T' key c m me entry code r valid e = facts-complete_row T T' key c m me (fired_of entry T.fired) code r valid (passes (node_refusal T me) _ T' r e).outcome

-- Misfires.

-- a trigger that is moved has another key
before-with_moved : (T : SchedulerTables) (key : Key) (m : ℤ) (rows : List TriggerData) (t : TriggerData) → same_key key t.spec.key ≡ false → AllByRecursion (IsAsBefore T key) rows → AllByRecursion (IsAsBefore T key) (with_moved T m rows t)
unfolding with_moved
before-with_moved T key m rows t differ all =
    All-with_trigger (IsAsBefore T key) (IsAsBefore T key) t.spec.key (moved_trigger (move_of T m t)) rows all
    (λ u at was same. let one : t.spec.key ≡ u.spec.key = same_key-exact t.spec.key u.spec.key at in let wrong : same_key key t.spec.key ≡ true = subst (λ (k : Key). same_key key k ≡ true) (sym one) same in absurd (cc))
    (λ u left was. was)

before-move_each : (T : SchedulerTables) (key : Key) (m : ℤ) (rows ts : List TriggerData) → list_any (λ row. same_key key row.trigger) (map (moved_row T m) ts) ≡ false → AllByRecursion (IsAsBefore T key) rows
    → AllByRecursion (IsAsBefore T key) (fold (with_moved T m) rows ts)
before-move_each T key m rows [] none all = all
before-move_each T key m rows (t ∷ ts) none all =
    let parts = or_parts (same_key key t.spec.key) (list_any (λ row. same_key key row.trigger) (map (moved_row T m) ts)) none in
    before-move_each T key m (with_moved T m rows t) ts parts.1 (before-with_moved T key m rows t parts.0 all)

-- the key isn't listed, or wasn't even stored
abbrev pub IsUnlisted : SchedulerTables → Key → Reply → Type 0
IsUnlisted T key r = (is_misfired key r ≡ false) ⊎ (trigger_of key T.triggers ≡ None)

none_listed : (T : SchedulerTables) (key : Key) (m : ℤ) (ts : List TriggerData) → trigger_of key T.triggers ≡ None → AllByRecursion (IsStoredWaiting T) ts → list_any (λ row. same_key key row.trigger) (map (moved_row T m) ts) ≡ false
none_listed T key m [] absent all = refl
none_listed T key m (t ∷ ts) absent all =
    or_from (same_key key t.spec.key) (list_any (λ row. same_key key row.trigger) (map (moved_row T m) ts))
    (false_from_ne_true (same_key key t.spec.key) (λ same. let like = trigger_of-alike key t.spec.key T.triggers same in let stored = all.0.stored in absurd (cc)))
    (none_listed T key m ts absent all.1)

unlisted : (T : SchedulerTables) (key : Key) (m : ℤ) (r : Reply) → TablesValid T → r ≡ reply.Misfired (map (moved_row T m) (misfired_triggers T m)) → IsUnlisted T key r
    → list_any (λ row. same_key key row.trigger) (map (moved_row T m) (misfired_triggers T m)) ≡ false
unlisted T key m r valid listed none =
    ⊎_elim (λ out. subst (λ (q : Reply). is_misfired key q ≡ false) listed out)
    (λ absent. none_listed T key m (misfired_triggers T m) absent (each_misfired T m valid.references_and_limits.ordered.triggers)) none

pub facts-misfires : (T T' : SchedulerTables) (key : Key) (c : Command) (m : ℤ) (me : MemberData) (r : Reply) → TablesValid T → IsUnlisted T key r → misfires T m me ≡ accepted T' r → TurnFacts T key c r T'
facts-misfires T T' key c m me r valid none e =
    let way = (passes (node_refusal T me) _ T' r e).outcome in
    accepted_stays T _ T' key c _ r way refl
    (record { triggers = before-move_each T key m T.triggers (misfired_triggers T m) (unlisted T key m r valid (cc) none) (as_before T key valid); calendars = refl; zones = refl; horizon = refl })

-- Leave.

pub facts-leave : (T T' : SchedulerTables) (key : Key) (c : Command) (m : ℤ) (me : MemberData) (r : Reply) → TablesValid T → leave T m me ≡ accepted T' r → TurnFacts T key c r T'
facts-leave T T' key c m me r valid e =
    accepted_stays T _ T' key c _ r (passes (or_refusal (node_refusal T me) (leave_refusal T me)) _ T' r e).outcome refl
    (record { triggers = before-freed_by T key me T.fired T.triggers (as_before T key valid); calendars = refl; zones = refl; horizon = refl })
