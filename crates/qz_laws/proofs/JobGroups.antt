-- The commands that were known before groups of jobs could be paused leave the paused groups of jobs as they are.
use Rattle.std.proofs.Common.{◌≡◌, ℕ, ℤ, ◌+ℤ◌, true, List, [], ◌∷◌, fold, Option, Some, None, refl, sym, ap, ◌∙◌}
use Rattle.qz_types.specs.Rows.{TriggerData, MemberData, FiredData}
use Rattle.qz_types.specs.declared.keys.Key.{Key}
use Rattle.qz_types.specs.declared.commands.Code.{Code}
use Rattle.qz_types.specs.declared.commands.Code.TheVariants.{Noop, ReExecuteJob, SetTriggerComplete, DeleteTrigger, SetAllJobTriggersComplete, SetTriggerError, SetAllJobTriggersError}
use Rattle.qz_types.specs.declared.commands.Command.{Command}
use Rattle.qz_types.specs.declared.commands.Command.TheVariants as command
use Rattle.qz_types.specs.declared.commands.Actor.{Actor}
use Rattle.qz_types.specs.declared.commands.Actor.TheVariants.{Client, Node}
use Rattle.qz_types.specs.declared.replies.Reply.{Reply}
use Rattle.qz_types.specs.declared.replies.Refusal.{Refusal}
use Rattle.qz_types.specs.Tables.{SchedulerTables}
use Rattle.qz_types.specs.Outcomes.{Outcome, accepted, refused, unless}
use Rattle.qz_types.specs.Words.{trigger_of, fired_of, member_of}
use Rattle.qz_model.specs.Acquiring.{with_acquired, chosen, release_row}
use Rattle.qz_model.specs.Completing.{finished, with_trigger_ended, with_job_ended, with_code, without_execution, without_finished, completed, complete_one, complete_row}
use Rattle.qz_model.specs.Firing.{with_begun, fire_row}
use Rattle.qz_model.specs.Recovery.{recovered, recover_member, with_new_member, joined}
use Rattle.qz_model.specs.Transaction.{by_command}
use Rattle.qz_model.specs.Triggers.{without_trigger_and_orphan, with_new_trigger}
use Rattle.qz_laws.specs.Before.{was_known}

-- the tables of an accepted outcome keep the groups that the tables which it says keep
abbrev Keeps : SchedulerTables → Outcome → Type 0
Keeps T o = (U : SchedulerTables) (r : Reply) → o ≡ accepted U r → U.paused_job_groups ≡ T.paused_job_groups

keeps-accepted : (T W : SchedulerTables) (s : Reply) → W.paused_job_groups ≡ T.paused_job_groups → Keeps T (accepted W s)
keeps-accepted T W s same U r e = let tables : W ≡ U = cc in ap (λ (V : SchedulerTables). V.paused_job_groups) (sym tables) ∙ same

keeps-refused : (T : SchedulerTables) (x : Refusal) → Keeps T (refused x)
keeps-refused T x U r e = absurd (cc)

keeps-unless : (T : SchedulerTables) (x : Option Refusal) (o : Outcome) → Keeps T o → Keeps T (unless x o)
keeps-unless T None o keeps = keeps
keeps-unless T (Some x) o keeps = keeps-refused T x

-- Clients.

groups-without_trigger : (T : SchedulerTables) (t : Option TriggerData) → (without_trigger_and_orphan T t).paused_job_groups ≡ T.paused_job_groups
unfolding without_trigger_and_orphan
groups-without_trigger T None = refl
groups-without_trigger T (Some t) = refl

groups-with_new_trigger : (T : SchedulerTables) (t : TriggerData) → (with_new_trigger T t).paused_job_groups ≡ T.paused_job_groups
unfolding with_new_trigger
groups-with_new_trigger T t = refl

-- Recovery.

groups-recovered : (T : SchedulerTables) (member : MemberData) → (recovered T member).paused_job_groups ≡ T.paused_job_groups
unfolding recovered
groups-recovered T member = refl

groups-with_new_member : (T : SchedulerTables) (node : List ℕ) → (with_new_member T node).paused_job_groups ≡ T.paused_job_groups
unfolding with_new_member
groups-with_new_member T node = refl

keeps-joined : (T : SchedulerTables) (m : ℤ) (node : List ℕ) (o : Option MemberData) → Keeps T (joined T m node o)
keeps-joined T m node None = keeps-accepted T _ _ (groups-with_new_member T node)
keeps-joined T m node (Some member) = keeps-accepted T _ _ (groups-with_new_member (recovered T member) node ∙ groups-recovered T member)

keeps-recover_member : (T : SchedulerTables) (m : ℤ) (o : Option MemberData) → Keeps T (recover_member T m o)
keeps-recover_member T m None = keeps-refused T _
keeps-recover_member T m (Some member) = keeps-unless T _ _ (keeps-accepted T _ _ (groups-recovered T member))

-- Executions.

groups-all_acquired : (me : MemberData) (T : SchedulerTables) (ts : List TriggerData) → (fold (with_acquired me) T ts).paused_job_groups ≡ T.paused_job_groups
unfolding with_acquired
groups-all_acquired me T [] = refl
groups-all_acquired me T (t ∷ ts) = groups-all_acquired me (with_acquired me T t) ts

keeps-release_row : (T : SchedulerTables) (m : ℤ) (me : MemberData) (o : Option FiredData) → Keeps T (release_row T m me o)
keeps-release_row T m me None = keeps-refused T _
keeps-release_row T m me (Some f) = keeps-unless T _ _ (keeps-accepted T _ _ refl)

keeps-fire_row : (T : SchedulerTables) (m : ℤ) (me : MemberData) (o : Option FiredData) → Keeps T (fire_row T m me o)
unfolding with_begun
keeps-fire_row T m me None = keeps-refused T _
keeps-fire_row T m me (Some f) = keeps-unless T _ _ (keeps-accepted T _ _ refl)

groups-with_code : (code : Code) (T : SchedulerTables) (f : FiredData) → (with_code code T f).paused_job_groups ≡ T.paused_job_groups
unfolding with_trigger_ended with_job_ended
groups-with_code Noop T f = refl
groups-with_code ReExecuteJob T f = refl
groups-with_code SetTriggerComplete T f = refl
groups-with_code DeleteTrigger T f = groups-without_trigger T (trigger_of f.trigger T.triggers)
groups-with_code SetAllJobTriggersComplete T f = refl
groups-with_code SetTriggerError T f = refl
groups-with_code SetAllJobTriggersError T f = refl

groups-without_finished : (code : Code) (T : SchedulerTables) (key : Key) → (without_finished code T key).paused_job_groups ≡ T.paused_job_groups
groups-without_finished Noop T key = groups-without_trigger T (finished T.fired (trigger_of key T.triggers))
groups-without_finished ReExecuteJob T key = refl
groups-without_finished SetTriggerComplete T key = refl
groups-without_finished DeleteTrigger T key = refl
groups-without_finished SetAllJobTriggersComplete T key = refl
groups-without_finished SetTriggerError T key = refl
groups-without_finished SetAllJobTriggersError T key = refl

groups-completed : (T : SchedulerTables) (f : FiredData) (code : Code) → (completed T f code).paused_job_groups ≡ T.paused_job_groups
unfolding without_execution
groups-completed T f code = groups-without_finished code (without_execution (with_code code T f) f) f.trigger ∙ groups-with_code code T f

keeps-complete_one : (T : SchedulerTables) (m : ℤ) (f : FiredData) (code : Code) → Keeps T (complete_one T m f code)
keeps-complete_one T m f ReExecuteJob = keeps-accepted T _ _ refl
keeps-complete_one T m f Noop = keeps-accepted T _ _ (groups-completed T f Noop)
keeps-complete_one T m f SetTriggerComplete = keeps-accepted T _ _ (groups-completed T f SetTriggerComplete)
keeps-complete_one T m f DeleteTrigger = keeps-accepted T _ _ (groups-completed T f DeleteTrigger)
keeps-complete_one T m f SetAllJobTriggersComplete = keeps-accepted T _ _ (groups-completed T f SetAllJobTriggersComplete)
keeps-complete_one T m f SetTriggerError = keeps-accepted T _ _ (groups-completed T f SetTriggerError)
keeps-complete_one T m f SetAllJobTriggersError = keeps-accepted T _ _ (groups-completed T f SetAllJobTriggersError)

keeps-complete_row : (T : SchedulerTables) (m : ℤ) (me : MemberData) (o : Option FiredData) (code : Code) → Keeps T (complete_row T m me o code)
keeps-complete_row T m me None code = keeps-refused T _
keeps-complete_row T m me (Some f) code = keeps-unless T _ _ (keeps-complete_one T m f code)

-- All.

keeps-by_command : (T : SchedulerTables) (m : ℤ) (actor : Actor) (c : Command) → was_known c ≡ true → Keeps T (by_command T m actor c)
keeps-by_command T m actor (command.AddJob job replace) known = keeps-unless T _ _ (keeps-accepted T _ _ refl)
keeps-by_command T m actor (command.DeleteJob key) known = keeps-unless T _ _ (keeps-accepted T _ _ refl)
keeps-by_command T m actor (command.AddTrigger spec replace) known = keeps-unless T _ _ (keeps-accepted T _ _ (groups-with_new_trigger T _))
keeps-by_command T m actor (command.DeleteTrigger key) known = keeps-unless T _ _ (keeps-accepted T _ _ (groups-without_trigger T (trigger_of key T.triggers)))
keeps-by_command T m actor (command.PauseTrigger key) known = keeps-unless T _ _ (keeps-accepted T _ _ refl)
keeps-by_command T m actor (command.ResumeTrigger key) known = keeps-unless T _ _ (keeps-accepted T _ _ refl)
keeps-by_command T m actor (command.PauseGroup group) known = keeps-unless T _ _ (keeps-accepted T _ _ refl)
keeps-by_command T m actor (command.ResumeGroup group) known = keeps-accepted T _ _ refl
keeps-by_command T m actor (command.AddCalendar calendar replace) known = keeps-unless T _ _ (keeps-accepted T _ _ refl)
keeps-by_command T m actor (command.DeleteCalendar name) known = keeps-unless T _ _ (keeps-accepted T _ _ refl)
keeps-by_command T m actor (command.AddZone zone) known = keeps-unless T _ _ (keeps-accepted T _ _ refl)
keeps-by_command T m actor (command.DeleteZone name) known = keeps-unless T _ _ (keeps-accepted T _ _ refl)
keeps-by_command T m actor (command.TriggerNow job) known = keeps-unless T _ _ (keeps-accepted T _ _ refl)
keeps-by_command T m actor (command.Threshold ms) known = keeps-accepted T _ _ refl
keeps-by_command T m actor (command.Join node) known = keeps-unless T _ _ (keeps-joined T m node (member_of node T.members))
keeps-by_command T m Client command.Leave known = keeps-refused T _
keeps-by_command T m (Node me) command.Leave known = keeps-unless T _ _ (keeps-accepted T _ _ refl)
keeps-by_command T m Client (command.Acquire no_later window max) known = keeps-refused T _
keeps-by_command T m (Node me) (command.Acquire no_later window max) known = keeps-unless T _ _ (keeps-accepted T _ _ (groups-all_acquired me T (chosen T m (no_later +ℤ window) max)))
keeps-by_command T m Client (command.Release entry) known = keeps-refused T _
keeps-by_command T m (Node me) (command.Release entry) known = keeps-unless T _ _ (keeps-release_row T m me (fired_of entry T.fired))
keeps-by_command T m Client (command.Fire entry) known = keeps-refused T _
keeps-by_command T m (Node me) (command.Fire entry) known = keeps-unless T _ _ (keeps-fire_row T m me (fired_of entry T.fired))
keeps-by_command T m Client (command.Complete entry code) known = keeps-refused T _
keeps-by_command T m (Node me) (command.Complete entry code) known = keeps-unless T _ _ (keeps-complete_row T m me (fired_of entry T.fired) code)
keeps-by_command T m Client command.Misfires known = keeps-refused T _
keeps-by_command T m (Node me) command.Misfires known = keeps-unless T _ _ (keeps-accepted T _ _ refl)
keeps-by_command T m Client (command.Recover node) known = keeps-refused T _
keeps-by_command T m (Node me) (command.Recover node) known = keeps-unless T _ _ (keeps-recover_member T m (member_of node T.members))
keeps-by_command T m actor command.Upgrade known = keeps-unless T _ _ (keeps-accepted T _ _ refl)
keeps-by_command T m actor (command.ResetTrigger key) known = absurd (cc)
keeps-by_command T m actor (command.PauseJobGroup group) known = absurd (cc)
keeps-by_command T m actor (command.ResumeJobGroup group) known = absurd (cc)

pub groups_kept : (T U : SchedulerTables) (m : ℤ) (actor : Actor) (c : Command) (r : Reply) → was_known c ≡ true → by_command T m actor c ≡ accepted U r → U.paused_job_groups ≡ T.paused_job_groups
groups_kept T U m actor c r known way = keeps-by_command T m actor c known U r way
