-- Executions that are lost with a failed member, and the triggers that are added to recover them. None of these
-- definitions uses a word by which the model defines recovery, so that the law stays as it is if the model goes wrong.
use Rattle.std.specs.Prelude.{◌≡◌, ◌⊎◌, ⊤, ℕ, nat_eq, ◌+◌, ◌==◌, ◌<◌, ◌≤◌, ◌^◌, List, [], ◌∷◌, ◌++◌, map, filter, Bool, true, false, not, ◌&&◌, codes, Option, Some, None, is_some, if◌then◌else◌}
use Rattle.std.specs.List.{AllByRecursion, count_by, ends_with}
use Rattle.std.specs.Fmt.{decimal}
use Rattle.qz_types.specs.Rows.{TriggerData, MemberData, FiredData}
use Rattle.qz_types.specs.Entries.{EntryData}
use Rattle.qz_types.specs.declared.commands.Command.{Command}
use Rattle.qz_types.specs.declared.commands.Command.TheVariants.{Join, Recover}
use Rattle.qz_types.specs.declared.fired.FiredState.{FiredState}
use Rattle.qz_types.specs.declared.fired.FiredState.TheVariants.{Acquired, Executing}
use Rattle.qz_types.specs.declared.replies.Reply.{Reply}
use Rattle.qz_types.specs.declared.replies.Reply.TheVariants.{Fired}
use Rattle.qz_types.specs.Tables.{SchedulerTables}
use Rattle.qz_types.specs.Words.{same_text, job_of, trigger_of, member_of}
use Rattle.qz_model.specs.History.{tables_left}
use Rattle.qz_model.specs.Transaction.{transaction}

-- Losses.

-- the execution has begun
abbrev pub is_executing : FiredState → Bool
is_executing Acquired = false
is_executing Executing = true

-- the row is the member's, under its epoch
unfoldable pub is_held_by : MemberData → FiredData → Bool
is_held_by member f = same_text member.node f.node && (member.epoch == f.epoch)

-- the executions of the member, if there is one
abbrev pub executions_of : Option MemberData → List FiredData → List FiredData
executions_of None fired = []
executions_of (Some member) fired = filter (λ f. is_executing f.state && is_held_by member f) fired

-- the executions that end without a word of their node where this command is accepted: those of the member that it
-- recovers, or whose place it takes
abbrev pub lost_at : SchedulerTables → Command → List FiredData
lost_at T (Recover node) = executions_of (member_of node T.members) T.fired
lost_at T (Join node) = executions_of (member_of node T.members) T.fired
lost_at T command = []

-- a lost execution, and whether it asked to be recovered
pub record Lost : Type 0 where
  pub row : FiredData
  pub asked : Bool

-- it asked where its row says so, and its job was still stored
abbrev pub lost_as : SchedulerTables → FiredData → Lost
lost_as T f = record { row = f; asked = f.requests_recovery && is_some (job_of f.job T.jobs) }

-- what one command loses
abbrev pub lost_in : SchedulerTables → Command → List Lost
lost_in T command = map (lost_as T) (lost_at T command)

-- what all entries of a history lose
abbrev pub lost_from : SchedulerTables → List EntryData → List Lost
lost_from T [] = []
lost_from T (e ∷ es) = lost_in T e.command ++ lost_from (tables_left T (transaction T e)) es

-- the lost execution had this entry number
abbrev pub is_lost : ℕ → Lost → Bool
is_lost number l = number == l.row.entry

-- Beginnings.

-- by this reply the row's execution began: under its entry number, of its job, which had the row's flag then
abbrev pub IsBegunBy : FiredData → Reply → Type 0
IsBegunBy f (Fired entry scheduled at next trigger job) = (entry ≡ f.entry) × (job.key ≡ f.job) × (job.requests_recovery ≡ f.requests_recovery)
IsBegunBy f reply = ⊥

-- by one of these replies
abbrev pub IsBegunByOne : FiredData → List Reply → Type 0
IsBegunByOne f [] = ⊥
IsBegunByOne f (reply ∷ replies) = IsBegunBy f reply ⊎ IsBegunByOne f replies

-- Recoveries.

-- the trigger is in the group of recoveries, and its name ends in an underscore and this number
unfoldable pub is_recovery : ℕ → TriggerData → Bool
is_recovery number t = same_text t.spec.key.group (codes "RECOVERING_JOBS") && ends_with nat_eq t.spec.key.name (95 ∷ decimal number)

-- the triggers that stand after a transaction under keys that weren't stored before it
abbrev pub added : SchedulerTables → SchedulerTables → List TriggerData
added T next = filter (λ t. not (is_some (trigger_of t.spec.key T.triggers))) next.triggers

-- how many recoveries of this entry number one entry adds
abbrev pub recoveries_in : SchedulerTables → EntryData → ℕ → ℕ
recoveries_in T e number = count_by (is_recovery number) (added T (tables_left T (transaction T e)))

-- how many all entries of a history add, whether they stand at its end or not
abbrev pub recoveries_from : SchedulerTables → List EntryData → ℕ → ℕ
recoveries_from T [] number = 0
recoveries_from T (e ∷ es) number = recoveries_in T e number + recoveries_from (tables_left T (transaction T e)) es number

-- The law.

-- the trigger fires for the time of the execution, and its job
abbrev pub IsFor : FiredData → TriggerData → Type 0
IsFor f t = (t.spec.job ≡ f.job) × (t.next ≡ Some f.scheduled)

-- what a transaction adds under the number of a lost execution is for it
abbrev pub AreForIt : SchedulerTables → SchedulerTables → Lost → Type 0
AreForIt T next l = AllByRecursion (λ t. is_recovery l.row.entry t ≡ true → IsFor l.row t) (added T next)

-- a lost execution that asked has one recovery, and any other none
abbrev pub IsOneIfAsked : (ℕ → ℕ) → Lost → Type 0
IsOneIfAsked recoveries l = recoveries l.row.entry ≡ (if l.asked then 1 else 0)

-- each entry recovers by itself what it loses
abbrev pub RecoversAtOnce : SchedulerTables → List EntryData → Type 0
RecoversAtOnce T [] = ⊤
RecoversAtOnce T (e ∷ es) =
    AllByRecursion (λ l. IsOneIfAsked (recoveries_in T e) l × AreForIt T (tables_left T (transaction T e)) l) (lost_in T e.command)
    × RecoversAtOnce (tables_left T (transaction T e)) es

-- No execution is lost twice. Each lost one yields one recovery if it asked, else none, and does so at once, for the same
-- job and time. Nothing else yields any.
pub record AreExact (T : SchedulerTables) (es : List EntryData) : Type 0 where
  pub once : (number : ℕ) → count_by (is_lost number) (lost_from T es) ≤ 1
  pub yields : AllByRecursion (IsOneIfAsked (recoveries_from T es)) (lost_from T es)
  pub at_once : RecoversAtOnce T es
  pub no_others : (number : ℕ) → number < 2 ^ 64 → count_by (is_lost number) (lost_from T es) ≡ 0 → recoveries_from T es number ≡ 0
