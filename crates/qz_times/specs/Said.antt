-- What is said to the lines of an input. Times are in ms.
use Rattle.std.specs.Prelude.{◌≡◌, ◌⊎◌, ◌≤◌, ℕ, ℤ, List, [], ◌∷◌, ◌++◌, length, not, pos, if◌then◌else◌, Option, Some, None, Result, Ok}
use Rattle.qz_civil.specs.declared.limits.TheConstants.{LAST}
use Rattle.qz_civil.specs.Least.{IsLeast, IsNext}
use Rattle.qz_types.specs.declared.commands.Actor.TheVariants.{Client}
use Rattle.qz_types.specs.declared.commands.Command.{Command}
use Rattle.qz_types.specs.declared.commands.Command.TheVariants as command
use Rattle.qz_types.specs.Entries.{EntryData}
use Rattle.qz_types.specs.Outcomes.{Outcome, accepted, refused}
use Rattle.qz_types.specs.declared.replies.Refusal.{Refusal}
use Rattle.qz_types.specs.declared.replies.Reply.{Reply}
use Rattle.qz_types.specs.declared.replies.Refusal.TheVariants.{UnknownCalendar, UnknownZone}
use Rattle.qz_steps.specs.declared.steps.StepReply.TheVariants as reply
use Rattle.qz_types.specs.declared.triggers.TriggerSpec.{TriggerSpec}
use Rattle.qz_job_json.specs.declared.asked.Asked.{Asked}
use Rattle.qz_job_json.specs.declared.asked.Asked.TheVariants.{AddZone, AddCalendar, AddTrigger}
use Rattle.qz_job_json.specs.declared.faults.LineFault.{LineFault}
use Rattle.qz_job_json.specs.Asked.{asked_meaning}
use Rattle.qz_report.specs.Replies.{reply_text}
use Rattle.qz_report.specs.Times.{times_text}
use Rattle.qz_plan.specs.FireTimes.{IsFireTime}
use Rattle.qz_model.specs.Plan.{stretches_for, zone_named_by, zoned_chain, is_known_zone_name, is_known_calendar}
use Rattle.qz_model.specs.Transaction.{transaction}
use Rattle.qz_times.specs.declared.queries.Query.{Query}
use Rattle.qz_times.specs.Known.{Known}

-- what a line means; proofs see this word closed
unfoldable pub line_meaning : List ℕ → Result (Option Asked) LineFault
line_meaning line = asked_meaning line

-- a client's command as an entry of the trigger store; nothing that is said depends on its moment
abbrev pub entry_of : Command → EntryData
entry_of command = record { at = pos 0; actor = Client; seat = 0; command = command }

-- what is said to a command that comes to this, and what is known then
abbrev pub Obeyed : Outcome → Known → List ℕ → Known → Type 0
Obeyed (accepted next done) known text known' = (text ≡ reply_text (reply.Ok done)) × (known' ≡ next)
Obeyed (refused refusal) known text known' = (text ≡ reply_text (reply.Refused refusal)) × (known' ≡ known)

-- Wherever the command is accepted, fire times may go on to the same moment as before.
abbrev pub KeepsHorizon : Command → Type 0
KeepsHorizon c = (T T' : Known) (r : Reply) → transaction T (entry_of c) ≡ accepted T' r → T'.horizon ≡ T.horizon

-- The fire times of a trigger.

-- it fires at t, in its zone and with its chain of calendars
abbrev pub Fires : Known → TriggerSpec → ℤ → Type 0
Fires known spec t = IsFireTime spec.timing (stretches_for known.zones (zone_named_by spec.timing.kind)) (zoned_chain known spec.calendar) t

-- each time is the next one after the one before, and the first the next one after `after`
abbrev pub IsChain : (ℤ → Type 0) → ℤ → List ℤ → ℤ → Type 0
IsChain P after [] last = last ≡ after
IsChain P after (t ∷ ts) last = IsLeast LAST P after t × IsChain P t ts last

-- these are the first times after `after`: as many as are asked for, or all that there are
pub record AreFirst (P : ℤ → Type 0) (after : ℤ) (count : ℕ) (times : List ℤ) : Type 0 where
  pub last : ℤ
  pub chain : IsChain P after times last
  pub most : length times ≤ count
  pub all : (length times ≡ count) ⊎ IsNext LAST P last None

-- why a trigger isn't told its times
abbrev pub trigger_refusal : Known → TriggerSpec → Option Refusal
trigger_refusal known spec =
    if not (is_known_calendar known.calendars spec.calendar) then Some UnknownCalendar
    else (if not (is_known_zone_name known.zones (zone_named_by spec.timing.kind)) then Some UnknownZone
    else None)

-- a trigger is told its first times, unless it is refused
abbrev pub IsToldUnless : Option Refusal → Known → Query → TriggerSpec → List ℕ → Type 0
IsToldUnless (Some refusal) known q spec text = text ≡ reply_text (reply.Refused refusal)
IsToldUnless None known q spec text =
    (times : List ℤ) × AreFirst (Fires known spec) q.after q.count times × (text ≡ times_text spec.key times)

-- what a trigger is told
abbrev pub IsTold : Known → Query → TriggerSpec → List ℕ → Type 0
IsTold known q spec text = IsToldUnless (trigger_refusal known spec) known q spec text

-- What is said to what a line asks for, and what is known then. A trigger isn't kept.
abbrev pub Said : Query → Known → Option Asked → List ℕ → Known → Type 0
Said q known None text known' = (text ≡ []) × (known' ≡ known)
Said q known (Some (AddZone zone)) text known' =
    Obeyed (transaction known (entry_of (command.AddZone zone))) known text known'
Said q known (Some (AddCalendar calendar replace)) text known' =
    Obeyed (transaction known (entry_of (command.AddCalendar calendar replace))) known text known'
Said q known (Some (AddTrigger spec)) text known' = IsTold known q spec text × (known' ≡ known)

-- what is said to a line that is right
pub record LineSaid (q : Query) (known : Known) (line text : List ℕ) (known' : Known) : Type 0 where
  pub asked : Option Asked
  pub meaning : line_meaning line ≡ Ok asked
  pub said : Said q known asked text known'

-- what is said to lines of which each is right, one after the other
abbrev pub AllSaid : Query → Known → List (List ℕ) → List ℕ → Known → Type 0
AllSaid q known [] text known' = (text ≡ []) × (known' ≡ known)
AllSaid q known (line ∷ lines) text known' =
    (first : List ℕ) × (rest : List ℕ) × (between : Known)
    × LineSaid q known line first between × AllSaid q between lines rest known' × (text ≡ first ++ rest)
