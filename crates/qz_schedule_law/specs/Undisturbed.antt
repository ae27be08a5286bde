-- Histories through which a trigger stays stored and does nothing but fire on time.
use Rattle.std.specs.Prelude.{◌≡◌, ◌⊎◌, ⊤, List, [], ◌∷◌, Bool, true, false, Some, None, IsTrue, IsSome, IfSome}
use Rattle.std.specs.List.{AllByRecursion, list_any}
use Rattle.qz_types.specs.Rows.{TriggerData}
use Rattle.qz_types.specs.Entries.{EntryData, is_entry}
use Rattle.qz_types.specs.declared.keys.Key.{Key}
use Rattle.qz_types.specs.declared.limits.TheConstants.{CHAIN_LIMIT}
use Rattle.qz_types.specs.declared.triggers.TriggerSpec.{TriggerSpec}
use Rattle.qz_types.specs.declared.commands.Command.{Command}
use Rattle.qz_types.specs.declared.commands.Command.TheVariants.{AddTrigger, AddCalendar}
use Rattle.qz_types.specs.declared.replies.Reply.{Reply}
use Rattle.qz_types.specs.declared.replies.Reply.TheVariants.{Misfired}
use Rattle.qz_types.specs.Tables.{SchedulerTables}
use Rattle.qz_types.specs.Outcomes.{Outcome, accepted, refused, IsAccepted}
use Rattle.qz_types.specs.Words.{same_text, same_key, trigger_of}
use Rattle.qz_types.specs.Chains.{calendar_named, chain_of}
use Rattle.qz_model.specs.History.{tables_left, IsLegalFrom, replay_from}
use Rattle.qz_model.specs.Invariant.{TablesValid}
use Rattle.qz_model.specs.Transaction.{transaction}
use Rattle.qz_model.specs.Upgrading.{is_upgrade}

-- the command stores a trigger of this key, in place of the one that is stored
abbrev pub is_replaced : Key → Command → Bool
is_replaced key (AddTrigger spec replace) = same_key key spec.key
is_replaced key command = false

-- the reply lists the trigger among those that were misfired and moved
abbrev pub is_misfired : Key → Reply → Bool
is_misfired key (Misfired rows) = list_any (λ row. same_key key row.trigger) rows
is_misfired key reply = false

-- the command replaces a calendar of the trigger's chain; other commands on calendars and zones are refused where they
-- would change one that is in use
abbrev pub is_chain_changed : SchedulerTables → TriggerSpec → Command → Bool
is_chain_changed T spec (AddCalendar calendar replace) =
    list_any (λ c. same_text calendar.name c.name) (chain_of T.calendars CHAIN_LIMIT (calendar_named T.calendars spec.calendar))
is_chain_changed T spec command = false

-- An accepted entry, which leaves the tables `next`, neither removes the trigger of this key nor replaces it nor moves it for a
-- misfire, its chain of calendars stays, and the entry is no Upgrade, so that the horizon stays too.
pub record IsUndisturbed (key : Key) (T : SchedulerTables) (command : Command) (reply : Reply) (next : SchedulerTables) : Type 0 where
  pub stored : IsSome (trigger_of key next.triggers)
  pub kept : is_replaced key command ≡ false
  pub on_time : is_misfired key reply ≡ false
  pub calendars : IfSome (trigger_of key T.triggers) (λ t. is_chain_changed T t.spec command ≡ false)
  pub version : is_upgrade command ≡ false

-- a refusal changes nothing
abbrev pub IsUndisturbedBy : Key → SchedulerTables → Command → Outcome → Type 0
IsUndisturbedBy key T command (accepted next reply) = IsUndisturbed key T command reply next
IsUndisturbedBy key T command (refused refusal) = ⊤

-- none of these entries disturbs it
abbrev pub GoesOn : Key → SchedulerTables → List EntryData → Type 0
GoesOn key T [] = ⊤
GoesOn key T (e ∷ es) = IsUndisturbedBy key T e.command (transaction T e) × GoesOn key (tables_left T (transaction T e)) es

-- A stretch of a legal history, through which nothing disturbs the trigger of this key: it is t at the beginning, u at the end.
pub record IsStretch (T : SchedulerTables) (es : List EntryData) (key : Key) (t u : TriggerData) : Type 0 where
  pub valid : TablesValid T
  pub entries : AllByRecursion (λ e. IsTrue (is_entry e)) es
  pub legal : IsLegalFrom T es
  pub begins : trigger_of key T.triggers ≡ Some t
  pub ends : trigger_of key (replay_from T es).triggers ≡ Some u
  pub goes_on : GoesOn key T es

-- An accepted entry stores the trigger of this key, as a new one or in place of another, and through the entries after it nothing
-- disturbs the trigger: it is t when it is stored, u at the end.
pub record IsStoredBy (T : SchedulerTables) (e : EntryData) (es : List EntryData) (key : Key) (t u : TriggerData) : Type 0 where
  pub valid : TablesValid T
  pub entry : IsTrue (is_entry e)
  pub accepted : IsAccepted (transaction T e)
  pub stores : (trigger_of key T.triggers ≡ None) ⊎ (is_replaced key e.command ≡ true)
  pub stretch : IsStretch (tables_left T (transaction T e)) es key t u
