-- A run's part of a history, where the history has one entry more.
use Rattle.std.proofs.Common.{◌≡◌, ℕ, ◌+◌, ◌<◌, ◌≤◌, ◌^◌, ℤ, List, [], ◌∷◌, ◌++◌, length, take, drop, length-append, refl, sym, ap, ◌∙◌, arith}
use Rattle.std.specs.Prelude.{Ok}
use Rattle.std.proofs.lemmas.List.{take-append-le, drop-append-le, take-append-drop}
use Rattle.qz_types.specs.Entries.{EntryData, StateEntryData}
use Rattle.qz_types.specs.Outcomes.{Outcome, accepted, refused}
use Rattle.qz_types.specs.Tables.{SchedulerTables, recorded_moment}
use Rattle.qz_types.specs.declared.replies.Reply.{Reply}
use Rattle.qz_model.specs.History.{History, tables_left, replay_from, replay}
use Rattle.qz_model.specs.Transaction.{transaction}
use Rattle.qz_model.proofs.Histories.{replay_from-append}
use Rattle.qz_trigger_store.specs.Entries.{TriggerState, answer_of}
use Rattle.qz_checkin.specs.Entries.{StatesState}
use Rattle.qz_run.specs.declared.commands.NodeCommand.{NodeCommand}
use Rattle.qz_run.specs.declared.commands.NodeCommand.TheVariants as asks
use Rattle.qz_run.specs.Stores.{Event, RowEvent}
use Rattle.qz_seen.specs.Asking.{actor_of, command_of, entry_of}
use Rattle.qz_seen.specs.Seen.{node_name, seen}
use Rattle.qz_run_stores.specs.Accounts.{node_number, asker, asked, reply_of, event_of, events_onto, row_event_of, row_events_onto}
use Rattle.qz_run_stores.specs.Logs.{log_of, row_log_of}
use Rattle.qz_run_stores.proofs.NodeNames.{number_of}

events-more : (past : List Event) (T : SchedulerTables) (es : List EntryData) (e : EntryData) → events_onto past T (es ++ e ∷ []) ≡ event_of (replay_from T es) e ∷ events_onto past T es
events-more past T [] e = refl
events-more past T (f ∷ es) e = events-more (event_of T f ∷ past) (tables_left T (transaction T f)) es e

events-length : (past : List Event) (T : SchedulerTables) (es : List EntryData) → length (events_onto past T es) ≡ length past + length es
events-length past T [] = omega arith
events-length past T (e ∷ es) = let rest = events-length (event_of T e ∷ past) (tables_left T (transaction T e)) es in omega (arith, rest)

row-events-more : (past : List RowEvent) (es : List StateEntryData) (e : StateEntryData) → row_events_onto past (es ++ e ∷ []) ≡ row_event_of e ∷ row_events_onto past es
row-events-more past [] e = refl
row-events-more past (f ∷ es) e = row-events-more (row_event_of f ∷ past) es e

length-drop-le : (n : ℕ) (es : List EntryData) → length (drop n es) ≤ length es
length-drop-le n es = omega (arith, ap length (take-append-drop n es), length-append (take n es) (drop n es))

-- no run's part is longer than the history
pub log-length : (before : ℕ) (s : TriggerState) → length (log_of before s) ≤ length s.history.entries
log-length before s =
    let es = s.history.entries in
    omega (arith, events-length [] (replay_from s.history.base (take before es)) (drop before es), length-drop-le before es)

pub log-more : (before : ℕ) (s t : TriggerState) (e : EntryData) → before ≤ length s.history.entries → t.history ≡ record s.history { entries = s.history.entries ++ e ∷ [] }
    → log_of before t ≡ event_of (replay s.history) e ∷ log_of before s
log-more before s t e within more =
    let base : SchedulerTables = s.history.base in
    let es : List EntryData = s.history.entries in
    let log : History → List Event = λ h. events_onto [] (replay_from h.base (take before h.entries)) (drop before h.entries) in
    let whole : replay_from (replay_from base (take before es)) (drop before es) ≡ replay_from base es = sym (replay_from-append base (take before es) (drop before es)) ∙ ap (replay_from base) (take-append-drop before es) in
    ap log more
    ∙ ap (λ xs. events_onto [] (replay_from base xs) (drop before (es ++ e ∷ []))) (take-append-le before es (e ∷ []) within)
    ∙ ap (λ xs. events_onto [] (replay_from base (take before es)) xs) (drop-append-le before es (e ∷ []) within)
    ∙ events-more [] (replay_from base (take before es)) (drop before es) e
    ∙ ap (λ T. event_of T e ∷ events_onto [] (replay_from base (take before es)) (drop before es)) whole

pub row-log-more : (before : ℕ) (s t : StatesState) (e : StateEntryData) → before ≤ length s.history.entries → t.history ≡ record s.history { entries = s.history.entries ++ e ∷ [] }
    → row_log_of before t ≡ row_event_of e ∷ row_log_of before s
row-log-more before s t e within more =
    ap (λ h. row_events_onto [] (drop before h.entries)) more
    ∙ ap (λ xs. row_events_onto [] xs) (drop-append-le before s.history.entries (e ∷ []) within)
    ∙ row-events-more [] (drop before s.history.entries) e

-- The entry of a node is accounted for under its number and its command.
asker_is : (T : SchedulerTables) (name : List ℕ) (command : NodeCommand) → asker (actor_of T name command) (command_of name command) ≡ name
asker_is T name asks.Join = refl
asker_is T name asks.Leave = refl
asker_is T name asks.Misfires = refl
asker_is T name (asks.Acquire no_later) = refl
asker_is T name (asks.Fire entry) = refl
asker_is T name (asks.Complete entry code) = refl

asked_is : (name : List ℕ) (command : NodeCommand) → asked (command_of name command) ≡ command
asked_is name asks.Join = refl
asked_is name asks.Leave = refl
asked_is name asks.Misfires = refl
asked_is name (asks.Acquire no_later) = refl
asked_is name (asks.Fire entry) = refl
asked_is name (asks.Complete entry code) = refl

pub accepted_by : (T : SchedulerTables) (o : Outcome) (r : Reply) → answer_of o ≡ Ok r → o ≡ accepted (tables_left T o) r
accepted_by T (accepted next x) r is = let same : x ≡ r = cc in ap (accepted next) same
accepted_by T (refused x) r is = absurd (cc)

pub event-is : (T T' : SchedulerTables) (at : ℤ) (n : ℕ) (command : NodeCommand) (r : Reply) → n < 2 ^ 32 → transaction T (entry_of T at n command) ≡ accepted T' r → recorded_moment T at ≡ at
    → event_of T (entry_of T at n command) ≡ record { before = seen T; node = n; command = command; reply = r; moment = at }
event-is T T' at n command r small way moment =
    let number : node_number (asker (actor_of T (node_name n) command) (command_of (node_name n) command)) ≡ n = ap node_number (asker_is T (node_name n) command) ∙ number_of n small in
    let reply : reply_of (transaction T (entry_of T at n command)) ≡ r = ap reply_of way in
    let which = asked_is (node_name n) command in
    λ i. record { before = seen T; node = number i; command = which i; reply = reply i; moment = moment i }
