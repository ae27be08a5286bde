-- What an accepted entry leaves, as a run sees it.
use Rattle.std.proofs.Common.{◌≡◌, ℕ, ◌<◌, ◌≤◌, ◌^◌, ℤ, ◌≤ℤ◌, [], ◌∷◌, length, true, false, refl, sym, ap, ◌∙◌, subst, arith}
use Rattle.qz_types.specs.Entries.{EntryData}
use Rattle.qz_types.specs.Tables.{SchedulerTables}
use Rattle.qz_types.specs.Outcomes.{accepted}
use Rattle.qz_types.specs.declared.replies.Reply.{Reply}
use Rattle.qz_model.specs.History.{tables_left, replay}
use Rattle.qz_model.specs.Invariant.{TablesValid}
use Rattle.qz_model.specs.Transaction.{transaction}
use Rattle.qz_model.proofs.Histories.{replay_from-append}
use Rattle.std.proofs.lemmas.Bool.Decides.{nat_tests}
use Rattle.qz_journal.specs.Commits.{need_of, room_of}
use Rattle.qz_stores.specs.Stores.{Appends}
use Rattle.qz_trigger_store.specs.Entries.{TriggerState, is_old, trigger_entry}
use Rattle.qz_run.specs.declared.commands.NodeCommand.{NodeCommand}
use Rattle.qz_run.specs.declared.stores.TheConstants.{ROOM}
use Rattle.qz_run.specs.Stores.{RowState, IsTime, CanAsk, Accepts}
use Rattle.qz_seen.specs.Asking.{entry_of}
use Rattle.qz_seen.specs.Effects.{Does}
use Rattle.qz_seen.specs.Seen.{seen}
use Rattle.qz_seen.proofs.Effects.{does, moment_is}
use Rattle.qz_trigger_store.proofs.Horizons.{accepted_anyway}
use Rattle.qz_run_stores.specs.Logs.{log_of}
use Rattle.qz_run_stores.proofs.Times.{is_moment}
use Rattle.qz_run_stores.proofs.Logs.{log-more, log-length, accepted_by, event-is}

-- there is room for a payload more
has_place : (size gate count : ℕ) → need_of size ≤ room_of gate count → count < ROOM
has_place size gate count room = grind (arith, nat_tests)

pub accepts : (before : ℕ) (s t : TriggerState) (states : RowState) (at : ℤ) (n : ℕ) (command : NodeCommand) (r : Reply) → before ≤ length s.history.entries → n < 2 ^ 32
    → is_old (replay s.history) ≡ false → TablesValid (replay s.history) → (s.is_open ≡ true → length s.history.entries ≤ s.payloads) → IsTime at → (replay s.history).last_moment ≤ℤ at → CanAsk n at command (seen (replay s.history))
    → Appends trigger_entry (entry_of (replay s.history) at n command) r s t
    → Accepts at n command r (record { view = seen (replay s.history); log = log_of before s; states = states }) (record { view = seen (replay t.history); log = log_of before t; states = states })
accepts before s t states at n command r within small current valid counted time later can appends =
    let T : SchedulerTables = replay s.history in
    let e : EntryData = entry_of T at n command in
    let way : transaction T e ≡ accepted (tables_left T (transaction T e)) r = accepted_by T (transaction T e) r (accepted_anyway T e r appends.accepted_as) in
    let after : replay t.history ≡ tables_left T (transaction T e) = ap replay appends.history ∙ replay_from-append s.history.base s.history.entries (e ∷ []) in
    let done : Does n at command r (seen T) (seen (replay t.history)) =
    subst (λ X. Does n at command r (seen T) (seen X)) (sym after) (does T (tables_left T (transaction T e)) n at command r small valid (is_moment T at valid current time) later can way) in
    record {
      log = log-more before s t e within appends.history ∙ ap (λ event. event ∷ log_of before s) (event-is T (tables_left T (transaction T e)) at n command r small way (moment_is T at (is_moment T at valid current time) later));
      room = omega (arith, log-length before s, counted appends.was_open, has_place (trigger_entry.size e) s.gate s.payloads appends.room);
      last = done.others.last;
      effect = done.effect;
      others_free = done.others.others_free;
      others_members = done.others.others_members;
      states = refl;
    }
