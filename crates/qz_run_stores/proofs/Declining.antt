-- What a store's error says to a run.
use Rattle.std.proofs.Common.{◌≡◌, false, ℕ, ℤ, ◌≤ℤ◌, length, sym, ap, ◌∙◌, subst}
use Rattle.std.specs.Prelude.{Err, IsOk}
use Rattle.qz_types.specs.Entries.{EntryData}
use Rattle.qz_types.specs.Outcomes.{Outcome, accepted, refused}
use Rattle.qz_types.specs.declared.errors.SubmitError.{SubmitError}
use Rattle.qz_types.specs.declared.errors.SubmitError.TheVariants as submit
use Rattle.qz_types.specs.declared.replies.Refusal.{Refusal}
use Rattle.qz_codec.specs.Layout.{record_of}
use Rattle.qz_model.specs.History.{History, replay}
use Rattle.qz_model.specs.Invariant.{TablesValid}
use Rattle.qz_stores.specs.Stores.{EntryKind, StoreState, Same, LacksRoom, Submits}
use Rattle.qz_trigger_store.specs.Entries.{TriggerState, answer_of, is_old, trigger_entry}
use Rattle.qz_trigger_store.proofs.Horizons.{answered_by_transaction}
use Rattle.qz_run.specs.declared.commands.NodeCommand.{NodeCommand}
use Rattle.qz_run.specs.Stores.{IsTime, CanAsk}
use Rattle.qz_seen.specs.Asking.{entry_of}
use Rattle.qz_seen.specs.Effects.{IsTooMany}
use Rattle.qz_seen.specs.Seen.{seen}
use Rattle.qz_seen.proofs.Effects.{refuses}
use Rattle.qz_run_stores.specs.Declining.{DeclinesEntry, IsDeclinable, declined_of}
use Rattle.qz_run_stores.proofs.Times.{is_moment}

-- an error leaves the history as it was
pub same_history : {H E R : Type 0} (kind : EntryKind H E R) (e : E) (x : SubmitError) (s t : StoreState H E) → Submits kind e (Err x) s t → t.history ≡ s.history
same_history kind e (submit.Closed at) s t is = is.0.same.history
same_history kind e (submit.Refused r) s t is = is.same.history
same_history kind e (submit.JournalFull need room) s t is = is.same.history
same_history kind e submit.NoMemory s t is = is.same.history
same_history kind e submit.Fault s t is = is.history

pub lacks : {H E : Type 0} (size need room : ℕ) (s t : StoreState H E) → Same s t → LacksRoom size need room s → LacksRoom size need room t
lacks size need room s t same is = rw (same.gate, same.payloads) is

-- it would be accepted afterwards, too
pub still_passes : {H E R : Type 0} (kind : EntryKind H E R) (e : E) (s t : StoreState H E) → Same s t → IsOk (kind.answer s.history e) → IsOk (kind.answer t.history e)
still_passes kind e s t same passes = subst (λ h. IsOk (kind.answer h e)) (sym same.history) passes

refused_by : (o : Outcome) (r : Refusal) → answer_of o ≡ Err r → o ≡ refused r
refused_by (accepted next x) r is = absurd (cc)
refused_by (refused x) r is = let same : x ≡ r = cc in ap refused same

module _ (e : EntryData) (s t : TriggerState) (many : (r : Refusal) → trigger_entry.answer s.history e ≡ Err r → IsTooMany r) where
  declinable : (x : SubmitError) → Submits trigger_entry e (Err x) s t → IsDeclinable x
  declinable (submit.Closed at) is = tt
  declinable (submit.Refused r) is = subst (λ r. IsDeclinable (submit.Refused r)) (sym (many r is.refused_as).refusal) tt
  declinable (submit.JournalFull need room) is = tt
  declinable submit.NoMemory is = tt
  declinable submit.Fault is = tt

  declines : (x : SubmitError) → Submits trigger_entry e (Err x) s t → DeclinesEntry t e (declined_of x)
  declines (submit.Closed at) is = is.0.same.is_open ∙ is.0.was_closed
  declines (submit.Refused r) is =
      let limit : IsTooMany r = many r is.refused_as in
      subst (λ r. DeclinesEntry t e (declined_of (submit.Refused r))) (sym limit.refusal)
      (ap (λ h. trigger_entry.answer h e) is.same.history ∙ is.refused_as ∙ ap Err limit.refusal)
  declines (submit.JournalFull need room) is = (still_passes trigger_entry e s t is.same is.passes, lacks (length (record_of e)) need room s t is.same is.full)
  declines submit.NoMemory is = tt
  declines submit.Fault is = is.is_open

-- why the trigger store declines what a node may ask
module _ (s t : TriggerState) (at : ℤ) (n : ℕ) (command : NodeCommand) (current : is_old (replay s.history) ≡ false) (valid : TablesValid (replay s.history)) (time : IsTime at) (later : (replay s.history).last_moment ≤ℤ at)
    (can : CanAsk n at command (seen (replay s.history))) where
  limits : (r : Refusal) → trigger_entry.answer s.history (entry_of (replay s.history) at n command) ≡ Err r → IsTooMany r
  limits r is = refuses (replay s.history) n at command r valid (is_moment (replay s.history) at valid current time) later can (refused_by _ r (sym (answered_by_transaction (replay s.history) (entry_of (replay s.history) at n command) _ current) ∙ is))

  pub entry_declinable : (x : SubmitError) → Submits trigger_entry (entry_of (replay s.history) at n command) (Err x) s t → IsDeclinable x
  entry_declinable x is = declinable (entry_of (replay s.history) at n command) s t limits x is

  pub entry_declines : (x : SubmitError) → Submits trigger_entry (entry_of (replay s.history) at n command) (Err x) s t → DeclinesEntry t (entry_of (replay t.history) at n command) (declined_of x)
  entry_declines x is =
      subst (λ (h : History). DeclinesEntry t (entry_of (replay h) at n command) (declined_of x)) (sym (same_history trigger_entry (entry_of (replay s.history) at n command) x s t is))
      (declines (entry_of (replay s.history) at n command) s t limits x is)
