-- The trigger store is a lawful kind of store.
use Rattle.std.proofs.Common.{◌≡◌, ℕ, List, [], ◌∷◌, ◌++◌, true, false, refl, arith}
use Rattle.std.specs.Prelude.{IsOk}
use Rattle.qz_types.specs.Entries.{EntryData}
use Rattle.qz_types.specs.Outcomes.{Outcome, accepted, refused, IsAccepted}
use Rattle.qz_types.specs.Tables.{SchedulerTables}
use Rattle.qz_codec.proofs.EntryFormats.{entry_record_unique}
use Rattle.qz_model.specs.History.{tables_left, IsLegalFrom, replay_from}
use Rattle.qz_model.specs.Transaction.{transaction}
use Rattle.qz_model.proofs.Histories.{replay_from-append, IsLegalFrom-entry}
use Rattle.qz_model.proofs.Kept.{valid-empty}
use Rattle.qz_journal.specs.Slots.{IsHead, number_at}
use Rattle.qz_snapshot.proofs.Kind.{headed, snapshot_more}
use Rattle.qz_snapshot.proofs.Unique.{snapshot_once}
use Rattle.qz_stores.specs.Kinds.{IsLawful}
use Rattle.qz_trigger_store.specs.Entries.{answer_of}
use Rattle.qz_trigger_store.specs.Kinds.{BeginSnapshot, trigger_kind}
use Rattle.qz_trigger_store.specs.Proper.{record_apart, valid_after}

accepted_by : (o : Outcome) → IsOk (answer_of o) → IsAccepted o
accepted_by (accepted T r) is = tt
accepted_by (refused x) is = absurd cc

passes : (o : Outcome) → IsAccepted o → IsOk (answer_of o)
passes (accepted T r) is = refl
passes (refused x) is = absurd is

legal_at : (T : SchedulerTables) (es : List EntryData) (e : EntryData) (fs : List EntryData) → IsLegalFrom T (es ++ e ∷ fs) → IsOk (answer_of (transaction (replay_from T es) e))
legal_at T [] e fs legal = passes (transaction T e) legal.0
legal_at T (x ∷ es) e fs legal = legal_at (tables_left T (transaction T x)) es e fs legal.1

head_there : (payloads : List (List ℕ)) (T : SchedulerTables) (before entries : ℕ) → BeginSnapshot payloads T before entries
    → (head : List ℕ) × (more : List (List ℕ)) × (payloads ≡ head ∷ more) × IsHead head × (number_at 1 head ≡ before)
head_there payloads T before entries begin = headed payloads T before entries begin.0 begin.1

begins_more : (payloads more : List (List ℕ)) (T : SchedulerTables) (before entries : ℕ) → BeginSnapshot payloads T before entries → BeginSnapshot (payloads ++ more) T before entries
begins_more payloads more T before entries begin = (begin.0 ++ more, snapshot_more payloads more begin.0 T before entries begin.1)

once : (payloads : List (List ℕ)) (T U : SchedulerTables) (before other entries others : ℕ) → BeginSnapshot payloads T before entries → BeginSnapshot payloads U other others → (T ≡ U) × (entries ≡ others)
once payloads T U before other entries others one two =
    let same = snapshot_once payloads one.0 two.0 T U before other entries others one.1 two.1 in
    (same.0, same.2)

has_snapshots : true ≡ false → (payloads : List (List ℕ)) (T : SchedulerTables) (before entries : ℕ) → BeginSnapshot payloads T before entries → ⊥
has_snapshots is payloads T before entries begin = absurd cc

pub trigger_lawful : IsLawful trigger_kind
trigger_lawful = record {
  numbered = omega arith;
  records_once = entry_record_unique;
  records_apart = record_apart;
  headed = head_there;
  snapshots_once = once;
  snapshot_more = begins_more;
  none_made = has_snapshots;
  replay_none = λ T. refl;
  replay_more = λ T es e. replay_from-append T es (e ∷ []);
  legal_none = λ T. tt;
  legal_more = λ T es e legal is. IsLegalFrom-entry T es e legal (accepted_by (transaction (replay_from T es) e) is);
  legal_at = legal_at;
  valid_new = λ version known. ∣ valid-empty version ∣₁;
  valid_left = λ T es valid recorded legal. ∣ valid_after T es valid recorded legal ∣₁;
  whole = λ h. refl;
  base_count_is = λ n T es. refl;
  base_is = λ n T es. refl;
  entries_are = λ n T es. refl;
}
