-- The state store is a lawful kind of store.
use Rattle.std.proofs.Common.{◌≡◌, List, [], ◌∷◌, ◌++◌, refl, arith}
use Rattle.std.specs.Prelude.{IsOk}
use Rattle.qz_types.specs.Entries.{StateEntryData}
use Rattle.qz_codec.proofs.StateRecords.{state_record_unique}
use Rattle.qz_stores.specs.Kinds.{IsLawful}
use Rattle.qz_checkin.specs.Rows.{StateTables, StateOutcome, accepted, refused, IsAccepted, state_transaction}
use Rattle.qz_checkin.specs.Valid.{StatesValid}
use Rattle.qz_checkin.specs.History.{rows_left, IsLegalFrom, replay_from}
use Rattle.qz_checkin.specs.Entries.{answer_of}
use Rattle.qz_checkin.specs.Kinds.{state_kind}
use Rattle.qz_checkin.specs.Edits.{kept, valid_new}

replay_more : (T : StateTables) (es : List StateEntryData) (e : StateEntryData) → replay_from T (es ++ e ∷ []) ≡ rows_left (replay_from T es) (state_transaction (replay_from T es) e)
replay_more T [] e = refl
replay_more T (x ∷ es) e = replay_more (rows_left T (state_transaction T x)) es e

accepted_by : (o : StateOutcome) → IsOk (answer_of o) → IsAccepted o
accepted_by (accepted U) is = tt
accepted_by (refused x) is = absurd cc

ok_by : (o : StateOutcome) → IsAccepted o → IsOk (answer_of o)
ok_by (accepted U) is = refl
ok_by (refused x) is = absurd is

legal_more : (T : StateTables) (es : List StateEntryData) (e : StateEntryData) → IsLegalFrom T es → IsOk (answer_of (state_transaction (replay_from T es) e)) → IsLegalFrom T (es ++ e ∷ [])
legal_more T [] e legal is = (accepted_by (state_transaction T e) is, tt)
legal_more T (x ∷ es) e legal is = (legal.0, legal_more (rows_left T (state_transaction T x)) es e legal.1 is)

legal_at : (T : StateTables) (es : List StateEntryData) (e : StateEntryData) (fs : List StateEntryData) → IsLegalFrom T (es ++ e ∷ fs) → IsOk (answer_of (state_transaction (replay_from T es) e))
legal_at T [] e fs legal = ok_by (state_transaction T e) legal.0
legal_at T (x ∷ es) e fs legal = legal_at (rows_left T (state_transaction T x)) es e fs legal.1

left_valid : (T : StateTables) (e : StateEntryData) (o : StateOutcome) → state_transaction T e ≡ o → StatesValid T → StatesValid (rows_left T o)
left_valid T e (accepted U) is valid = kept T U e is valid
left_valid T e (refused x) is valid = valid

-- a transaction leaves valid rows
pub stays_valid : (T : StateTables) (e : StateEntryData) → StatesValid T → StatesValid (rows_left T (state_transaction T e))
stays_valid T e valid = left_valid T e (state_transaction T e) refl valid

all_stay_valid : (T : StateTables) (es : List StateEntryData) → StatesValid T → StatesValid (replay_from T es)
all_stay_valid T [] valid = valid
all_stay_valid T (e ∷ es) valid = all_stay_valid (rows_left T (state_transaction T e)) es (stays_valid T e valid)

pub state_lawful : IsLawful state_kind
state_lawful = record {
  numbered = omega arith;
  records_once = state_record_unique;
  records_apart = λ bytes e is. refl;
  headed = λ payloads T before entries begun. absurd begun;
  snapshots_once = λ payloads T U before other entries others begun again. absurd begun;
  snapshot_more = λ payloads more T before entries begun. absurd begun;
  none_made = λ none payloads T before entries begun. begun;
  replay_none = λ T. refl;
  replay_more = replay_more;
  legal_none = λ T. tt;
  legal_more = legal_more;
  legal_at = legal_at;
  valid_new = λ version known. valid_new;
  valid_left = λ T es valid recorded legal. ∣ all_stay_valid T es valid ∣₁;
  whole = λ h. refl;
  base_count_is = λ n T es. refl;
  base_is = λ n T es. refl;
  entries_are = λ n T es. refl;
}
