-- What an error before any device call says of the store.
use Rattle.std.proofs.Common.{◌≡◌, ℕ, ℤ, List, true, false, refl, sym, ◌∙◌, ap, subst, arith}
use Rattle.std.specs.Prelude.{⊤, IsOk, Ok, Err, Option, Some, None}
use Rattle.qz_types.specs.Entries.{StateEntryData}
use Rattle.qz_types.specs.declared.errors.SubmitError.{SubmitError}
use Rattle.qz_types.specs.declared.errors.SubmitError.TheVariants as submit
use Rattle.qz_types.specs.declared.replies.Refusal.{Refusal}
use Rattle.qz_types.specs.declared.states.StateCommand.TheVariants.{CheckIn, Forget}
use Rattle.qz_stores.specs.Stores.{Same, Submits}
use Rattle.qz_checkin.specs.Rows.{StateTables, state_of, StateOutcome, accepted, refused, IsAccepted, check_in_refusal, forget_refusal, state_transaction}
use Rattle.qz_checkin.specs.Valid.{IsRefusalOf}
use Rattle.qz_checkin.specs.History.{replay_states}
use Rattle.qz_checkin.proofs.RowEdits.{check_in_refused, forget_refused}
use Rattle.qz_checkin.specs.Entries.{StatesState, answer_of, of_states, IsDecision}

pub same_itself : (s : StatesState) → Same s s
same_itself s = record { history = refl; gate = refl; payloads = refl; is_open = refl; undecided = refl; later = omega arith }

pub passes : (o : StateOutcome) → IsAccepted o → IsOk (answer_of o)
passes (accepted T) is = refl
passes (refused x) is = absurd is

pub passes_at : (T : StateTables) (s : StatesState) (e : StateEntryData) → T ≡ replay_states s.history → IsAccepted (state_transaction T e) → IsOk (of_states.answer s.history e)
passes_at T s e tables is = subst (λ (U : StateTables). IsOk (answer_of (state_transaction U e))) tables (passes _ is)

-- the rows refuse it
pub refused_is : (T : StateTables) (s : StatesState) (e : StateEntryData) (x : Refusal) → T ≡ replay_states s.history → s.is_open ≡ true → state_transaction T e ≡ refused x → Submits of_states e (Err (submit.Refused x)) s s
refused_is T s e x tables is_open is = record { was_open = is_open; refused_as = ap answer_of (ap (λ (U : StateTables). state_transaction U e) (sym tables) ∙ is); same = same_itself s }

-- of a closed store
pub closed_is : (s : StatesState) (e : StateEntryData) (at : ℕ) → s.is_open ≡ false → at ≡ s.gate → Submits of_states e (Err (submit.Closed at)) s s
closed_is s e at shut at_is = (record { was_closed = shut; same = same_itself s }, at_is)

-- An error that was decided without memory is that of the entry.
pub decided_is : (T : StateTables) (s : StatesState) (e : StateEntryData) (refusal : Option Refusal) (y : SubmitError) → T ≡ replay_states s.history → IsRefusalOf T e refusal → IsDecision s refusal (Err y) → Submits of_states e (Err y) s s
decided_is T s e None (submit.Closed at) tables why is = closed_is s e at is.0 is.1
decided_is T s e (Some x) (submit.Closed at) tables why is = closed_is s e at is.0 is.1
decided_is T s e None (submit.Refused z) tables why is = absurd is
decided_is T s e (Some x) (submit.Refused z) tables why is = refused_is T s e z tables is.0 (why ∙ ap refused (sym is.1))
decided_is T s e None (submit.JournalFull need room) tables why is = absurd is
decided_is T s e (Some x) (submit.JournalFull need room) tables why is = absurd is
decided_is T s e None submit.NoMemory tables why is = absurd is
decided_is T s e (Some x) submit.NoMemory tables why is = absurd is
decided_is T s e None submit.Fault tables why is = absurd is
decided_is T s e (Some x) submit.Fault tables why is = absurd is

passes_by : (T : StateTables) (s : StatesState) (e : StateEntryData) (refusal : Option Refusal) (u : ⊤) → T ≡ replay_states s.history → IsRefusalOf (replay_states s.history) e refusal → IsDecision s refusal (Ok u) → (s.is_open ≡ true) × IsAccepted (state_transaction T e)
passes_by T s e None u tables why is = (is, subst (λ (U : StateTables). IsAccepted (state_transaction U e)) (sym tables) why)
passes_by T s e (Some x) u tables why is = absurd is

-- A check-in that was let through is accepted.
pub check_in_passes : (T : StateTables) (s : StatesState) (e : StateEntryData) (node : List ℕ) (interval : ℤ) (u : ⊤) → T ≡ replay_states s.history → e.command ≡ CheckIn node interval
    → IsDecision s (check_in_refusal (replay_states s.history) (state_of node (replay_states s.history).rows)) (Ok u) → (s.is_open ≡ true) × IsAccepted (state_transaction T e)
check_in_passes T s e node interval u tables is = passes_by T s e (check_in_refusal (replay_states s.history) (state_of node (replay_states s.history).rows)) u tables (check_in_refused (replay_states s.history) e node interval _ is refl)

-- So is a removal.
pub forget_passes : (T : StateTables) (s : StatesState) (e : StateEntryData) (node : List ℕ) (last : ℤ) (u : ⊤) → T ≡ replay_states s.history → e.command ≡ Forget node last
    → IsDecision s (forget_refusal (state_of node (replay_states s.history).rows) last) (Ok u) → (s.is_open ≡ true) × IsAccepted (state_transaction T e)
forget_passes T s e node last u tables is = passes_by T s e (forget_refusal (state_of node (replay_states s.history).rows) last) u tables (forget_refused (replay_states s.history) e node last _ is refl)

-- there is no memory for an entry that is accepted
pub starves : (T : StateTables) (s : StatesState) (e : StateEntryData) → T ≡ replay_states s.history → (s.is_open ≡ true) × IsAccepted (state_transaction T e) → Submits of_states e (Err submit.NoMemory) s s
starves T s e tables is = record { was_open = is.0; passes = passes_at T s e tables is.1; same = same_itself s }
