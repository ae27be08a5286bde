-- What a transaction of the rows is to their kind of store.
use Rattle.std.proofs.Common.{◌≡◌, ℕ, refl, sym, ap, subst}
use Rattle.std.specs.Prelude.{Result, Option, Some, None, Ok, Err, IsOk}
use Rattle.qz_codec.specs.Reading.{Answers}
use Rattle.qz_codec.specs.declared.errors.ReadError.{ReadError}
use Rattle.qz_codec.specs.declared.errors.ReadError.TheVariants as errors
use Rattle.qz_types.specs.Entries.{StateEntryData}
use Rattle.qz_types.specs.declared.replies.Refusal.{Refusal}
use Rattle.qz_stores.specs.Kinds.{IsRefusalOf as IsRefusalOfKind}
use Rattle.qz_checkin.specs.Rows.{StateTables, StateOutcome, accepted, refused, IsAccepted, state_transaction}
use Rattle.qz_checkin.specs.Valid.{IsRefusalOf}
use Rattle.qz_checkin.specs.History.{rows_left}
use Rattle.qz_checkin.specs.Entries.{answer_of}
use Rattle.qz_checkin.specs.Kinds.{state_kind}

pub passes : (o : StateOutcome) → IsAccepted o → IsOk (answer_of o)
passes (accepted T) is = refl
passes (refused x) is = absurd is

pub accepted_by : (o : StateOutcome) → IsOk (answer_of o) → IsAccepted o
accepted_by (accepted T) is = tt
accepted_by (refused x) is = absurd cc

pub answered : (o : StateOutcome) (T : StateTables) → o ≡ accepted T → answer_of o ≡ Ok tt
answered o T is = ap answer_of is

pub passes_as : (o : StateOutcome) (T : StateTables) → o ≡ accepted T → IsOk (answer_of o)
passes_as o T is = subst (λ (x : StateOutcome). IsOk (answer_of x)) (sym is) refl

pub left_as : (T U : StateTables) (o : StateOutcome) → o ≡ accepted U → U ≡ rows_left T o
left_as T U o is = sym (ap (rows_left T) is)

pub refusal_as : (T : StateTables) (e : StateEntryData) (o : Option Refusal) → IsRefusalOf T e o → IsRefusalOfKind state_kind T e o
refusal_as T e None is = passes (state_transaction T e) is
refusal_as T e (Some x) is = ap answer_of is

-- bytes that are no record aren't read as an entry
pub not_read : (x : ReadError) (at : ℕ) (e : StateEntryData) → x ≡ errors.BadRecord at → Answers (Err x) (Ok e) → ⊥
not_read x at e x_is answers =
    let no : ◌≡◌ {A = Result StateEntryData ℕ} (Ok e) (Err at) = subst (λ (y : ReadError). Answers (Err y) (Ok e)) x_is answers in
    absurd cc

-- the entry that a payload is the record of, and it alone, was refused
pub refused_unfit : (T : StateTables) (e f : StateEntryData) → ◌≡◌ {A = Result StateEntryData ℕ} (Ok e) (Ok f) → (IsAccepted (state_transaction T f) → ⊥) → IsOk (answer_of (state_transaction T e)) → ⊥
refused_unfit T e f same isnt =
    let one : e ≡ f = cc in
    λ is. isnt (subst (λ (x : StateEntryData). IsAccepted (state_transaction T x)) one (accepted_by (state_transaction T e) is))
