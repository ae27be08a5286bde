-- What an error before any device call says of a store.
use Rattle.std.proofs.Common.{◌≡◌, length, true, refl, subst, sym, arith}
use Rattle.std.specs.Prelude.{Err, Option, Some, None, IsOk, MatchOption}
use Rattle.std.specs.declared.result.Result.{Result}
use Rattle.qz_types.specs.declared.replies.Refusal.{Refusal}
use Rattle.qz_types.specs.Errors.{submit_error}
use Rattle.qz_types.specs.declared.errors.StepRefused.{StepRefused}
use Rattle.qz_types.specs.declared.errors.StepRefused.TheVariants as step
use Rattle.qz_types.specs.declared.errors.SubmitError.{SubmitError}
use Rattle.qz_types.specs.declared.errors.SubmitError.TheVariants as submit
use Rattle.qz_stores.specs.Stores.{StoreState, IsUnwritten, Same, Submits}
use Rattle.qz_stores.specs.Kinds.{StoreKind, IsAccepted, IsRefusalOf, IsErrorOf, unless_refused, submitted, replay, entry_kind}
use Rattle.qz_stores.proofs.Committing.{current_answer, current_passes}

pub same_itself : {H E : Type 0} (s : StoreState H E) → Same s s
same_itself s = record { history = refl; gate = refl; payloads = refl; is_open = refl; undecided = refl; later = omega arith }

module _ {H S E R : Type 0} (k : StoreKind H S E R) where
  error_at : (T : S) (s : StoreState H E) (e : E) (x : StepRefused) → T ≡ replay k s.history → s.is_open ≡ true → k.version_refusal T e ≡ None → IsErrorOf k T e x → Submits (entry_kind k) e (Err (submit_error x)) s s
  error_at T s e (step.Refused r) state is_open none is = record { was_open = is_open; refused_as = current_answer k T (replay k s.history) e (Err r) state none is; same = same_itself s }
  error_at T s e step.NoMemory state is_open none is = record { was_open = is_open; passes = current_passes k T (replay k s.history) e state none is; same = same_itself s }

  -- the state refuses it, or there is no memory for it
  pub error_is : (T : S) (s : StoreState H E) (e : E) (x : StepRefused) (y : SubmitError) → T ≡ replay k s.history → s.is_open ≡ true → k.version_refusal T e ≡ None → IsErrorOf k T e x → y ≡ submit_error x
      → Submits (entry_kind k) e (Err y) s s
  error_is T s e x y state is_open none is error = subst (λ (z : SubmitError). Submits (entry_kind k) e (Err z) s s) (sym error) (error_at T s e x state is_open none is)

  -- the version of the store refuses it
  pub version_refuses : (T : S) (s : StoreState H E) (e : E) (r : Refusal) → T ≡ replay k s.history → s.is_open ≡ true → Some r ≡ k.version_refusal T e → Submits (entry_kind k) e (Err (submit.Refused r)) s s
  version_refuses T s e r state is_open is = record {
    was_open = is_open;
    refused_as = subst (λ (U : S). submitted k U e ≡ Err r) state (subst (λ (x : Option Refusal). unless_refused x (k.answer T e) ≡ Err r) is refl);
    same = same_itself s;
  }

  -- what refuses an entry that is submitted, if anything does
  pub decided_by : (x y : Option Refusal) (a : Result R Refusal) → x ≡ None → MatchOption y (IsOk a) (λ r. a ≡ Err r) → MatchOption y (IsOk (unless_refused x a)) (λ r. unless_refused x a ≡ Err r)
  decided_by x y a none is = subst (λ (z : Option Refusal). MatchOption y (IsOk (unless_refused z a)) (λ r. unless_refused z a ≡ Err r)) (sym none) is

  pub transaction_decides : (T : S) (e : E) (y : Option Refusal) → k.version_refusal T e ≡ None → IsRefusalOf k T e y → MatchOption y (IsOk (submitted k T e)) (λ r. submitted k T e ≡ Err r)
  transaction_decides T e None none is = decided_by (k.version_refusal T e) None (k.answer T e) none is
  transaction_decides T e (Some r) none is = decided_by (k.version_refusal T e) (Some r) (k.answer T e) none is

  pub version_decides : (T : S) (e : E) (r : Refusal) → Some r ≡ k.version_refusal T e → submitted k T e ≡ Err r
  version_decides T e r is = subst (λ (x : Option Refusal). unless_refused x (k.answer T e) ≡ Err r) is refl

  -- its record has no room, or there is no memory for it
  pub unwritten_is : (T : S) (s : StoreState H E) (e : E) (y : SubmitError) → T ≡ replay k s.history → s.is_open ≡ true → k.version_refusal T e ≡ None → IsAccepted k T e → IsUnwritten (length (k.record_of e)) s y
      → Submits (entry_kind k) e (Err y) s s
  unwritten_is T s e (submit.JournalFull need room) state is_open none is unwritten =
      record { was_open = is_open; passes = current_passes k T (replay k s.history) e state none is; full = unwritten; same = same_itself s }
  unwritten_is T s e submit.NoMemory state is_open none is unwritten = record { was_open = is_open; passes = current_passes k T (replay k s.history) e state none is; same = same_itself s }
  unwritten_is T s e (submit.Refused x) state is_open none is unwritten = absurd unwritten
  unwritten_is T s e (submit.Closed at) state is_open none is unwritten = absurd unwritten
  unwritten_is T s e submit.Fault state is_open none is unwritten = absurd unwritten
