-- What one transaction comes to for a call.
use Rattle.std.proofs.Common.{◌≡◌, inl, inr, true, ◌∙◌, refl}
use Rattle.std.specs.Prelude.{⊤, Option, Some, None, Result, Ok, Err, IfErr, OnOk}
use Rattle.qz_types.specs.declared.errors.SubmitError.{SubmitError}
use Rattle.qz_types.specs.declared.errors.SubmitError.TheVariants as submit
use Rattle.qz_types.specs.declared.replies.Refusal.{Refusal}
use Rattle.qz_types.specs.declared.replies.Refusal.TheVariants as refusal
use Rattle.qz_run.specs.declared.commands.Declined.{Declined}
use Rattle.qz_run.specs.declared.commands.Declined.TheVariants as why
use Rattle.qz_rounds.specs.Declining.{declined_of, stopped_by, goes_on_after}
use Rattle.qz_stores.specs.Stores.{EntryKind, StoreState, Same, Submits}
use Rattle.qz_serve.specs.Declining.{AtLimit, Declines}
use Rattle.qz_serve.specs.Once.{Once}
use Rattle.qz_serve.proofs.Growing.{declines}

on_ok : {A : Type 0} (r : Result ⊤ Declined) → A → OnOk r A
on_ok (Ok _) a = a
on_ok (Err why) a = tt

-- a refusal is no fault
no_fault : (x : Refusal) → declined_of (submit.Refused x) ≡ Some why.Fault → ⊥
no_fault (refusal.TooMany count) is = cc
no_fault refusal.RowsFull is = cc
no_fault other is = cc

by_fault : (o : Option Declined) → stopped_by o ≡ Err why.Fault → o ≡ Some why.Fault
by_fault None is = absurd (cc)
by_fault (Some w) is = cc

if_stopped : (P : Declined → Type 0) (o : Option Declined) → ((w : Declined) → o ≡ Some w → P w) → IfErr (stopped_by o) P
if_stopped P None f = tt
if_stopped P (Some w) f = f w refl

module _ {H E R : Type 0} (kind : EntryKind H E R) (e : E) where
  stays : (s t : StoreState H E) (r : Result ⊤ Declined) → s.is_open ≡ true → (r ≡ Err why.Fault → ⊥) → Same s t → IfErr r (AtLimit (Declines kind s e)) → Once kind e r s t
  stays s t r was_open none same declined = record {
    adds = inr (record { history = same.history; gate = same.gate; payloads = same.payloads });
    stays = on_ok r (same.is_open ∙ was_open);
    fault = λ is. absurd (none is);
    declined = declined;
  }

  pub once : (r : Result R SubmitError) (s t : StoreState H E) → Submits kind e r s t → Once kind e (goes_on_after r) s t
  once (Ok reply) s t done = record { adds = inl (record { history = done.history; gate = done.gate; payloads = done.payloads }); stays = done.is_open; fault = λ is. absurd (cc); declined = tt }
  once (Err (submit.Closed at)) s t done = record {
    adds = inr (record { history = done.0.same.history; gate = done.0.same.gate; payloads = done.0.same.payloads });
    stays = tt;
    fault = λ is. done.0.same.is_open ∙ done.0.was_closed;
    declined = tt;
  }
  once (Err (submit.Refused x)) s t done =
      stays s t (stopped_by (declined_of (submit.Refused x))) done.was_open (λ is. no_fault x (by_fault (declined_of (submit.Refused x)) is)) done.same
      (if_stopped (AtLimit (Declines kind s e)) (declined_of (submit.Refused x)) (λ w is. declines kind s e (submit.Refused x) w done.refused_as is))
  once (Err (submit.JournalFull need room)) s t done = stays s t (Err (why.JournalFull need room)) done.was_open (λ is. cc) done.same (done.passes, done.full)
  once (Err submit.NoMemory) s t done = stays s t (Err why.NoMemory) done.was_open (λ is. cc) done.same tt
  once (Err submit.Fault) s t done = record { adds = inr (record { history = done.history; gate = done.gate; payloads = done.payloads }); stays = tt; fault = λ is. done.is_open; declined = tt }
