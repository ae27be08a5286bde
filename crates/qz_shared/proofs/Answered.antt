-- What a call by a seat says, in words of what the seat has then seen.
use Rattle.std.proofs.Common.{◌≡◌, ℕ, List, false, sym, ap, ◌∙◌, subst}
use Rattle.std.specs.Prelude.{Err, IsOk, not}
use Rattle.qz_types.specs.declared.errors.SubmitError.TheVariants as submit
use Rattle.qz_types.specs.declared.replies.Refusal.{Refusal}
use Rattle.qz_journal.specs.Commits.{IsFull}
use Rattle.qz_stores.specs.Stores.{EntryKind, StoreState}
use Rattle.qz_shared.specs.Since.{history_at, gate_at, payloads_at}
use Rattle.qz_shared.specs.Calls.{Known, Called}

module _ {H E R : Type 0} (kind : EntryKind H E R) (listed : H → List E) (opened : StoreState H E) (e : E) where
  pub full_at : (need room : ℕ) (s t : Known E) → Called {R = R} kind listed opened e (Err (submit.JournalFull need room)) s t
      → (t.shut ≡ false) × IsOk (kind.answer (history_at kind listed opened t.seen) e)
      × IsFull (gate_at kind listed opened t.seen) (payloads_at listed opened t.seen) (kind.size e) need room
  full_at need room s t c =
      let over = c.submits in
      let seen : listed c.before.history ≡ t.seen = sym (c.seen_is ∙ ap listed over.same.history) in
      let whole : c.before.history ≡ history_at kind listed opened t.seen = c.since.history ∙ ap (history_at kind listed opened) seen in
      let gate : c.before.gate ≡ gate_at kind listed opened t.seen = c.since.gate ∙ ap (gate_at kind listed opened) seen in
      let payloads : c.before.payloads ≡ payloads_at listed opened t.seen = c.since.payloads ∙ ap (payloads_at listed opened) seen in (
        c.shut_is ∙ ap not (over.same.is_open ∙ over.was_open),
        subst (λ h. IsOk (kind.answer h e)) whole over.passes,
        subst (λ g. IsFull g (payloads_at listed opened t.seen) (kind.size e) need room) gate (subst (λ p. IsFull c.before.gate p (kind.size e) need room) payloads over.full),
      )

  pub refused_at : (refusal : Refusal) (s t : Known E) → Called {R = R} kind listed opened e (Err (submit.Refused refusal)) s t → (t.shut ≡ false) × (kind.answer (history_at kind listed opened t.seen) e ≡ Err refusal)
  refused_at refusal s t c =
      let no = c.submits in
      let seen : listed c.before.history ≡ t.seen = sym (c.seen_is ∙ ap listed no.same.history) in
      let whole : c.before.history ≡ history_at kind listed opened t.seen = c.since.history ∙ ap (history_at kind listed opened) seen in
      (c.shut_is ∙ ap not (no.same.is_open ∙ no.was_open), ap (λ h. kind.answer h e) (sym whole) ∙ no.refused_as)
