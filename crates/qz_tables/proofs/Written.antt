-- A slot that is written, as an edit of the slots.
use Rattle.std.specs.List.{slice_get}
use Rattle.std.proofs.Common.{◌≡◌, ℕ, zero, suc, ◌<◌, length, arith, List, [], ◌∷◌, get_or, refl, sym, ap, subst, ◌∙◌, Option, Some, None, inl, inr}
use Rattle.std.specs.Prelude.{IsSome, option_map}
use Rattle.std.proofs.lemmas.Bool.{cases_eq}
use Rattle.std.specs.Prelude.{IfSome, true}
use Rattle.std.specs.Ordering.{is_eq}
use Rattle.qz_types.specs.Rows.{TriggerData}
use Rattle.qz_types.specs.Words.{key_cmp}
use Rattle.qz_queue.specs.Order.{key_of}
use Rattle.qz_tables.specs.Changes.{trigger_edited}
use Rattle.qz_tables.specs.DueKeys.{DueData, IsInStep, IsInStepBut}
use Rattle.qz_tables.specs.declared.edits.TriggerEdit.{TriggerEdit}
use Rattle.qz_tables.specs.declared.edits.TriggerEdit.TheVariants.{State, Fire, Move, Years}
use Rattle.qz_tables.proofs.Keys.{key_itself}
use Rattle.qz_tables.proofs.Steps.{but_written, step_closed}
use Rattle.qz_tables.specs.Slots.{AreEdited, IsWritten}

module _ (old new : List (Option TriggerData)) (slot : ℕ) where
  pub edited_written : (f : TriggerData → TriggerData) → IsWritten old new slot (option_map f (get_or old slot None)) → AreEdited (λ o n. n ≡ option_map f o) old new
  edited_written f w = λ s. elim (cases_eq s slot) [
    | inl same ↦ inr (ap (λ t. get_or new t None) same ∙ w.changed ∙ ap (λ t. option_map f (get_or old t None)) (sym same))
    | inr differs ↦ inl (w.others s differs)
  ]

  pub replaced_written : (a b : TriggerData) → get_or old slot None ≡ Some a → IsWritten old new slot (Some b) → AreEdited (λ o n. (o ≡ Some a) × (n ≡ Some b)) old new
  replaced_written a b was w = λ s. elim (cases_eq s slot) [
    | inl same ↦ inr (ap (λ t. get_or old t None) same ∙ was, ap (λ t. get_or new t None) same ∙ w.changed)
    | inr differs ↦ inl (w.others s differs)
  ]

-- nothing was written
pub edited_same : (f : Option TriggerData → Option TriggerData → Type 0) (old : List (Option TriggerData)) → AreEdited f old old
edited_same f old = λ s. inl refl

pub some_is : (o : Option TriggerData) → IsSome o → (r : TriggerData) × (o ≡ Some r)
some_is None h = absurd cc
some_is (Some r) h = (r, refl)

pub written_some : (old new : List (Option TriggerData)) (slot : ℕ) (r : TriggerData) → IsWritten old new slot (Some r) → IsSome (get_or new slot None)
written_some old new slot r w = subst (λ o. IsSome o) (sym w.changed) refl

pub some_mapped : (f : TriggerData → TriggerData) (o : Option TriggerData) → IsSome o → IsSome (option_map f o)
some_mapped f None h = absurd cc
some_mapped f (Some r) h = refl

-- an edit keeps the key
pub edit_keeps : (e : TriggerEdit) (r : TriggerData) → (trigger_edited e r).spec.key ≡ r.spec.key
edit_keeps (State change) r = refl
edit_keeps (Fire next state) r = refl
edit_keeps (Move moved) r = refl
edit_keeps (Years change) r = refl

-- No two slots have rows of one key.
abbrev pub AreApart : List (Option TriggerData) → Type 0
AreApart slots = (s t : ℕ) (r q : TriggerData) → get_or slots s None ≡ Some r → get_or slots t None ≡ Some q → is_eq (key_cmp r.spec.key q.spec.key) ≡ true → s ≡ t

module _ (old new : List (Option TriggerData)) (pairs : List (DueData × ℕ)) (slot : ℕ) (apart : AreApart old) (others : IsInStepBut old pairs slot) (gone : key_of slot pairs ≡ None) where
  -- the row that left the queue was taken out
  pub taken_closed : (from : ℕ) (r q : TriggerData) → get_or old slot None ≡ Some r → get_or old from None ≡ Some q → r ≡ q → IsWritten old new from None → IsInStep new pairs
  taken_closed from r q here there same w =
      let slots : slot ≡ from = apart slot from r q here there (subst (λ (x : TriggerData). is_eq (key_cmp r.spec.key x.spec.key) ≡ true) same (key_itself r.spec.key)) in
      let written : IsWritten old new slot None = subst (λ (t : ℕ). IsWritten old new t None) (sym slots) w in
      step_closed new pairs slot (but_written old new pairs slot None others written) written.changed gone

  pub taken_from : (o : Option (ℕ × TriggerData)) (row : Option TriggerData) → IfSome o (λ p. IsWritten old new p.0 None) → IfSome o (λ p. get_or old p.0 None ≡ Some p.1) → option_map (λ (p : ℕ × TriggerData). p.1) o ≡ row → get_or old slot None ≡ row → IsSome (get_or old slot None) → IsInStep new pairs
  taken_from None row w was is found filled = absurd (let none : get_or old slot None ≡ None = found ∙ sym is in let f : IsSome {T = TriggerData} None = subst (λ (o : Option TriggerData). IsSome o) none filled in cc)
  taken_from (Some p) row w was is found filled = taken_closed p.0 p.1 p.1 (found ∙ sym is) was refl w

pub some_nth : (rows : List TriggerData) (place : ℕ) → place < length rows → IsSome (slice_get rows place)
some_nth [] place lt = absurd (omega arith)
some_nth (r ∷ rs) zero lt = refl
some_nth (r ∷ rs) (suc place) lt = some_nth rs place (omega arith)
