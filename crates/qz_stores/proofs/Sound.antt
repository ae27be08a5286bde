-- What submitting an entry leaves of a store is sound, where the store was.
use Rattle.std.proofs.Common.{◌≡◌, ℕ, ◌+◌, ◌≤◌, List, [], ◌∷◌, ◌++◌, length, length-append, true, false, refl, sym, ◌∙◌, ap, subst, arith}
use Rattle.std.proofs.Math.Logic.{∥∥₁_map}
use Rattle.std.specs.Prelude.{Result, Ok, Err, IsOk, Bool}
use Rattle.qz_types.specs.declared.errors.SubmitError.{SubmitError}
use Rattle.qz_types.specs.declared.errors.SubmitError.TheVariants as submit
use Rattle.qz_types.specs.declared.replies.Refusal.{Refusal}
use Rattle.qz_stores.specs.Stores.{StoreState, Same, Appends, Submits, Shuts}
use Rattle.qz_stores.specs.Checkpoints.{Checks}
use Rattle.qz_stores.specs.Kinds.{StoreKind, IsLawful, StaysValid, IsLegal, replay, with_entry, entry_kind}
use Rattle.qz_stores.specs.Bases.{Opens}
use Rattle.qz_stores.specs.Bytes.{BeginsNew}
use Rattle.qz_stores.specs.Opening.{IsSound, IsOpened}
use Rattle.qz_stores.proofs.Committing.{accepted_anyway}

module _ {H S E R : Type 0} (k : StoreKind H S E R) where
  -- the same history, and what an open store shows of its journal
  sound_as : (s t : StoreState H E) → t.history ≡ s.history → (t.is_open ≡ true → k.base_count s.history + length (k.entries s.history) ≤ t.payloads) → IsSound k s → IsSound k t
  sound_as s t history counted sound = record {
    version = sound.version;
    begins = λ none. subst (BeginsNew k sound.version) (sym history) (sound.begins none);
    base = subst (λ (h : H). ∥ k.IsValid (k.base h) ∥₁) (sym history) sound.base;
    legal = subst (IsLegal k) (sym history) sound.legal;
    state = subst (λ (h : H). ∥ k.IsValid (replay k h) ∥₁) (sym history) sound.state;
    counted = λ is_open. omega (arith, ap k.base_count history, ap (λ (h : H). length (k.entries h)) history, counted is_open);
  }

  none_open : (s : StoreState H E) (n : ℕ) → s.is_open ≡ false → s.is_open ≡ true → n ≤ s.payloads
  none_open s n shut is_open = let both : false ≡ true = sym shut ∙ is_open in absurd (cc)

  pub same_sound : (s t : StoreState H E) → Same s t → IsSound k s → IsSound k t
  same_sound s t same sound = sound_as s t same.history (λ is_open. omega (arith, same.payloads, sound.counted (sym same.is_open ∙ is_open))) sound

  -- a restart that began
  pub shut_sound : (s t : StoreState H E) → Shuts s t → IsSound k s → IsSound k t
  shut_sound s t shut sound = sound_as s t shut.history (none_open t _ shut.is_open) sound

  -- and one that ended
  pub opened_sound : (honest : Type 0) (s t : StoreState H E) → Opens k honest s t → IsOpened k t → IsSound k t
  opened_sound honest s t opens opened = opened.sound

  -- a checkpoint
  pub checked_sound : (x : Result Bool SubmitError) (s t : StoreState H E) → Checks x s t → IsSound k s → IsSound k t
  checked_sound (Ok true) s t is sound = sound_as s t is.history (λ _. omega (arith, is.payloads, sound.counted is.was_open)) sound
  checked_sound (Ok false) s t is sound = same_sound s t is.same sound
  checked_sound (Err (submit.Closed at)) s t is sound = same_sound s t is.0.same sound
  checked_sound (Err submit.NoMemory) s t is sound = same_sound s t is.same sound
  checked_sound (Err submit.Fault) s t is sound = sound_as s t is.history (none_open t _ is.is_open) sound
  checked_sound (Err (submit.Refused x)) s t is sound = absurd is
  checked_sound (Err (submit.JournalFull need room)) s t is sound = absurd is

  accepted_by : (a : Result R Refusal) (r : R) → a ≡ Ok r → IsOk a
  accepted_by a r is = subst IsOk (sym is) refl

  module _ (lawful : IsLawful k) where
    appended_sound : StaysValid k → (e : E) (r : R) (s t : StoreState H E) → k.IsProper e → Appends (entry_kind k) e r s t → IsSound k s → IsSound k t
    appended_sound stays e r s t proper appends sound =
        let h = s.history in
        let n = k.base_count h in
        let B = k.base h in
        let es = k.entries h in
        let count : k.base_count (with_entry k e h) ≡ n = lawful.base_count_is n B (es ++ e ∷ []) in
        let base : k.base (with_entry k e h) ≡ B = lawful.base_is n B (es ++ e ∷ []) in
        let list : k.entries (with_entry k e h) ≡ es ++ e ∷ [] = lawful.entries_are n B (es ++ e ∷ []) in
        let state : replay k (with_entry k e h) ≡ k.after (replay k h) e =
        (λ i. k.replay_from (base i) (list i)) ∙ lawful.replay_more B es e in
        let legal : IsLegal k (with_entry k e h) =
        subst (λ (T : S). k.IsLegalFrom T (k.entries (with_entry k e h))) (sym base)
        (subst (k.IsLegalFrom B) (sym list) (lawful.legal_more B es e sound.legal (accepted_by _ r (accepted_anyway k (replay k h) e r appends.accepted_as)))) in
        record {
          version = sound.version;
          begins = λ none.
              let new = sound.begins none in
              subst (BeginsNew k sound.version) (sym appends.history) (record { known = new.known; count = count ∙ new.count; base = base ∙ new.base });
          base = subst (λ (g : H). ∥ k.IsValid (k.base g) ∥₁) (sym appends.history) (subst (λ (T : S). ∥ k.IsValid T ∥₁) (sym base) sound.base);
          legal = subst (IsLegal k) (sym appends.history) legal;
          state = subst (λ (g : H). ∥ k.IsValid (replay k g) ∥₁) (sym appends.history) (∥∥₁_map sound.state (λ valid. subst k.IsValid (sym state) (stays (replay k h) e proper valid)));
          counted = λ _. omega (arith, ap k.base_count appends.history, count, ap (λ (g : H). length (k.entries g)) appends.history, ap (λ (l : List E). length l) list, length-append es (e ∷ []), appends.payloads, sound.counted appends.was_open);
        }

    pub submitted_sound : StaysValid k → (e : E) (x : Result R SubmitError) (s t : StoreState H E) → k.IsProper e → Submits (entry_kind k) e x s t → IsSound k s → IsSound k t
    submitted_sound stays e (Ok r) s t proper is sound = appended_sound stays e r s t proper is sound
    submitted_sound stays e (Err (submit.Closed at)) s t proper is sound = same_sound s t is.0.same sound
    submitted_sound stays e (Err (submit.Refused x)) s t proper is sound = same_sound s t is.same sound
    submitted_sound stays e (Err (submit.JournalFull need room)) s t proper is sound = same_sound s t is.same sound
    submitted_sound stays e (Err submit.NoMemory) s t proper is sound = same_sound s t is.same sound
    submitted_sound stays e (Err submit.Fault) s t proper is sound = sound_as s t is.history (none_open t _ is.is_open) sound
