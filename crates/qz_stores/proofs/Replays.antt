-- Payloads that are taken one by one, and the first that is unfit.
use Rattle.std.proofs.Common.{◌≡◌, ◌⊎◌, inl, inr, ℕ, ◌+◌, ◌^◌, ◌<◌, ◌≤◌, false, List, [], ◌∷◌, ◌++◌, length, get_or, take, drop, suc, sym, ap, subst, append-nil, arith, length-append}
use Rattle.std.specs.List.{AllZip}
use Rattle.qz_journal.specs.Layout.{end_from}
use Rattle.qz_stores.specs.Kinds.{StoreKind, HasRecord, IsAccepted, IsLawful}
use Rattle.qz_stores.specs.Bases.{RecordEntries}
use Rattle.qz_stores.specs.Opening.{AreTaken, IsUnfit, HaveUnfit}
use Rattle.qz_stores.specs.Replaying.{IsPassed, IsTaken}
use Rattle.qz_stores.proofs.Blocks.{cut_at, one_more, many_bytes, All-pushed}
use Rattle.qz_stores.proofs.Whole.{recorded_both, one_record, no_record}

-- so many entries are counted without passing the largest number
pub count_fits : (base read start index count : ℕ) (payloads : List (List ℕ)) → base < 2 ^ 32 → count ≡ base + read → read ≤ index → index < length payloads → end_from start payloads < 2 ^ 64 → count + 1 < 2 ^ 64
count_fits base read start index count payloads small count_is few below offsets = omega (arith, small, count_is, few, below, offsets, many_bytes payloads)

module _ {H S E R : Type 0} (k : StoreKind H S E R) (lawful : IsLawful k) where
  pub few_more : (U : S) (p : List ℕ) (es fs : List E) (i : ℕ) → length es ≤ i → IsPassed k p es fs ⊎ IsTaken k U p es fs → length fs ≤ i + 1
  few_more U p es fs i few (inl passed) = omega (arith, few, ap (λ (l : List E). length l) passed.1)
  few_more U p es fs i few (inr taken) = omega (arith, few, ap (λ (l : List E). length l) taken.1, length-append es (taken.0 ∷ []))

  -- none was taken yet
  pub taken_none : (T : S) (payloads : List (List ℕ)) (es : List E) → es ≡ [] → AreTaken k T (take 0 payloads) es
  taken_none T payloads es none = subst (AreTaken k T (take 0 payloads)) (sym none) (record { recorded = ∣ tt ∣₁; valid = tt; legal = lawful.legal_none T })

  taken_next : (T U : S) (ps : List (List ℕ)) (p : List ℕ) (es fs : List E) → U ≡ k.replay_from T es → IsPassed k p es fs ⊎ IsTaken k U p es fs → AreTaken k T ps es → AreTaken k T (ps ++ p ∷ []) fs
  taken_next T U ps p es fs state (inl passed) so_far =
      let recorded = recorded_both k ps (p ∷ []) es [] so_far.recorded (subst (λ (l : List (List ℕ)). ∥ AllZip k.IsRecordOf l [] ∥₁) (sym (no_record k p passed.0)) ∣ tt ∣₁) in
      subst (AreTaken k T (ps ++ p ∷ [])) (sym passed.1) (record { recorded = subst (RecordEntries k (ps ++ p ∷ [])) (append-nil es) recorded; valid = so_far.valid; legal = so_far.legal })
  taken_next T U ps p es fs state (inr taken) so_far =
      let e = taken.0 in
      let is = taken.2 in
      let one = subst (λ (l : List (List ℕ)). ∥ AllZip k.IsRecordOf l (e ∷ []) ∥₁) (sym (one_record k p (lawful.records_apart p e is))) ∣ (is, tt) ∣₁ in
      subst (AreTaken k T (ps ++ p ∷ [])) (sym taken.1) (record {
        recorded = recorded_both k ps (p ∷ []) es (e ∷ []) so_far.recorded one;
        valid = All-pushed (HasRecord k) es e so_far.valid (p, is);
        legal = lawful.legal_more T es e so_far.legal (subst (λ (V : S). IsAccepted k V e) state taken.3);
      })

  -- one payload more was taken
  pub taken_more : (T U : S) (payloads : List (List ℕ)) (i : ℕ) (p : List ℕ) (es fs : List E) → i < length payloads → p ≡ get_or payloads i p → U ≡ k.replay_from T es → IsPassed k p es fs ⊎ IsTaken k U p es fs
      → AreTaken k T (take i payloads) es → AreTaken k T (take (i + 1) payloads) fs
  taken_more T U payloads i p es fs below at_is state next so_far = subst (λ (l : List (List ℕ)). AreTaken k T l fs) (sym (one_more payloads i p below at_is)) (taken_next T U (take i payloads) p es fs state next so_far)

  -- the payload at this place is the first that is unfit
  pub stops_at : (T U : S) (start : ℕ) (payloads : List (List ℕ)) (i : ℕ) (p : List ℕ) (gate : ℕ) (es : List E) → i < length payloads → p ≡ get_or payloads i p → gate ≡ end_from start (take i payloads) → U ≡ k.replay_from T es
      → AreTaken k T (take i payloads) es → k.is_part p ≡ false → IsUnfit k U p → HaveUnfit k T start payloads gate
  stops_at T U start payloads i p gate es below at_is gate_is state so_far no_part unfit = record {
    taken = take i payloads;
    entries = es;
    are_taken = so_far;
    payload = p;
    more = drop (suc i) payloads;
    whole = cut_at payloads i p below at_is;
    at_is = gate_is;
    no_part = no_part;
    unfit = subst (λ (V : S). IsUnfit k V p) state unfit;
  }
