-- Which bytes hold which whole list, and what a crash leaves of it.
use Rattle.std.proofs.Common.{◌≡◌, ◌⊎◌, inl, inr, ⊎_elim, ℕ, ◌+◌, ◌≤◌, List, [], ◌∷◌, ◌++◌, length, take, refl, sym, ◌∙◌, ap, subst, arith, append_assoc, append-nil, take-append-drop}
use Rattle.std.proofs.lemmas.List.{length-take-le}
use Rattle.std.proofs.Math.Logic.{∥∥₁_elim, ∥∥₁_map}
use Rattle.std.specs.Prelude.{Option, Some, None}
use Rattle.std.specs.List.{AllZip}
use Rattle.qz_journal.specs.Layout.{Holds}
use Rattle.qz_journal.specs.Slots.{IsSlot, slot, slots_of, slot_in_use, IsTrueOffset}
use Rattle.qz_journal.proofs.Once.{holds_once, version_once}
use Rattle.qz_journal.proofs.SlotBytes.{slot_before, slots_in_front}
use Rattle.qz_stores.specs.Kinds.{StoreKind, IsLawful, IsAccepted}
use Rattle.qz_stores.specs.Bases.{RecordEntries, IsSnapshotAt, HoldAll, IsEndOf}
use Rattle.qz_stores.proofs.Whole.{recorded_both, recorded_once, one_record, replay_both, end_as}

-- a slot has its gate in the header
pub slot_early : (gate : ℕ) → IsSlot gate → gate + 5 ≤ 16
slot_early gate (inl is) = omega (arith, is)
slot_early gate (inr is) = omega (arith, is)

-- What each open slot has in a truncated form, it has in full where a fact with one proof is wanted.

each_offset : {P : Type 0} (A : ℕ → Type 0) (o : Option ℕ) → IsProp P → ((offset : ℕ) → o ≡ Some offset → ∥ A offset ∥₁) → (((offset : ℕ) → o ≡ Some offset → A offset) → P) → P
each_offset A None prop given then = then (λ offset is. let no : None ≡ Some offset = is in absurd (cc))
each_offset A (Some x) prop given then = ∥∥₁_elim (given x refl) prop (λ a. then (λ offset is. let same : x ≡ offset = cc in subst A same a))

pub each_slot : {P : Type 0} (A : ℕ → Type 0) (b : List ℕ) → IsProp P → ((gate offset : ℕ) → IsSlot gate → slot gate b ≡ Some offset → ∥ A offset ∥₁) → (((gate offset : ℕ) → IsSlot gate → slot gate b ≡ Some offset → A offset) → P) → P
each_slot A b prop given then =
    each_offset A (slot 6 b) prop (λ offset is. given 6 offset (inl refl) is)
    (λ six. each_offset A (slot 11 b) prop (λ offset is. given 11 offset (inr refl) is)
    (λ eleven. then (λ gate offset is opened. either six eleven gate offset is opened)))
  where
    either : ((offset : ℕ) → slot 6 b ≡ Some offset → A offset) → ((offset : ℕ) → slot 11 b ≡ Some offset → A offset) → (gate offset : ℕ) → IsSlot gate → slot gate b ≡ Some offset → A offset
    either six eleven gate offset (inl is) opened = six offset (subst (λ g. slot g b ≡ Some offset) is opened)
    either six eleven gate offset (inr is) opened = eleven offset (subst (λ g. slot g b ≡ Some offset) is opened)

module _ {H S E R : Type 0} (k : StoreKind H S E R) (lawful : IsLawful k) where
  -- Bytes hold one whole list at most, in one version.

  pub whole_version : (v w : ℕ) (O P : S) (b : List ℕ) (es fs : List E) → HoldAll k v O b es → HoldAll k w P b fs → w ≡ v
  whole_version v w O P b es fs p q = version_once b w v k.number q.store.0 p.store.0 q.store.1 p.store.1

  pub whole_once : (v : ℕ) (O : S) (b : List ℕ) (es fs : List E) → HoldAll k v O b es → HoldAll k v O b fs → es ≡ fs
  whole_once v O b es fs p q = let ps = p.store.0 in recorded_once k lawful ps es fs (p.recorded ps p.store.1) (q.recorded ps p.store.1)

  -- A snapshot makes the offset of its slot true.
  pub true_offset : (O : S) (offset : ℕ) (ps : List (List ℕ)) (es : List E) → IsSnapshotAt k O ps es offset → IsTrueOffset ps offset
  true_offset O offset ps es at =
      let h = lawful.headed at.from (k.replay_from O at.earlier) (length at.before) (length at.earlier) at.snapshot in
      record { before = at.before; head = h.0; after = h.1; parts = at.payloads_are ∙ ap (λ (l : List (List ℕ)). at.before ++ l) h.2; offset_is = at.offset_is; is_head = h.3; number_is = h.4 }

  -- it is still there with payloads and entries after it
  pub snapshot_still : (O : S) (offset : ℕ) (ps qs : List (List ℕ)) (es fs : List E) → IsSnapshotAt k O ps es offset → IsSnapshotAt k O (ps ++ qs) (es ++ fs) offset
  snapshot_still O offset ps qs es fs at = record {
    before = at.before;
    from = at.from ++ qs;
    earlier = at.earlier;
    later = at.later ++ fs;
    payloads_are = ap (λ (l : List (List ℕ)). l ++ qs) at.payloads_are ∙ append_assoc at.before at.from qs;
    entries_are = ap (λ (l : List E). l ++ fs) at.entries_are ∙ append_assoc at.earlier at.later fs;
    offset_is = at.offset_is;
    recorded = at.recorded;
    snapshot = lawful.snapshot_more at.from qs (k.replay_from O at.earlier) (length at.before) (length at.earlier) at.snapshot;
  }

  -- bytes with some payloads more, which are records of some entries more, and in which each open slot was open before or leads to
  -- a snapshot, and one is open if one was
  pub whole_more : (v : ℕ) (O : S) (b c : List ℕ) (ps qs : List (List ℕ)) (es fs : List E) → Holds b v k.number ps → HoldAll k v O b es → Holds c v k.number (ps ++ qs) → RecordEntries k qs fs → ∥ k.IsLegalFrom O (es ++ fs) ∥₁
      → ((gate offset : ℕ) → IsSlot gate → slot gate c ≡ Some offset → (slot gate b ≡ Some offset) ⊎ IsSnapshotAt k O (ps ++ qs) (es ++ fs) offset)
      → (slot_in_use (slots_of c) ≡ None → slot_in_use (slots_of b) ≡ None) → HoldAll k v O c (es ++ fs)
  whole_more v O b c ps qs es fs holds held after more legal slots in_use = record {
    store = (ps ++ qs, after);
    recorded = λ rs also. subst (λ (l : List (List ℕ)). RecordEntries k l (es ++ fs)) (holds_once c v v k.number (ps ++ qs) rs after also) (recorded_both k ps qs es fs (held.recorded ps holds) more);
    valid = held.valid;
    legal = legal;
    slots = λ rs also gate offset is opened. subst (λ (l : List (List ℕ)). ∥ IsSnapshotAt k O l (es ++ fs) offset ∥₁) (holds_once c v v k.number (ps ++ qs) rs after also)
        (⊎_elim (λ was. ∥∥₁_map (held.slots ps holds gate offset is was) (snapshot_still O offset ps qs es fs)) (λ new. ∣ new ∣₁) (slots gate offset is opened));
    begins = λ none. held.begins (in_use none);
  }

  -- the same header has the same slots
  pub same_slots : (b c : List ℕ) → take 16 c ≡ take 16 b → slot_in_use (slots_of c) ≡ None → slot_in_use (slots_of b) ≡ None
  same_slots b c same none = ap slot_in_use (sym (slots_in_front (take 16 b) b refl) ∙ ap slots_of (sym same) ∙ slots_in_front (take 16 c) c refl) ∙ none

  -- A record more.

  pub accepted_next : (O : S) (es : List E) (e : E) → ∥ k.IsLegalFrom O es ∥₁ → IsAccepted k (k.replay_from O es) e → ∥ k.IsLegalFrom O (es ++ e ∷ []) ∥₁
  accepted_next O es e legal passes = ∥∥₁_map legal (λ l. lawful.legal_more O es e l passes)

  pub whole_next : (v : ℕ) (O : S) (b c p : List ℕ) (ps : List (List ℕ)) (es : List E) (e : E) → Holds b v k.number ps → HoldAll k v O b es → Holds c v k.number (ps ++ p ∷ []) → take 16 c ≡ take 16 b → k.IsRecordOf p e
      → IsAccepted k (k.replay_from O es) e → HoldAll k v O c (es ++ e ∷ [])
  whole_next v O b c p ps es e holds held after same is passes =
      whole_more v O b c ps (p ∷ []) es (e ∷ []) holds held after
      (subst (λ (l : List (List ℕ)). ∥ AllZip k.IsRecordOf l (e ∷ []) ∥₁) (sym (one_record k p (lawful.records_apart p e is))) ∣ (is, tt) ∣₁)
      (accepted_next O es e held.legal passes)
      (λ gate offset is_slot opened. inl (sym (slot_before gate 16 b c (slot_early gate is_slot) same) ∙ opened))
      (same_slots b c same)

  -- nothing more than other bytes after the payloads
  pub whole_same : (v : ℕ) (O : S) (b c : List ℕ) (ps : List (List ℕ)) (es : List E) → Holds b v k.number ps → HoldAll k v O b es → Holds c v k.number ps → take 16 c ≡ take 16 b → HoldAll k v O c es
  whole_same v O b c ps es holds held after same =
      let nothing : es ++ [] ≡ es = append-nil es in
      subst (HoldAll k v O c) nothing (whole_more v O b c ps [] es [] holds held (subst (Holds c v k.number) (sym (append-nil ps)) after) ∣ tt ∣₁
      (subst (λ (l : List E). ∥ k.IsLegalFrom O l ∥₁) (sym nothing) held.legal)
      (λ gate offset is_slot opened. inl (sym (slot_before gate 16 b c (slot_early gate is_slot) same) ∙ opened)) (same_slots b c same))

  -- An end of a list.

  pub end_parts : (O : S) (h : H) (es : List E) → IsEndOf k O h es → es ≡ take (k.base_count h) es ++ k.entries h
  end_parts O h es is = sym (take-append-drop (k.base_count h) es) ∙ ap (λ (l : List E). take (k.base_count h) es ++ l) (sym is.rest)

  -- it leaves the state that they leave
  pub end_leaves : (O : S) (h : H) (es : List E) → IsEndOf k O h es → k.replay_from (k.base h) (k.entries h) ≡ k.replay_from O es
  end_leaves O h es is =
      ap (λ (T : S). k.replay_from T (k.entries h)) is.base ∙ sym (replay_both k lawful O (take (k.base_count h) es) (k.entries h)) ∙ ap (k.replay_from O) (sym (end_parts O h es is))

  -- and is one with further entries
  pub end_more : (O : S) (n : ℕ) (T : S) (found added es : List E) → IsEndOf k O (k.history n T found) es → IsEndOf k O (k.history n T (found ++ added)) (es ++ added)
  end_more O n T found added es is =
      let h = k.history n T found in
      let count : k.base_count h ≡ n = lawful.base_count_is n T found in
      let list : k.entries h ≡ found = lawful.entries_are n T found in
      let state : k.base h ≡ T = lawful.base_is n T found in
      end_as k lawful O n T (found ++ added) (es ++ added) (take (k.base_count h) es) (found ++ added)
      (ap (λ (l : List E). l ++ added) (end_parts O h es is) ∙ append_assoc (take (k.base_count h) es) (k.entries h) added ∙ ap (λ (l : List E). take (k.base_count h) es ++ (l ++ added)) list)
      (sym count ∙ sym (length-take-le (k.base_count h) es is.there)) (sym state ∙ is.base) refl
