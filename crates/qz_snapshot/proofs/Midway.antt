-- What a crash in a checkpoint leaves.
use Rattle.std.proofs.Common.{◌≡◌, inl, inr, ⊎_elim, ℕ, ◌+◌, ◌≤◌, List, [], ◌++◌, length, take, Some, refl, sym, ap, subst, ◌∙◌, arith, append-nil}
use Rattle.std.specs.Prelude.{Ok, Err, OnOk}
use Rattle.std.specs.declared.result.Result.{Result}
use Rattle.std.proofs.lemmas.List.{take_all}
use Rattle.qz_disk.specs.Disk.{DiskState, Only, LeavesOnly, IsLawful}
use Rattle.qz_disk.proofs.Moments.{started, then_leaves, weaker, content_among}
use Rattle.qz_journal.proofs.Marks.{AreSlots, offset_is, free_is}
use Rattle.qz_journal.proofs.SlotBytes.{take-shorter, slot_before, keeps_payloads}
use Rattle.qz_journal.specs.declared.slots.Slots.{Slots}
use Rattle.qz_journal.specs.Layout.{Holds, HoldFirst, end_of}
use Rattle.qz_journal.specs.Slots.{IsSlot, IsSlotWrite, slot, other_slot, free_slot, offset_in}
use Rattle.qz_snapshot.specs.Checkpoints.{IsPartly, IsMidway}

-- two facts of one run
pub both_leave : (s t : DiskState) (P Q : List ℕ → Type 0) → LeavesOnly s t P → LeavesOnly s t Q → LeavesOnly s t (λ b. P b × Q b)
both_leave s t P Q p q = record {
  later = p.later;
  each = λ b since. (p.each b since, q.each b since);
  before = λ u b le since. ⊎_elim inl (λ x. ⊎_elim inl (λ y. inr (x, y)) (q.before u b le since)) (p.before u b le since);
}

-- a fact whatever the answer is
pub whatever : {T E : Type 0} (r : Result T E) (P : Type 0) → P → OnOk r P
whatever (Ok x) P p = p
whatever (Err e) P p = tt

pub same_clearing : (s t : DiskState) (a b : Slots) → a ≡ b → LeavesOnly s t (IsSlotWrite (free_slot a) (offset_in a (free_slot a)) s.content) → LeavesOnly s t (IsSlotWrite (free_slot b) (offset_in b (free_slot b)) s.content)
same_clearing s t a b is leaves = subst (λ (x : Slots). LeavesOnly s t (IsSlotWrite (free_slot x) (offset_in x (free_slot x)) s.content)) is leaves

pub same_setting : (s t : DiskState) (g h o p : ℕ) → g ≡ h → o ≡ p → LeavesOnly s t (IsSlotWrite g (Some o) s.content) → LeavesOnly s t (IsSlotWrite h (Some p) s.content)
same_setting s t g h o p is offset_is leaves = subst (λ n. LeavesOnly s t (IsSlotWrite n (Some p) s.content)) is (subst (λ n. LeavesOnly s t (IsSlotWrite g (Some n) s.content)) offset_is leaves)

-- ---- payloads that are appended

pub header_stays : (gate : ℕ) (s t : DiskState) → 16 ≤ gate → LeavesOnly s t (λ b. take gate b ≡ take gate s.content) → LeavesOnly s t (λ b. take 16 b ≡ take 16 s.content)
header_stays gate s t le leaves = weaker s t _ _ leaves (λ b is. take-shorter 16 gate b s.content le is)

module _ (version kind : ℕ) (old : List ℕ) (payloads more : List (List ℕ)) where
  pub partly_none : (s : DiskState) → IsLawful s → Only s.content s → s.content ≡ old → Holds old version kind payloads → LeavesOnly s s (IsPartly version kind old payloads more)
  partly_none s lawful durable is holds = started s _ lawful (λ b image.
      let same = durable b image ∙ is in
      record { count = 0; holds = subst (λ (l : List ℕ). Holds l version kind (payloads ++ [])) (sym same) (subst (Holds old version kind) (sym (append-nil payloads)) holds); header = ap (λ (l : List ℕ). take 16 l) same })

pub partly_first : (version kind gate : ℕ) (s t : DiskState) (payloads more : List (List ℕ)) → 16 ≤ gate → LeavesOnly s t (HoldFirst version kind payloads more) → LeavesOnly s t (λ b. take gate b ≡ take gate s.content)
    → LeavesOnly s t (IsPartly version kind s.content payloads more)
partly_first version kind gate s t payloads more le first front =
    weaker s t _ _ (both_leave s t _ _ first (header_stays gate s t le front)) (λ b both. record { count = both.0.many; holds = both.0.holds; header = both.1 })

-- ---- the slot after them

slot_end : (g : ℕ) → IsSlot g → g + 5 ≤ 16
slot_end g (inl is) = omega (arith, is)
slot_end g (inr is) = omega (arith, is)

other_is : (g : ℕ) → IsSlot g → IsSlot (other_slot g)
other_is g (inl is) = subst (λ n. IsSlot (other_slot n)) (sym is) (inr refl)
other_is g (inr is) = subst (λ n. IsSlot (other_slot n)) (sym is) (inl refl)

module _ (version kind gate : ℕ) (slots : Slots) (old : List ℕ) (payloads snapshot : List (List ℕ)) (are : AreSlots slots old) (gate_is : gate ≡ end_of payloads) where
  abbrev free : ℕ
  free = free_slot slots

  as_before : (g : ℕ) (b : List ℕ) → IsSlot g → take 16 b ≡ take 16 old → slot g b ≡ offset_in slots g
  as_before g b is front = slot_before g 16 old b (slot_end g is) front ∙ sym (offset_is g slots old is are)

  midway_partly : (b : List ℕ) → IsPartly version kind old payloads snapshot b → IsMidway version kind slots payloads snapshot b
  midway_partly b p = record {
    count = p.count;
    holds = p.holds;
    in_use = as_before (other_slot free) b (other_is free (free_is slots)) p.header;
    free = inl (as_before free b (free_is slots) p.header);
  }

  whole : (b : List ℕ) → Holds b version kind (payloads ++ snapshot) → Holds b version kind (payloads ++ take (length snapshot) snapshot)
  whole b holds = subst (λ (l : List (List ℕ)). Holds b version kind (payloads ++ l)) (sym (take_all (length snapshot) snapshot (omega arith))) holds

  module _ (written : List ℕ) (front : take 16 written ≡ take 16 old) (holds : Holds written version kind (payloads ++ snapshot)) where
    midway_clearing : (b : List ℕ) → IsSlotWrite free (offset_in slots free) written b → IsMidway version kind slots payloads snapshot b
    midway_clearing b w = record {
      count = length snapshot;
      holds = whole b (keeps_payloads free (offset_in slots free) written b version kind (payloads ++ snapshot) w holds);
      in_use = w.other ∙ as_before (other_slot free) written (other_is free (free_is slots)) front;
      free = ⊎_elim (λ none. inr (inl none)) inl w.this;
    }

    midway_setting : (cleared b : List ℕ) → IsSlotWrite free (offset_in slots free) written cleared → IsSlotWrite free (Some gate) cleared b → IsMidway version kind slots payloads snapshot b
    midway_setting cleared b w x = record {
      count = length snapshot;
      holds = whole b (keeps_payloads free (Some gate) cleared b version kind (payloads ++ snapshot) x (keeps_payloads free (offset_in slots free) written cleared version kind (payloads ++ snapshot) w holds));
      in_use = x.other ∙ w.other ∙ as_before (other_slot free) written (other_is free (free_is slots)) front;
      free = ⊎_elim (λ none. inr (inl none)) (λ some. inr (inr (some ∙ ap Some gate_is, omega arith))) x.this;
    }

  module _ (s : DiskState) where
    pub after_part : (m : DiskState) → LeavesOnly s m (IsPartly version kind old payloads snapshot) → LeavesOnly s m (IsMidway version kind slots payloads snapshot)
    after_part m partly = weaker s m _ _ partly midway_partly

    module _ (m n : DiskState) (partly : LeavesOnly s m (IsPartly version kind old payloads snapshot)) (lawful : IsLawful m) (holds : Holds m.content version kind (payloads ++ snapshot))
        (clears : LeavesOnly m n (IsSlotWrite free (offset_in slots free) m.content)) where
      front : take 16 m.content ≡ take 16 old
      front = (content_among s m _ lawful partly).header

      pub after_clearing : LeavesOnly s n (IsMidway version kind slots payloads snapshot)
      after_clearing = then_leaves s m n _ _ _ (after_part m partly) clears (λ b x. x) (midway_clearing m.content front holds)

      pub after_setting : (t : DiskState) → IsLawful n → LeavesOnly n t (IsSlotWrite free (Some gate) n.content) → LeavesOnly s t (IsMidway version kind slots payloads snapshot)
      after_setting t lawful_n sets =
          let here = content_among m n _ lawful_n clears in
          then_leaves s n t _ _ _ after_clearing sets (λ b x. x) (λ b x. midway_setting m.content front holds n.content b here x)

      pub holds_after : (t : DiskState) → IsLawful n → IsLawful t → LeavesOnly n t (IsSlotWrite free (Some gate) n.content) → Holds t.content version kind (payloads ++ snapshot)
      holds_after t lawful_n lawful_t sets =
          keeps_payloads free (Some gate) n.content t.content version kind (payloads ++ snapshot) (content_among n t _ lawful_t sets)
          (keeps_payloads free (offset_in slots free) m.content n.content version kind (payloads ++ snapshot) (content_among m n _ lawful_n clears) holds)
