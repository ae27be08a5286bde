-- One entry more, and what a disk holds of it.
use Rattle.std.proofs.Common.{◌≡◌, ◌⊎◌, inl, inr, ⊎_elim, ℕ, ◌+◌, ◌≤◌, List, [], ◌∷◌, ◌++◌, length, length-append, take, sym, ◌∙◌, ap, subst, arith, append_assoc, append-nil}
use Rattle.std.proofs.Math.Logic.{∥∥₁_map}
use Rattle.std.specs.Prelude.{Option, Some, None}
use Rattle.std.specs.List.{AllByRecursion}
use Rattle.qz_disk.specs.Disk.{DiskState, Only, IsLawful as DiskIsLawful, LeavesOnly}
use Rattle.qz_disk.proofs.Moments.{weaker}
use Rattle.qz_journal.specs.Layout.{Holds, IsBeforeOrAfter, end_of}
use Rattle.qz_journal.proofs.Once.{holds_once}
use Rattle.qz_journal.proofs.SlotBytes.{take-shorter}
use Rattle.qz_journal.proofs.Stands.{end_of-push}
use Rattle.qz_stores.specs.Kinds.{StoreKind, HasRecord, IsLawful, IsAccepted}
use Rattle.qz_stores.specs.Bases.{HoldAll, MayHoldAll, IsEndOf}
use Rattle.qz_stores.specs.Bytes.{MayFollow}
use Rattle.qz_stores.proofs.Blocks.{All-pushed}
use Rattle.qz_stores.proofs.WholeBytes.{whole_next, whole_same, end_leaves, end_more}

-- In memory.

pub none_more : {E : Type 0} (found added : List E) → added ≡ [] → found ++ added ≡ found
none_more {E} found added none = ap (λ (l : List E). found ++ l) none ∙ append-nil found

-- the entries so far, with one more
pub more : {E : Type 0} (found old new : List E) (e : E) → new ≡ old ++ e ∷ [] → found ++ new ≡ (found ++ old) ++ e ∷ []
more {E} found old new e is = ap (λ (l : List E). found ++ l) is ∙ sym (append_assoc found old (e ∷ []))

pub counted_with : {E : Type 0} (found old new : List E) (e : E) (base n m : ℕ) → new ≡ old ++ e ∷ [] → n ≡ base + length (found ++ old) → m ≡ n + 1 → m ≡ base + length (found ++ new)
counted_with {E} found old new e base n m is n_is m_is =
    omega (arith, ap (λ (l : List E). length l) (more found old new e is), length-append (found ++ old) (e ∷ []), n_is, m_is)

pub recorded_with : {E : Type 0} (P : E → Type 0) (found old new : List E) (e : E) → new ≡ old ++ e ∷ [] → ∥ AllByRecursion P (found ++ old) ∥₁ → P e → ∥ AllByRecursion P (found ++ new) ∥₁
recorded_with P found old new e is all one = ∥∥₁_map all (λ a. subst (AllByRecursion P) (sym (more found old new e is)) (All-pushed P (found ++ old) e a one))

module _ {H S E R : Type 0} (k : StoreKind H S E R) where
  pub legal_with : IsLawful k → (N T : S) (found old new : List E) (e : E) → new ≡ old ++ e ∷ [] → T ≡ k.replay_from N (found ++ old) → IsAccepted k T e
      → ∥ k.IsLegalFrom N (found ++ old) ∥₁ → ∥ k.IsLegalFrom N (found ++ new) ∥₁
  legal_with lawful N T found old new e is same passes legal =
      ∥∥₁_map legal (λ l. subst (k.IsLegalFrom N) (sym (more found old new e is))
      (lawful.legal_more N (found ++ old) e l (subst (λ (U : S). IsAccepted k U e) same passes)))

  -- the state after it
  pub grown : IsLawful k → (N T U : S) (es fs : List E) (e : E) → fs ≡ es ++ e ∷ [] → T ≡ k.replay_from N es → U ≡ k.after T e → U ≡ k.replay_from N fs
  grown lawful N T U es fs e fs_is same next =
      next ∙ ap (λ (V : S). k.after V e) same ∙ sym (lawful.replay_more N es e) ∙ ap (k.replay_from N) (sym fs_is)

  -- which entry is undecided

  pub none_follows : (T : S) (u : Option E) → u ≡ None → ∥ MayFollow k T u ∥₁
  none_follows T u none = subst (λ v. ∥ MayFollow k T v ∥₁) (sym none) ∣ tt ∣₁

  pub one_follows : (T : S) (u : Option E) (e : E) → u ≡ Some e → HasRecord k e → IsAccepted k T e → ∥ MayFollow k T u ∥₁
  one_follows T u e is valid passes = subst (λ v. ∥ MayFollow k T v ∥₁) (sym is) ∣ (valid, passes) ∣₁

-- what leaves only bytes of two sorts leaves only bytes of both
pub both_leave : (s t : DiskState) (P Q : List ℕ → Type 0) → LeavesOnly s t P → LeavesOnly s t Q → LeavesOnly s t (λ b. P b × Q b)
both_leave s t P Q one two = record {
  later = one.later;
  each = λ b since. (one.each b since, two.each b since);
  before = λ n b le since. ⊎_elim inl (λ p. ⊎_elim inl (λ q. inr (p, q)) (two.before n b le since)) (one.before n b le since);
}

module _ {H S E R : Type 0} (k : StoreKind H S E R) (lawful : IsLawful k) (v : ℕ) where
  -- the gate and the count of payloads are those of whatever payloads the bytes hold
  abbrev pub IsGate : ℕ → ℕ → List ℕ → Type 0
  IsGate gate count b = (ps : List (List ℕ)) → Holds b v k.number ps → (gate ≡ end_of ps) × (count ≡ length ps)

  -- what the whole list leaves is what the history leaves
  pub whole_leaves : (O : S) (n : ℕ) (B T : S) (found added es : List E) → T ≡ k.replay_from B (found ++ added) → IsEndOf k O (k.history n B found) es → T ≡ k.replay_from O (es ++ added)
  whole_leaves O n B T found added es state is =
      let h = k.history n B (found ++ added) in
      state ∙ sym (λ i. k.replay_from (lawful.base_is n B (found ++ added) i) (lawful.entries_are n B (found ++ added) i)) ∙ end_leaves k lawful O h (es ++ added) (end_more k lawful O n B found added es is)

  pub as_held : (w number : ℕ) (b : List ℕ) (ps : List (List ℕ)) → w ≡ v → number ≡ k.number → Holds b w number ps → Holds b v k.number ps
  as_held w number b ps w_is number_is holds = subst (λ (n : ℕ). Holds b v n ps) number_is (subst (λ (x : ℕ). Holds b x number ps) w_is holds)

  pub as_journal : (w number : ℕ) (b : List ℕ) (ps : List (List ℕ)) → w ≡ v → number ≡ k.number → Holds b v k.number ps → Holds b w number ps
  as_journal w number b ps w_is number_is holds = subst (λ (x : ℕ). Holds b x number ps) (sym w_is) (subst (λ (n : ℕ). Holds b v n ps) (sym number_is) holds)

  -- A journal in this version and of this kind appends a record of an entry that is accepted.
  module _ (w number gate count : ℕ) (p : List ℕ) (e : E) (O : S) (es : List E) (b : List ℕ) (w_is : w ≡ v) (number_is : number ≡ k.number) (is : k.IsRecordOf p e) (held : HoldAll k v O b es) (gated : IsGate gate count b)
      (passes : IsAccepted k (k.replay_from O es) e) (late : 16 ≤ gate) where
    pub next_held : (c : List ℕ) → ((ps : List (List ℕ)) → Holds b w number ps → gate ≡ end_of ps → Holds c w number (ps ++ p ∷ [])) → take gate c ≡ take gate b → HoldAll k v O c (es ++ e ∷ [])
    next_held c grows front =
        let ps = held.store.0 in
        let holds = held.store.1 in
        whole_next k lawful v O b c p ps es e holds held (as_held w number c (ps ++ p ∷ []) w_is number_is (grows ps (as_journal w number b ps w_is number_is holds) (gated ps holds).0)) (take-shorter 16 gate c b late front) is passes

    pub next_gate : (after more : ℕ) (c : List ℕ) → after ≡ gate + (5 + length p) → more ≡ count + 1 → ((ps : List (List ℕ)) → Holds b w number ps → gate ≡ end_of ps → Holds c w number (ps ++ p ∷ [])) → IsGate after more c
    next_gate after more c after_is more_is grows qs holds =
        let ps = held.store.0 in
        let here = gated ps held.store.1 in
        let there = as_held w number c (ps ++ p ∷ []) w_is number_is (grows ps (as_journal w number b ps w_is number_is held.store.1) here.0) in
        let same : ps ++ p ∷ [] ≡ qs = holds_once c v v k.number (ps ++ p ∷ []) qs there holds in
        (omega (arith, after_is, here.0, end_of-push ps p, ap end_of same), omega (arith, more_is, here.1, length-append ps (p ∷ []), ap (λ (l : List (List ℕ)). length l) same))

    either_is : (ps : List (List ℕ)) (c : List ℕ) → Holds b v k.number ps → IsBeforeOrAfter w number ps p c → take gate c ≡ take gate b → MayHoldAll k v O es (Some e) c
    either_is ps c holds (inl before) front = inl (whole_same k lawful v O b c ps es holds held (as_held w number c ps w_is number_is before) (take-shorter 16 gate c b late front))
    either_is ps c holds (inr after) front = inr (whole_next k lawful v O b c p ps es e holds held (as_held w number c (ps ++ p ∷ []) w_is number_is after) (take-shorter 16 gate c b late front) is passes)

    -- a crash at any moment of that leaves the whole list, or it and the entry
    pub next_leaves : (s t : DiskState) → ((ps : List (List ℕ)) → Holds b w number ps → gate ≡ end_of ps → LeavesOnly s t (IsBeforeOrAfter w number ps p)) → LeavesOnly s t (λ c. take gate c ≡ take gate b) → LeavesOnly s t (MayHoldAll k v O es (Some e))
    next_leaves s t leaves front =
        let ps = held.store.0 in
        let holds = held.store.1 in
        weaker s t _ _ (both_leave s t _ _ (leaves ps (as_journal w number b ps w_is number_is holds) (gated ps holds).0) front) (λ c both. either_is ps c holds both.0 both.1)

  -- the list with what was added, as one
  pub whole_with : (O : S) (es old new : List E) (e : E) (c : List ℕ) → new ≡ old ++ e ∷ [] → HoldAll k v O c ((es ++ old) ++ e ∷ []) → HoldAll k v O c (es ++ new)
  whole_with O es old new e c is held = subst (HoldAll k v O c) (sym (more es old new e is)) held

  -- where the content is the only image
  pub images_of : (O : S) (es : List E) (u : Option E) (s : DiskState) → u ≡ None → Only s.content s → HoldAll k v O s.content es → (b : List ℕ) → s.IsImage b → MayHoldAll k v O es u b
  images_of O es u s none only held b is = subst (λ x. MayHoldAll k v O es x b) (sym none) (subst (λ (l : List ℕ). HoldAll k v O l es) (sym (only b is)) held)

  -- each image after a fault
  pub images_undecided : (O : S) (es : List E) (u : Option E) (e : E) (s t : DiskState) → u ≡ Some e → DiskIsLawful t → LeavesOnly s t (MayHoldAll k v O es (Some e)) → (b : List ℕ) → t.IsImage b → MayHoldAll k v O es u b
  images_undecided O es u e s t u_is lawful leaves b is = subst (λ x. MayHoldAll k v O es x b) (sym u_is) (leaves.each b (lawful.counts_now s.clock b leaves.later is))

  -- the moments of an append that went through
  pub leaves_with : (O : S) (es old new : List E) (e : E) (s t : DiskState) (u x : Option E) → new ≡ old ++ e ∷ [] → u ≡ None → x ≡ None
      → LeavesOnly s t (MayHoldAll k v O (es ++ old) (Some e)) → LeavesOnly s t (λ b. MayHoldAll k v O (es ++ old) u b ⊎ MayHoldAll k v O (es ++ new) x b)
  leaves_with O es old new e s t u x is u_is x_is leaves =
      weaker s t _ _ leaves (λ b either. ⊎_elim (λ before. inl (subst (λ y. MayHoldAll k v O (es ++ old) y b) (sym u_is) before)) (λ after. inr (subst (λ y. MayHoldAll k v O (es ++ new) y b) (sym x_is) (whole_with O es old new e b is after))) either)

  -- and of one that failed
  pub leaves_undecided : (O : S) (es : List E) (e : E) (s t : DiskState) (u x : Option E) → x ≡ Some e → LeavesOnly s t (MayHoldAll k v O es (Some e)) → LeavesOnly s t (λ b. MayHoldAll k v O es u b ⊎ MayHoldAll k v O es x b)
  leaves_undecided O es e s t u x x_is leaves = weaker s t _ _ leaves (λ b either. inr (subst (λ y. MayHoldAll k v O es y b) (sym x_is) either))

  -- the moments of calls after which each image was one before
  pub leaves_images : (O : S) (es : List E) (u : Option E) (s t : DiskState) → LeavesOnly s t s.IsImage → ((b : List ℕ) → s.IsImage b → MayHoldAll k v O es u b) → LeavesOnly s t (MayHoldAll k v O es u)
  leaves_images O es u s t leaves images = weaker s t _ _ leaves images
