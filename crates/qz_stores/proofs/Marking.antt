-- A checkpoint leaves the whole list.
use Rattle.std.proofs.Common.{◌≡◌, inl, inr, ⊎_elim, ℕ, ◌+◌, List, [], ◌++◌, length, take, refl, sym, ◌∙◌, ap, subst, arith, append-nil, length-append}
use Rattle.std.proofs.lemmas.List.{length-take-le}
use Rattle.std.specs.Prelude.{Option, None}
use Rattle.std.specs.List.{AllZip}
use Rattle.qz_disk.specs.Disk.{DiskState, IsLawful as DiskIsLawful, LeavesOnly}
use Rattle.qz_disk.proofs.Moments.{weaker}
use Rattle.qz_journal.specs.Layout.{Holds, end_of}
use Rattle.qz_journal.proofs.Once.{holds_once}
use Rattle.qz_stores.specs.Kinds.{StoreKind, IsLawful}
use Rattle.qz_stores.specs.Bases.{IsSnapshotAt, HoldAll, MayHoldAll, IsEndOf}
use Rattle.qz_stores.specs.Checkpoints.{IsMidway}
use Rattle.qz_stores.proofs.WholeBytes.{whole_more, end_parts}
use Rattle.qz_stores.proofs.Appending.{IsGate, whole_leaves}

module _ {H S E R : Type 0} (k : StoreKind H S E R) (lawful : IsLawful k) where
  -- so many entries a history has that is an end of the whole list
  pub end_long : (O : S) (n : ℕ) (B : S) (found whole : List E) → IsEndOf k O (k.history n B found) whole → n + length found ≡ length whole
  end_long O n B found whole is =
      let h = k.history n B found in
      omega (arith, lawful.base_count_is n B found, ap (λ (l : List E). length l) (lawful.entries_are n B found), ap (λ (l : List E). length l) (end_parts k lawful O h whole is), length-append (take (k.base_count h) whole) (k.entries h), length-take-le (k.base_count h) whole is.there)

  module _ (v count n : ℕ) (O T : S) (b : List ℕ) (es : List E) (held : HoldAll k v O b es) (T_is : T ≡ k.replay_from O es) (n_is : n ≡ length es) where
    -- the snapshot that a slot leads to
    new_snapshot : (offset : ℕ) (parts : List (List ℕ)) → offset ≡ end_of held.store.0 → k.BeginSnapshot parts T (length held.store.0) n → IsSnapshotAt k O (held.store.0 ++ parts) (es ++ []) offset
    new_snapshot offset parts offset_is snapshot = record {
      before = held.store.0;
      from = parts;
      earlier = es;
      later = [];
      payloads_are = refl;
      entries_are = refl;
      offset_is = offset_is;
      recorded = held.recorded held.store.0 held.store.1;
      snapshot = subst (λ (U : S). k.BeginSnapshot parts U (length held.store.0) (length es)) T_is (subst (k.BeginSnapshot parts T (length held.store.0)) n_is snapshot);
    }

    pub whole_midway : (c : List ℕ) → IsMidway k v T n b held.store.0 c → HoldAll k v O c es
    whole_midway c midway =
        let nothing : es ++ [] ≡ es = append-nil es in
        subst (HoldAll k v O c) nothing (whole_more k lawful v O b c held.store.0 midway.parts es [] held.store.1 held midway.holds
        (subst (λ (l : List (List ℕ)). ∥ AllZip k.IsRecordOf l [] ∥₁) (sym midway.passed) ∣ tt ∣₁)
        (subst (λ (l : List E). ∥ k.IsLegalFrom O l ∥₁) (sym nothing) held.legal)
        (λ gate offset is opened. ⊎_elim inl (λ new. inr (new_snapshot offset midway.parts new.0 new.1)) (midway.slots gate offset is opened)) midway.in_use)

  -- The store's journal took a checkpoint: each moment of it left the whole list.
  pub marked : (v w gate count n entries : ℕ) (O B T : S) (found added whole : List E) (b : List ℕ) (s t : DiskState) → w ≡ v → T ≡ k.replay_from B (found ++ added) → entries ≡ n + length (found ++ added) → IsEndOf k O (k.history n B found) whole → HoldAll k v O b (whole ++ added)
      → IsGate k lawful v gate count b → ((ps : List (List ℕ)) → Holds b w k.number ps → gate ≡ end_of ps → count ≡ length ps → LeavesOnly s t (IsMidway k w T entries b ps)) → LeavesOnly s t (λ c. HoldAll k v O c (whole ++ added))
  marked v w gate count n entries O B T found added whole b s t same T_is entries_is is held gated leaves =
      let ps = held.store.0 in
      let here = gated ps held.store.1 in
      let long : entries ≡ length (whole ++ added) = omega (arith, entries_is, end_long O n B found whole is, length-append found added, length-append whole added) in
      let state = whole_leaves k lawful v O n B T found added whole T_is is in
      weaker s t _ _ (leaves ps (subst (λ x. Holds b x k.number ps) (sym same) held.store.1) here.0 here.1) (λ c midway. whole_midway v count entries O T b (whole ++ added) held state long c (subst (λ x. IsMidway k x T entries b ps c) same midway))

  -- and the gate comes after the snapshot
  pub marked_gate : (v w gate count after more : ℕ) (snapshot : List (List ℕ)) (b c : List ℕ) (O : S) (es : List E) → w ≡ v → HoldAll k v O b es → IsGate k lawful v gate count b
      → ((ps : List (List ℕ)) → Holds b w k.number ps → gate ≡ end_of ps → count ≡ length ps → Holds c w k.number (ps ++ snapshot) × (after ≡ end_of (ps ++ snapshot)) × (more ≡ length (ps ++ snapshot))) → IsGate k lawful v after more c
  marked_gate v w gate count after more snapshot b c O es same held gated stands qs holds =
      let ps = held.store.0 in
      let here = gated ps held.store.1 in
      let now = stands ps (subst (λ x. Holds b x k.number ps) (sym same) held.store.1) here.0 here.1 in
      let one : ps ++ snapshot ≡ qs = holds_once c v v k.number (ps ++ snapshot) qs (subst (λ x. Holds c x k.number (ps ++ snapshot)) same now.0) holds in
      (now.1 ∙ ap end_of one, now.2 ∙ ap (λ (l : List (List ℕ)). length l) one)

  -- with no entry undecided
  pub settled_leaves : (v : ℕ) (O : S) (es : List E) (u : Option E) (s t : DiskState) → u ≡ None → LeavesOnly s t (λ c. HoldAll k v O c es) → LeavesOnly s t (MayHoldAll k v O es u)
  settled_leaves v O es u s t none leaves = weaker s t _ _ leaves (λ c held. subst (λ x. MayHoldAll k v O es x c) (sym none) held)

  pub images_left : (v : ℕ) (O : S) (es : List E) (u : Option E) (s t : DiskState) → DiskIsLawful t → LeavesOnly s t (MayHoldAll k v O es u) → (b : List ℕ) → t.IsImage b → MayHoldAll k v O es u b
  images_left v O es u s t disk leaves b is = leaves.each b (disk.counts_now s.clock b leaves.later is)
