-- A store that begins with a snapshot: what a crash leaves of its beginning, and which whole list it holds.
use Rattle.std.proofs.Common.{◌≡◌, ◌⊎◌, inl, inr, ⊎_elim, ℕ, List, [], ◌∷◌, ◌++◌, length, refl, sym, ◌∙◌, ap, subst, arith}
use Rattle.std.proofs.Math.Logic.{∥∥₁_elim}
use Rattle.std.specs.Prelude.{Option, Some, None}
use Rattle.std.specs.List.{AllZip}
use Rattle.qz_disk.specs.Disk.{DiskState, Only, Stays, Torn, LeavesOnly}
use Rattle.qz_disk.proofs.Moments.{torn_same, weaker, then_leaves}
use Rattle.qz_journal.specs.Beginning.{LeadsToAll, IsNoneOrAll, Begins}
use Rattle.qz_journal.specs.Layout.{Holds, IsStore, HasStore, other_kind, blocks, end_of}
use Rattle.qz_journal.specs.Slots.{IsSlot, slot, slots_of, gate_of_greater, slot_in_use}
use Rattle.qz_journal.specs.Tails.{start_of}
use Rattle.qz_journal.specs.declared.slots.Slots.{Slots}
use Rattle.qz_journal.specs.declared.errors.NewStoreError.{NewStoreError}
use Rattle.qz_journal.specs.declared.errors.NewStoreError.TheVariants as new_store
use Rattle.qz_journal.proofs.Once.{holds_once}
use Rattle.qz_stores.specs.Kinds.{StoreKind, IsLawful}
use Rattle.qz_stores.specs.Bases.{records, RecordEntries, ComeBefore, IsSnapshotAt, HoldAll, IsEndOf, IsWhole}
use Rattle.qz_stores.specs.Compacting.{compacted_list, IsNoneOrBegun, IsFoundFree, IsCompactedOr, Compacts}
use Rattle.qz_stores.specs.declared.compacting.CompactError.{CompactError}
use Rattle.qz_stores.specs.declared.compacting.CompactError.TheVariants as compact
use Rattle.qz_stores.specs.Facts.{IsEndOf-prop}
use Rattle.qz_stores.proofs.Whole.{cut_once, recorded_once, end_as}

none_some : (x : ℕ) → ◌≡◌ {A = Option ℕ} None (Some x) → ⊥
none_some x is = cc

same_offset : (a b : ℕ) → Some a ≡ Some b → b ≡ a
same_offset a b is = cc

-- both parts of an empty list are
front_is : {A : Type 0} (xs ys : List A) → [] ≡ xs ++ ys → (xs ≡ []) × (ys ≡ [])
front_is [] ys is = (refl, sym is)
front_is (x ∷ xs) ys is = absurd cc

pub begins_as : (v number kind : ℕ) (ps qs : List (List ℕ)) (o : Option NewStoreError) (s t : DiskState) → number ≡ kind → ps ≡ qs → Begins v number ps o s t → Begins v kind qs o s t
begins_as v number kind ps qs o s t is are begun = subst (λ (l : List (List ℕ)). Begins v kind l o s t) are (subst (λ (n : ℕ). Begins v n ps o s t) is begun)

module _ {H S E R : Type 0} (k : StoreKind H S E R) (lawful : IsLawful k) (v : ℕ) (T : S) where
  -- each slot that is open leads to the snapshot
  with_slot : (c : List ℕ) (parts : List (List ℕ)) (gate : ℕ) → Holds c v k.number parts → records k parts ≡ [] → ∥ k.IsValid T ∥₁ → slot_in_use (slots_of c) ≡ Some gate
      → ((g offset : ℕ) → IsSlot g → slot g c ≡ Some offset → (offset ≡ end_of []) × k.BeginSnapshot parts T 0 0) → IsWhole k (compacted_list v T) c
  with_slot c parts gate holds none valid in_use led = record {
    store = (parts, holds);
    recorded = λ ps also. subst (λ (l : List (List ℕ)). RecordEntries k l []) (holds_once c v v k.number parts ps holds also) (subst (λ (l : List (List ℕ)). ∥ AllZip k.IsRecordOf l [] ∥₁) (sym none) ∣ tt ∣₁);
    valid = valid;
    legal = ∣ lawful.legal_none T ∣₁;
    slots = λ ps also g offset is opened. subst (λ (l : List (List ℕ)). ∥ IsSnapshotAt k T l [] offset ∥₁) (holds_once c v v k.number parts ps holds also) ∣ there offset (led g offset is opened) ∣₁;
    begins = λ closed. absurd (none_some gate (sym closed ∙ in_use));
  }
    where
      there : (offset : ℕ) → (offset ≡ end_of []) × k.BeginSnapshot parts T 0 0 → IsSnapshotAt k T parts [] offset
      there offset begun = record {
        before = [];
        from = parts;
        earlier = [];
        later = [];
        payloads_are = refl;
        entries_are = refl;
        offset_is = begun.0;
        recorded = ∣ tt ∣₁;
        snapshot = subst (λ (U : S). k.BeginSnapshot parts U 0 0) (sym (lawful.replay_none T)) begun.1;
      }

  -- These payloads are a snapshot of the state, and stand behind the first gate, to which slot A leads.
  module _ (parts : List (List ℕ)) (begins : k.BeginSnapshot parts T 0 0) (none : records k parts ≡ []) (valid : ∥ k.IsValid T ∥₁) where
    led_to : (c : List ℕ) → LeadsToAll v k.number parts c → (g offset : ℕ) → IsSlot g → slot g c ≡ Some offset → (offset ≡ end_of []) × k.BeginSnapshot parts T 0 0
    led_to c m g offset (inl is) opened = (same_offset 16 offset (sym m.slot_a ∙ subst (λ x. slot x c ≡ Some offset) is opened), begins)
    led_to c m g offset (inr is) opened = absurd (none_some offset (sym m.slot_b ∙ subst (λ x. slot x c ≡ Some offset) is opened))

    pub compacted_of : (c : List ℕ) → LeadsToAll v k.number parts c → IsWhole k (compacted_list v T) c
    compacted_of c m = with_slot c parts 6 m.holds none valid (λ i. gate_of_greater (m.slot_a i) (m.slot_b i)) (led_to c m)

    -- what a crash in that leaves
    pub begun : (c : List ℕ) → IsNoneOrAll v k.number parts c → IsNoneOrBegun k v T c
    begun c (inl none_there) = inl none_there
    begun c (inr m) = inr (compacted_of c m)

    -- The history with this base is an end of each list that the bytes hold.
    pub compacted_end : (c : List ℕ) (m : LeadsToAll v k.number parts c) (O : S) (whole : List E) → HoldAll k v O c whole → IsEndOf k O (k.history 0 T []) whole
    compacted_end c m O whole held =
        let nothing : whole ≡ [] = recorded_once k lawful parts whole [] (held.recorded parts m.holds) (subst (λ (l : List (List ℕ)). ∥ AllZip k.IsRecordOf l [] ∥₁) (sym none) ∣ tt ∣₁) in
        ∥∥₁_elim (held.slots parts m.holds 6 16 (inl refl) m.slot_a) (IsEndOf-prop k O (k.history 0 T []) whole) (λ at.
        let both = front_is at.earlier at.later (sym nothing ∙ at.entries_are) in
        let short : length (blocks at.before) ≡ 0 = omega (arith, at.offset_is) in
        let same = cut_once at.before at.from [] parts (sym at.payloads_are) short in
        let mine = subst (λ (l : List (List ℕ)). k.BeginSnapshot l (k.replay_from O at.earlier) (length at.before) (length at.earlier)) same.1 at.snapshot in
        let state = (lawful.snapshots_once parts T (k.replay_from O at.earlier) 0 (length at.before) 0 (length at.earlier) begins mine).0 in
        end_as k lawful O 0 T [] whole at.earlier at.later at.entries_are (sym (ap length both.0)) state (sym both.1))

    -- No entry comes before the snapshot at the first slot.
    pub compacted_counts : (c : List ℕ) (m : LeadsToAll v k.number parts c) (s : Slots) (ps : List (List ℕ)) → s ≡ record { a = Some 16; b = None } → Holds c v k.number ps → ComeBefore k (slot_in_use s) (start_of s) ps 0
    compacted_counts c m s ps s_is holds = subst (λ x. ComeBefore k (slot_in_use x) (start_of x) ps 0) (sym s_is) (λ front from parts_are start_is U b n snapshot.
        let same : parts ≡ ps = holds_once c v v k.number parts ps m.holds holds in
        let short : 0 ≡ length (blocks front) = omega (arith, start_is) in
        let cut = cut_once [] parts front from (same ∙ parts_are) short in
        (lawful.snapshots_once from U T b 0 n 0 snapshot (subst (λ (l : List (List ℕ)). k.BeginSnapshot l T 0 0) cut.1 begins)).1)

    -- A disk was looked at, which begins with no store, and then a store was to be begun on it.
    module _ (a b c : DiskState) (free : HasStore k.number a.content → ⊥) (stays : Stays a b) (looks : LeavesOnly a b a.IsImage) where
      moments : (o : Option NewStoreError) → Begins v k.number parts o b c → (bytes : List ℕ) → Only bytes a → LeavesOnly a c (λ x. Torn 0 17 bytes x ⊎ IsNoneOrBegun k v T x)
      moments o m bytes only =
          then_leaves a b c _ _ _ looks (m.any_moment bytes (λ x is. only x ((stays.images x).0 is)))
          (λ x is. inl (subst (λ y. Torn 0 17 bytes y) (sym (only x is)) (torn_same 0 17 bytes)))
          (λ x either. ⊎_elim inl (λ there. inr (begun x there)) either)

      compacts : (o : Option NewStoreError) (x : Option CompactError) → Begins v k.number parts o b c → IsFoundFree k a.content x → IsCompactedOr k v T x a c → Compacts k v T x a c
      compacts o x m found made = record {
        found = found;
        made = made;
        kept = λ has. absurd (free has);
        kept_at_any_moment = λ has. absurd (free has);
        any_moment = moments o m;
      }

      as_it_was : Stays b c → Stays a c
      as_it_was later = record { content = later.content ∙ stays.content; images = λ x. (λ is. (stays.images x).0 ((later.images x).0 is), λ is. (later.images x).1 ((stays.images x).1 is)) }

      pub was_begun : Begins v k.number parts None b c → Compacts k v T None a c
      was_begun m = compacts None None m free (compacted_of c.content m.made.0, m.made.1)

      pub not_begun : (e : NewStoreError) (x : CompactError) → (e ≡ new_store.NoMemory → x ≡ compact.NoMemory) → (e ≡ new_store.Fault → x ≡ compact.Fault) → Begins v k.number parts (Some e) b c → Compacts k v T (Some x) a c
      not_begun new_store.Exists x memory fault m = absurd (free (inl (subst (λ (l : List ℕ). IsStore k.number l) stays.content m.found)))
      not_begun new_store.OtherKind x memory fault m = absurd (free (inr (subst (λ (l : List ℕ). IsStore (other_kind k.number) l) stays.content m.found)))
      not_begun new_store.NoMemory x memory fault m = subst (λ y. Compacts k v T (Some y) a c) (sym (memory refl)) (compacts (Some new_store.NoMemory) (Some compact.NoMemory) m free (as_it_was m.made))
      not_begun new_store.Fault x memory fault m = subst (λ y. Compacts k v T (Some y) a c) (sym (fault refl)) (compacts (Some new_store.Fault) (Some compact.Fault) m tt tt)

-- The disk was only looked at.
module _ {H S E R : Type 0} (k : StoreKind H S E R) (v : ℕ) (T : S) (a b : DiskState) (stays : Stays a b) (looks : LeavesOnly a b a.IsImage) where
  looked_or : (x : CompactError) → IsCompactedOr k v T (Some x) a b
  looked_or compact.Exists = stays
  looked_or compact.OtherKind = stays
  looked_or compact.NoMemory = stays
  looked_or (compact.NoRoom need room) = stays
  looked_or compact.Fault = tt

  pub not_wanted : (x : CompactError) → IsFoundFree k a.content (Some x) → Compacts k v T (Some x) a b
  not_wanted x found = record {
    found = found;
    made = looked_or x;
    kept = λ has. stays;
    kept_at_any_moment = λ has. looks;
    any_moment = λ bytes only. weaker a b _ _ looks (λ x is. inl (subst (λ y. Torn 0 17 bytes y) (sym (only x is)) (torn_same 0 17 bytes)));
  }
