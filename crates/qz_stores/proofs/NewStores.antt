-- Bytes with a new header and a closed gate are a store whose whole list is empty.
use Rattle.std.proofs.Common.{◌≡◌, inl, inr, ℕ, ◌+◌, ◌≤◌, true, List, [], ◌++◌, length, take, drop, refl, sym, ◌∙◌, ap, subst, arith}
use Rattle.std.specs.Prelude.{Option, Some, None}
use Rattle.qz_disk.specs.declared.disk.Disk.{Ghosts}
use Rattle.qz_disk.specs.Disk.{DiskState}
use Rattle.qz_journal.specs.Layout.{new_header, end_of, Holds}
use Rattle.qz_journal.specs.Making.{IsNew}
use Rattle.qz_journal.specs.Slots.{IsSlot, slot, slots_of, gate_of_greater, slot_in_use}
use Rattle.qz_journal.proofs.Once.{holds_once}
use Rattle.qz_journal.proofs.SlotBytes.{slot_before}
use Rattle.qz_stores.specs.Kinds.{StoreKind, IsLawful}
use Rattle.qz_stores.specs.Bases.{RecordEntries, HoldAll, IsEndOf, WholeList, list_of, IsWhole, Stands}
use Rattle.qz_stores.specs.Opening.{IsRead}
use Rattle.qz_stores.specs.View.{view, disk_state, opened_of, GoesOnFrom}
use Rattle.qz_stores.specs.declared.kinds.Kind.{Ghosts as Kinds}
use Rattle.qz_stores.specs.declared.stores.Store.{Store}
use Rattle.qz_stores.proofs.WholeBytes.{whole_once}

closed_six : (v kind : ℕ) → slot 6 (new_header v kind) ≡ None
unfolding slot
closed_six v kind = refl

closed_eleven : (v kind : ℕ) → slot 11 (new_header v kind) ≡ None
unfolding slot
closed_eleven v kind = refl

none_some : (x : ℕ) → ◌≡◌ {A = Option ℕ} None (Some x) → ⊥
none_some x is = cc

-- no slot of a new header is open
none_open : (v kind gate offset : ℕ) → IsSlot gate → slot gate (new_header v kind) ≡ Some offset → ⊥
none_open v kind gate offset (inl is) opened = none_some offset (sym (closed_six v kind) ∙ subst (λ g. slot g (new_header v kind) ≡ Some offset) is opened)
none_open v kind gate offset (inr is) opened = none_some offset (sym (closed_eleven v kind) ∙ subst (λ g. slot g (new_header v kind) ≡ Some offset) is opened)

-- the header is its first 16 bytes
take_header : (v kind : ℕ) → take 16 (new_header v kind) ≡ new_header v kind
take_header v kind = refl

early : (gate : ℕ) → IsSlot gate → gate + 5 ≤ 16
early gate (inl is) = omega (arith, is)
early gate (inr is) = omega (arith, is)

-- nor is one in bytes that begin with it
pub closed_new : (v kind gate offset : ℕ) (b : List ℕ) → IsSlot gate → take 16 b ≡ new_header v kind → slot gate b ≡ Some offset → ⊥
closed_new v kind gate offset b is header opened = none_open v kind gate offset is (sym (slot_before gate 16 (new_header v kind) b (early gate is) (header ∙ sym (take_header v kind))) ∙ opened)

module _ {H S E R : Type 0} (k : StoreKind H S E R) (lawful : IsLawful k) where
  pub new_whole : (v : ℕ) (b : List ℕ) → Holds b v k.number [] → take 16 b ≡ new_header v k.number → IsWhole k (list_of k v []) b
  new_whole v b holds header = record {
    store = ([], holds);
    recorded = λ ps also. subst (λ (l : List (List ℕ)). RecordEntries k l []) (holds_once b v v k.number [] ps holds also) ∣ tt ∣₁;
    valid = lawful.valid_new v holds.header.known;
    legal = ∣ lawful.legal_none (k.empty v) ∣₁;
    slots = λ ps also gate offset is opened.
        absurd (closed_new v k.number gate offset b is header opened);
    begins = λ none. refl;
  }

  -- what was opened on such bytes is the history of a new store
  pub new_found : (v : ℕ) (b : List ℕ) (h : H) → IsWhole k (list_of k v []) b → Stands k (list_of k v []) b h → h ≡ k.history 0 (k.empty v) []
  new_found v b h none stands =
      let none_more : stands.more ≡ [] = whole_once k lawful v (k.empty v) b stands.more [] stands.held none in
      let end : IsEndOf k (k.empty v) h [] = subst (IsEndOf k (k.empty v) h) none_more stands.end_of_them in
      let count : k.base_count h ≡ 0 = omega (arith, end.there) in
      let base : k.base h ≡ k.empty v = end.base ∙ ap (λ n. k.replay_from (k.empty v) (take n [])) count ∙ lawful.replay_none (k.empty v) in
      let entries : k.entries h ≡ [] = end.rest ∙ ap (λ n. drop n []) count in
      sym (lawful.whole h) ∙ (λ i. k.history (count i) (base i) (entries i))

  -- what is read of such bytes
  pub none_read : (v : ℕ) (T : S) → T ≡ k.empty v → IsRead k None v [] 0 T []
  none_read v T is = record { base = (is, refl); taken = record { recorded = ∣ tt ∣₁; valid = tt; legal = lawful.legal_none T } }

  -- and a whole list that they hold is that of no entries
  pub new_end : (v : ℕ) (O : S) (b : List ℕ) (T : S) (whole : List E) → T ≡ k.empty v → IsWhole k (list_of k v []) b → O ≡ k.empty v → HoldAll k v O b whole → IsEndOf k O (k.history 0 T []) whole
  new_end v O b T whole is none start held =
      let same : [] ≡ whole = whole_once k lawful v (k.empty v) b [] whole none (subst (λ (U : S). HoldAll k v U b whole) start held) in
      let count : k.base_count (k.history 0 T []) ≡ 0 = lawful.base_count_is 0 T [] in
      subst (IsEndOf k O (k.history 0 T [])) same (record {
        there = omega (arith, count);
        rest = lawful.entries_are 0 T [] ∙ sym (ap (λ n. drop n []) count);
        base = lawful.base_is 0 T [] ∙ is ∙ sym start ∙ sym (lawful.replay_none O) ∙ sym (ap (λ n. k.replay_from O (take n [])) count);
      })

  -- A journal was made, and nothing was read of it.
  pub new_here : (v number : ℕ) (s t : DiskState) → number ≡ k.number → IsNew v number s t → IsWhole k (list_of k v []) t.content
  new_here v number s t is new = new_whole v t.content (subst (λ n. Holds t.content v n []) is new.empty) (new.header ∙ ap (new_header v) is)

  -- both slots of it are closed, so a list that it holds starts as a new store does
  pub new_slots : (v number : ℕ) (s t : DiskState) → IsNew v number s t → slot_in_use (slots_of t.content) ≡ None
  new_slots v number s t new =
      let header : take 16 t.content ≡ take 16 (new_header v number) = new.header ∙ sym (take_header v number) in
      (λ i. gate_of_greater (slot_before 6 16 (new_header v number) t.content (omega arith) header i) (slot_before 11 16 (new_header v number) t.content (omega arith) header i)) ∙ (λ i. gate_of_greater (closed_six v number i) (closed_eleven v number i))

  pub read_end : (v x n number : ℕ) (O : S) (s t : DiskState) (T : S) (es whole : List E) → x ≡ v → n ≡ 0 → T ≡ k.empty v → es ≡ [] → number ≡ k.number → IsNew v number s t → HoldAll k x O t.content whole → IsEndOf k O (k.history n T es) whole
  read_end v x n number O s t T es whole x_is n_is T_is es_is is new held =
      let here = subst (λ y. HoldAll k y O t.content whole) x_is held in
      subst (λ h. IsEndOf k O h whole) (λ i. k.history (sym n_is i) T (sym es_is i)) (new_end v O t.content T whole T_is (new_here v number s t is new) (here.begins (new_slots v number s t new)) here)

  pub read_gate : (v number x gate count : ℕ) (s t : DiskState) (ps : List (List ℕ)) → number ≡ k.number → IsNew v number s t → Holds t.content x k.number ps → gate ≡ end_of [] → count ≡ 0
      → (gate ≡ end_of ps) × (count ≡ length ps)
  read_gate v number x gate count s t ps is new holds gate_is count_is =
      let same : [] ≡ ps = holds_once t.content v x k.number [] ps (subst (λ n. Holds t.content v n []) is new.empty) holds in
      (gate_is ∙ ap end_of same, count_is ∙ ap length same)

-- The gate of a store whose disk has no payload is the first one.
pub placed_new : {D K E R C : Type 0} {g : Ghosts D} {k : Kinds K E R C} (s : Store D K E R C g k) → g.honest → s.is_open ≡ true → (w : WholeList k.State E) → GoesOnFrom s w
    → Holds (disk_state s).content w.version k.kind.number [] → ((view s).gate ≡ 16) × ((view s).payloads ≡ 0)
placed_new {k = k} s honest opened w on holds =
    s.gated honest opened w.start (w.entries ++ on.0) (subst (λ v. HoldAll k.kind v w.start (opened_of s) (w.entries ++ on.0)) (sym on.1) on.2) [] (subst (λ v. Holds (disk_state s).content v k.kind.number []) (sym on.1) holds)
