-- How many entries come before the snapshot that the slot in use leads to, and what an opening lists after it.
use Rattle.std.proofs.Common.{◌≡◌, inl, inr, ⊎_elim, ℕ, ◌+◌, ◌-◌, ◌≤◌, true, false, nat_lt, List, ◌∷◌, ◌++◌, length, refl, sym, ◌∙◌, ap, subst, arith, append_assoc, length-append, if◌then◌else◌}
use Rattle.std.proofs.Props.{props}
use Rattle.std.proofs.Math.Logic.{∥∥₁_elim}
use Rattle.std.proofs.lemmas.Bool.{ltb-true, ltb-false}
use Rattle.std.specs.Prelude.{Option, Some, None, unwrap_or}
use Rattle.qz_disk.specs.declared.disk.Disk.{Ghosts}
use Rattle.qz_journal.specs.declared.slots.Slots.{Slots}
use Rattle.qz_journal.specs.Layout.{Holds, blocks, body_of, end_of}
use Rattle.qz_journal.specs.Slots.{IsSlot, slot, slots_of, slot_in_use, offset_in, with_offset, free_slot}
use Rattle.qz_journal.specs.Tails.{start_at, start_of, IsCounted}
use Rattle.qz_journal.proofs.Marks.{free_is, offset_is}
use Rattle.qz_journal.proofs.Once.{holds_once}
use Rattle.qz_journal.proofs.Stands.{blocks-both}
use Rattle.qz_stores.specs.Kinds.{StoreKind, IsLawful}
use Rattle.qz_stores.specs.Bases.{ComeBefore, IsSnapshotAt, HoldAll, WholeList}
use Rattle.qz_stores.specs.Checkpoints.{IsMidway}
use Rattle.qz_stores.specs.Opening.{IsBase, OpensWith}
use Rattle.qz_stores.specs.View.{disk_state, GoesOnFrom}
use Rattle.qz_stores.specs.declared.kinds.Kind.{Ghosts as Kinds}
use Rattle.qz_stores.specs.declared.stores.Store.{Store}
use Rattle.qz_stores.proofs.Marking.{end_long}
use Rattle.qz_stores.proofs.Openings.{used, read_end, read_counts}
use Rattle.qz_stores.proofs.Whole.{cut_once}

-- The slot in use, which has the greatest offset: no smaller one than that of any open slot.
record Greatest (s : Slots) (x : ℕ) : Type 0 where
  gate : ℕ
  offset : ℕ
  in_use : slot_in_use s ≡ Some gate
  is_slot : IsSlot gate
  offset_is : offset_in s gate ≡ Some offset
  at_least : x ≤ offset

same_offset : {x y : ℕ} → Some x ≡ Some y → x ≡ y
same_offset same = cc

no_offset : {A : Type 0} {x : ℕ} → ◌≡◌ {A = Option ℕ} None (Some x) → A
no_offset none = absurd (cc)

with_a : (a b : Option ℕ) (x : ℕ) → a ≡ Some x → Greatest (record { a = a; b = b }) x
with_a None b x is = no_offset is
with_a (Some a) None x is = record { gate = 6; offset = a; in_use = refl; is_slot = inl refl; offset_is = refl; at_least = omega (arith, same_offset is) }
with_a (Some a) (Some b) x is = elim (nat_lt a b) as (λ c. nat_lt a b ≡ c → Greatest (record { a = Some a; b = Some b }) x) [
  | true ↦ λ lt. record { gate = 11; offset = b; in_use = ap (λ c. if c then Some 11 else Some 6) lt; is_slot = inr refl; offset_is = refl; at_least = omega (arith, same_offset is, ltb-true a b lt) }
  | false ↦ λ lt. record { gate = 6; offset = a; in_use = ap (λ c. if c then Some 11 else Some 6) lt; is_slot = inl refl; offset_is = refl; at_least = omega (arith, same_offset is) }
] refl

with_b : (a b : Option ℕ) (x : ℕ) → b ≡ Some x → Greatest (record { a = a; b = b }) x
with_b a None x is = no_offset is
with_b None (Some b) x is = record { gate = 11; offset = b; in_use = refl; is_slot = inr refl; offset_is = refl; at_least = omega (arith, same_offset is) }
with_b (Some a) (Some b) x is = elim (nat_lt a b) as (λ c. nat_lt a b ≡ c → Greatest (record { a = Some a; b = Some b }) x) [
  | true ↦ λ lt. record { gate = 11; offset = b; in_use = ap (λ c. if c then Some 11 else Some 6) lt; is_slot = inr refl; offset_is = refl; at_least = omega (arith, same_offset is) }
  | false ↦ λ lt. record { gate = 6; offset = a; in_use = ap (λ c. if c then Some 11 else Some 6) lt; is_slot = inl refl; offset_is = refl; at_least = omega (arith, same_offset is, ltb-false a b lt) }
] refl

-- of slots of which one was set to this offset
set_at : (gate x : ℕ) (s : Slots) → IsSlot gate → Greatest (with_offset gate (Some x) s) x
set_at gate x s (inl is) = subst (λ g. Greatest (with_offset g (Some x) s) x) (sym is) (with_a (Some x) s.b x refl)
set_at gate x s (inr is) = subst (λ g. Greatest (with_offset g (Some x) s) x) (sym is) (with_b s.a (Some x) x refl)

module _ {H S E R : Type 0} (k : StoreKind H S E R) (lawful : IsLawful k) where
  one_number : (m n : ℕ) → IsProp (m ≡ n)
  one_number m n = hlevel props

  -- Further payloads change nothing of that.
  still_counts : (O : S) (o : Option ℕ) (start n : ℕ) (ps qs : List (List ℕ)) (es : List E) → ((gate : ℕ) → o ≡ Some gate → ∥ IsSnapshotAt k O ps es start ∥₁) → ComeBefore k o start ps n → ComeBefore k o start (ps ++ qs) n
  still_counts O None start n ps qs es there before = before
  still_counts O (Some gate) start n ps qs es there before = λ front from parts start_is T b m snapshot.
      ∥∥₁_elim (there gate refl) (one_number m n) (λ at.
      let U = k.replay_from O at.earlier in
      let long : length (blocks at.before) ≡ length (blocks front) = omega (arith, at.offset_is, start_is) in
      let cut = cut_once at.before (at.from ++ qs) front from (sym (append_assoc at.before at.from qs) ∙ ap (λ (l : List (List ℕ)). l ++ qs) (sym at.payloads_are) ∙ parts) long in
      let here = subst (λ (l : List (List ℕ)). k.BeginSnapshot l U (length at.before) (length at.earlier)) cut.1 (lawful.snapshot_more at.from qs U (length at.before) (length at.earlier) at.snapshot) in
      (lawful.snapshots_once from T U b (length at.before) m (length at.earlier) snapshot here).1 ∙ before at.before at.from at.payloads_are at.offset_is U (length at.before) (length at.earlier) at.snapshot)

  -- So many are they in one way at most.
  one_count : (O : S) (o : Option ℕ) (start m n : ℕ) (ps : List (List ℕ)) (es : List E) → ((gate : ℕ) → o ≡ Some gate → ∥ IsSnapshotAt k O ps es start ∥₁) → ComeBefore k o start ps m → ComeBefore k o start ps n → m ≡ n
  one_count O None start m n ps es there one two = one ∙ sym two
  one_count O (Some gate) start m n ps es there one two =
      ∥∥₁_elim (there gate refl) (one_number m n) (λ at.
      let U = k.replay_from O at.earlier in
      sym (one at.before at.from at.payloads_are at.offset_is U (length at.before) (length at.earlier) at.snapshot) ∙ two at.before at.from at.payloads_are at.offset_is U (length at.before) (length at.earlier) at.snapshot)

  -- A snapshot stands at the slot in use.
  at_use : (v : ℕ) (O : S) (b : List ℕ) (es : List E) (s : Slots) (ps : List (List ℕ)) → HoldAll k v O b es → s ≡ slots_of b → Holds b v k.number ps → (gate : ℕ) → slot_in_use s ≡ Some gate → ∥ IsSnapshotAt k O ps es (start_of s) ∥₁
  at_use v O b es s ps held s_is holds gate is =
      let u = used b gate (ap slot_in_use (sym s_is) ∙ is) in
      subst (λ n. ∥ IsSnapshotAt k O ps es n ∥₁) (sym (ap start_of s_is ∙ u.start_is)) (held.slots ps holds gate u.offset u.is_slot u.opened)

  -- A journal with the same slots has some payloads more.
  pub appended_counts : (v n : ℕ) (O : S) (b c : List ℕ) (es : List E) (s t : Slots) (ps qs rs : List (List ℕ)) → HoldAll k v O b es → s ≡ slots_of b → t ≡ s → Holds b v k.number ps → Holds c v k.number (ps ++ qs) → Holds c v k.number rs
      → ComeBefore k (slot_in_use s) (start_of s) ps n → ComeBefore k (slot_in_use t) (start_of t) rs n
  appended_counts v n O b c es s t ps qs rs held s_is t_is holds after also before =
      subst (λ x. ComeBefore k (slot_in_use x) (start_of x) rs n) (sym t_is)
      (subst (λ (l : List (List ℕ)). ComeBefore k (slot_in_use s) (start_of s) l n) (holds_once c v v k.number (ps ++ qs) rs after also)
      (still_counts O (slot_in_use s) (start_of s) n ps qs es (at_use v O b es s ps held s_is holds) before))

  -- A snapshot has a payload, so its slot leads to one.
  inside : (O : S) (offset : ℕ) (ps : List (List ℕ)) (es : List E) → IsSnapshotAt k O ps es offset → end_of ps ≤ offset → ⊥
  inside O offset ps es at late =
      let h = lawful.headed at.from (k.replay_from O at.earlier) (length at.before) (length at.earlier) at.snapshot in
      absurd (omega (
        arith,
        late,
        at.offset_is,
        ap (λ (l : List (List ℕ)). length (blocks l)) at.payloads_are,
        ap length (blocks-both at.before at.from),
        length-append (blocks at.before) (blocks at.from),
        ap (λ (l : List (List ℕ)). length (blocks l)) h.2,
        length-append (body_of h.0) (blocks h.1),
      ))

  -- A checkpoint set the free slot to the gate.
  pub marked_counts : (v gate n : ℕ) (O T : S) (b c : List ℕ) (es : List E) (s t : Slots) (rs : List (List ℕ)) → (held : HoldAll k v O b es) → t ≡ slots_of c → t ≡ with_offset (free_slot s) (Some gate) s → gate ≡ end_of held.store.0
      → IsMidway k v T n b held.store.0 c → Holds c v k.number rs → ComeBefore k (slot_in_use t) (start_of t) rs n
  marked_counts v gate n O T b c es s t rs held t_is set gate_is midway also =
      let ps = held.store.0 in
      let u = subst (λ x. Greatest x gate) (sym set) (set_at (free_slot s) gate s (free_is s)) in
      let opened : slot u.gate c ≡ Some u.offset = sym (offset_is u.gate t c u.is_slot (record { a = ap (λ (x : Slots). x.a) t_is; b = ap (λ (x : Slots). x.b) t_is })) ∙ u.offset_is in
      let start : start_of t ≡ u.offset = ap (λ o. start_at o t) u.in_use ∙ ap (λ o. unwrap_or o 16) u.offset_is in
      let same : ps ++ midway.parts ≡ rs = holds_once c v v k.number (ps ++ midway.parts) rs midway.holds also in
      subst (λ o. ComeBefore k o (start_of t) rs n) (sym u.in_use) (⊎_elim
      (λ was. absurd (∥∥₁_elim (held.slots ps held.store.1 u.gate u.offset u.is_slot was) (λ x y. absurd x) (λ at. inside O u.offset ps es at (omega (arith, u.at_least, gate_is)))))
      (λ new front from parts start_is U before m snapshot.
      let long : length (blocks ps) ≡ length (blocks front) = omega (arith, start, start_is, new.0) in
      let cut = cut_once ps midway.parts front from (same ∙ parts) long in
      (lawful.snapshots_once from U T before (length ps) m n snapshot (subst (λ (l : List (List ℕ)). k.BeginSnapshot l T (length ps) n) cut.1 new.1)).1)
      (midway.slots u.gate u.offset u.is_slot opened))

  -- so many payloads stand before those that an opening reads
  counted_by : (o : Option ℕ) (v n : ℕ) (tail : List (List ℕ)) (T : S) → IsBase k o v tail T n → (count : ℕ) × IsCounted o count tail
  counted_by None v n tail T base = (length tail, refl)
  counted_by (Some gate) v n tail T base =
      let h = lawful.headed tail T base.before n base.snapshot in
      (base.before + length (h.0 ∷ h.1), subst (IsCounted (Some gate) (base.before + length (h.0 ∷ h.1))) (sym h.2) (h.3, ap (λ x. x + length (h.0 ∷ h.1)) (sym h.4)))

  pub opens_with : (v n m : ℕ) (O : S) (b : List ℕ) (es : List E) (s : Slots) → (held : HoldAll k v O b es) → s ≡ slots_of b → ComeBefore k (slot_in_use s) (start_of s) held.store.0 n → m + n ≡ length es → OpensWith k b m
  opens_with v n m O b es s held s_is before many x h stands =
      let ps = held.store.0 in
      let o = slot_in_use (slots_of b) in
      let n1 = k.base_count h in
      let counted = counted_by o x n1 stands.payloads (k.base h) stands.read.base in
      let end = read_end k lawful v x counted.0 O b es stands.payloads held stands.tail counted.1 n1 (k.base h) (k.entries h) stands.read in
      let here = read_counts k lawful v x counted.0 O b es stands.payloads held stands.tail counted.1 n1 (k.base h) stands.read.base ps held.store.1 in
      let first : ComeBefore k o (start_of (slots_of b)) ps n = subst (λ y. ComeBefore k (slot_in_use y) (start_of y) ps n) s_is before in
      let same : n1 ≡ n = one_count O o (start_of (slots_of b)) n1 n ps es (at_use v O b es (slots_of b) ps held refl held.store.1) here first in
      omega (arith, same, many, end_long k lawful O n1 (k.base h) (k.entries h) es end)

-- of an open store
pub next_opening : {D K E R C : Type 0} {g : Ghosts D} {k : Kinds K E R C} → IsLawful k.kind → (s : Store D K E R C g k) → g.honest → s.is_open ≡ true → (w : WholeList k.State E) → GoesOnFrom s w → OpensWith k.kind (disk_state s).content (s.count - s.snapshot)
next_opening {g = g} {k = k} lawful s honest opened w from =
    let whole = w.entries ++ from.0 in
    let first : HoldAll k.kind s.version w.start (g.state s.opened.value.disk).content whole = subst (λ x. HoldAll k.kind x w.start (g.state s.opened.value.disk).content whole) (sym from.1) from.2 in
    let held = s.stands honest opened w.start whole first in
    let slots : s.journal.slots ≡ slots_of (disk_state s).content = λ i. record { a = s.journal.slot_a honest (s.ready opened) i; b = s.journal.slot_b honest (s.ready opened) i } in
    let long = end_long k.kind lawful w.start s.base_count (k.state s.base.value) s.found.items whole (s.ended honest w.start whole first) in
    opens_with k.kind lawful s.version s.snapshot (s.count - s.snapshot) w.start (disk_state s).content (whole ++ s.added.items) s.journal.slots held slots (s.marked honest opened w.start whole first held.store.0 held.store.1)
    (omega (arith, s.taken, s.counted, long, length-append s.found.items s.added.items, length-append whole s.added.items))
