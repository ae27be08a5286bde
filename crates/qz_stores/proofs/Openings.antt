-- What an opening from the slot in use on reads is an end of the whole list, where the bytes hold one.
use Rattle.std.proofs.Common.{◌≡◌, ◌⊎◌, inl, inr, ⊎_elim, ℕ, false, List, [], ◌∷◌, ◌++◌, length, take, refl, sym, ◌∙◌, ap, subst, arith}
use Rattle.std.proofs.Props.{props}
use Rattle.std.proofs.Math.Logic.{∥∥₁_elim}
use Rattle.std.specs.Prelude.{Option, Some, None, unwrap_or}
use Rattle.std.specs.List.{AllZip}
use Rattle.qz_journal.specs.declared.errors.MountError.{MountError}
use Rattle.qz_journal.specs.declared.errors.MountError.TheVariants as mount
use Rattle.qz_journal.specs.declared.slots.Slots.{Slots}
use Rattle.qz_journal.specs.Layout.{IsHeader, Holds, blocks, end_from, end_of}
use Rattle.qz_journal.specs.Slots.{IsSlot, slot, slots_of, slot_in_use, HasTrueSlots}
use Rattle.qz_journal.specs.Tails.{start_at, start_of, IsTail, IsCounted, IsRest, IsTailRefused}
use Rattle.qz_journal.proofs.Headers.{one_version}
use Rattle.qz_journal.proofs.Marks.{offset_is}
use Rattle.qz_journal.proofs.Once.{holds_once}
use Rattle.qz_journal.proofs.TrueTails.{InUse, greater_in_use, whole_tail, tail_only_outside}
use Rattle.qz_stores.specs.Kinds.{StoreKind, IsLawful}
use Rattle.qz_stores.specs.Bases.{records, RecordEntries, ComeBefore, IsSnapshotAt, HoldAll, MayHoldAll, IsEndOf, IsDecidedFrom}
use Rattle.qz_stores.specs.Facts.{ComeBefore-prop, IsEndOf-prop}
use Rattle.qz_stores.specs.Opening.{IsBase, IsUnread, HaveUnfit, IsRead, IsStopped, IsStop, IsRefused, StandsFrom}
use Rattle.qz_stores.proofs.Once.{none_unfit}
use Rattle.qz_stores.proofs.Refusals.{stopped_in, read_as}
use Rattle.qz_stores.proofs.Whole.{cut_once, records_append, one_record, recorded_back, recorded_once, recorded_few, have_records, legal_front, legal_back, end_as}
use Rattle.qz_stores.proofs.WholeBytes.{each_slot, true_offset}

-- A slot that is in use is open.
pub record Used (b : List ℕ) (gate : ℕ) : Type 0 where
  pub offset : ℕ
  pub is_slot : IsSlot gate
  pub opened : slot gate b ≡ Some offset
  pub start_is : start_of (slots_of b) ≡ offset

one_gate : {x y : ℕ} → Some x ≡ Some y → x ≡ y
one_gate same = cc

pub used : (b : List ℕ) (gate : ℕ) → slot_in_use (slots_of b) ≡ Some gate → Used b gate
used b gate is = ⊎_elim (λ none. let both : None ≡ Some gate = sym none ∙ is in absurd (cc)) there (greater_in_use (slot 6 b) (slot 11 b))
  where
    there : InUse (slots_of b) → Used b gate
    there u = subst (Used b) (one_gate (sym u.in_use ∙ is)) (record {
      offset = u.offset;
      is_slot = u.is_slot;
      opened = sym (offset_is u.gate (slots_of b) b u.is_slot (record { a = refl; b = refl })) ∙ u.offset_is;
      start_is = ap (λ o. start_at o (slots_of b)) u.in_use ∙ ap (λ o. unwrap_or o 16) u.offset_is;
    })

module _ {H S E R : Type 0} (k : StoreKind H S E R) (lawful : IsLawful k) where
  -- the whole list, cut where a tail begins, and what the base there is
  record Split (O : S) (whole : List E) (tail : List (List ℕ)) (T : S) (n : ℕ) : Type 0 where
    earlier : List E
    later : List E
    whole_is : whole ≡ earlier ++ later
    n_is : n ≡ length earlier
    T_is : T ≡ k.replay_from O earlier
    recorded : RecordEntries k tail later

  abbrev Snapshots : S → List ℕ → List (List ℕ) → List E → Type 0
  Snapshots O b ps whole = (gate offset : ℕ) → IsSlot gate → slot gate b ≡ Some offset → IsSnapshotAt k O ps whole offset

  -- These bytes hold the whole list, and this tail was read from them.
  module _ (v w count : ℕ) (O : S) (b : List ℕ) (whole : List E) (tail : List (List ℕ)) (held : HoldAll k v O b whole) (is : IsTail b w k.number (start_of (slots_of b)) tail) (counted : IsCounted (slot_in_use (slots_of b)) count tail) where
    true_slots : Snapshots O b held.store.0 whole → HasTrueSlots b held.store.0
    true_slots snapshots gate offset is_slot opened = true_offset k lawful O offset held.store.0 whole (snapshots gate offset is_slot opened)

    pub same_version : w ≡ v
    same_version = one_version w v k.number (take 16 b) is.header held.store.1.header

    rest : Snapshots O b held.store.0 whole → IsRest held.store.0 tail (start_of (slots_of b)) (end_from (start_of (slots_of b)) tail) count
    rest snapshots = (whole_tail b b w v k.number (start_of (slots_of b)) (end_from (start_of (slots_of b)) tail) count (slots_of b) held.store.0 tail refl refl refl is refl counted held.store.1 (true_slots snapshots)).1

    -- what stands at a snapshot that is in use
    record AtUse (gate : ℕ) : Type 0 where
      before : List (List ℕ)
      earlier : List E
      later : List E
      whole_is : whole ≡ earlier ++ later
      recorded_before : RecordEntries k before earlier
      recorded : RecordEntries k tail later
      snapshot : k.BeginSnapshot tail (k.replay_from O earlier) (length before) (length earlier)

    at_use : (gate : ℕ) → slot_in_use (slots_of b) ≡ Some gate → Snapshots O b held.store.0 whole → AtUse gate
    at_use gate in_use snapshots =
        let u = used b gate in_use in
        let s = snapshots gate u.offset u.is_slot u.opened in
        let r = rest snapshots in
        let long : length (blocks r.before) ≡ length (blocks s.before) = omega (arith, r.start_is, u.start_is, s.offset_is) in
        let same = cut_once r.before tail s.before s.from (sym r.parts ∙ s.payloads_are) long in
        let back = recorded_back k s.before s.from s.earlier s.later s.recorded
        (subst (λ (l : List E). RecordEntries k (s.before ++ s.from) l) s.entries_are (subst (λ (l : List (List ℕ)). RecordEntries k l whole) s.payloads_are (held.recorded held.store.0 held.store.1))) in
        record {
          before = s.before;
          earlier = s.earlier;
          later = s.later;
          whole_is = s.entries_are;
          recorded_before = s.recorded;
          recorded = subst (λ (l : List (List ℕ)). RecordEntries k l s.later) (sym same.1) back;
          snapshot = subst (λ (l : List (List ℕ)). k.BeginSnapshot l (k.replay_from O s.earlier) (length s.before) (length s.earlier)) (sym same.1) s.snapshot;
        }

    split : (o : Option ℕ) (T : S) (n : ℕ) → slot_in_use (slots_of b) ≡ o → IsBase k o w tail T n → Snapshots O b held.store.0 whole → Split O whole tail T n
    split None T n in_use base snapshots =
        let r = rest snapshots in
        let start : start_of (slots_of b) ≡ 16 = ap (λ o. start_at o (slots_of b)) in_use in
        let long : length (blocks r.before) ≡ 0 = omega (arith, r.start_is, start) in
        let same = cut_once r.before tail [] held.store.0 (sym r.parts) long in
        record {
          earlier = [];
          later = whole;
          whole_is = refl;
          n_is = base.1;
          T_is = base.0 ∙ ap k.empty same_version ∙ sym (held.begins in_use) ∙ sym (lawful.replay_none O);
          recorded = subst (λ (l : List (List ℕ)). RecordEntries k l whole) (sym same.1) (held.recorded held.store.0 held.store.1);
        }
    split (Some gate) T n in_use base snapshots =
        let u = at_use gate in_use snapshots in
        let one = lawful.snapshots_once tail T (k.replay_from O u.earlier) base.before (length u.before) n (length u.earlier) base.snapshot u.snapshot in
        record { earlier = u.earlier; later = u.later; whole_is = u.whole_is; n_is = one.1; T_is = one.0; recorded = u.recorded }

    pub read_end : (n : ℕ) (T : S) (entries : List E) → IsRead k (slot_in_use (slots_of b)) w tail n T entries → IsEndOf k O (k.history n T entries) whole
    read_end n T entries read =
        each_slot (IsSnapshotAt k O held.store.0 whole) b (IsEndOf-prop k O (k.history n T entries) whole) (held.slots held.store.0 held.store.1) (λ snapshots.
        let s = split (slot_in_use (slots_of b)) T n refl read.base snapshots in
        end_as k lawful O n T entries whole s.earlier s.later s.whole_is s.n_is s.T_is (recorded_once k lawful tail entries s.later read.taken.recorded s.recorded))

    both-prop : (a c d e : ℕ) → IsProp ((a ≡ c) × (d ≡ e))
    both-prop a c d e = hlevel props

    pub read_place : (ps : List (List ℕ)) → Holds b v k.number ps → (end_from (start_of (slots_of b)) tail ≡ end_of ps) × (count ≡ length ps)
    read_place ps holds =
        each_slot (IsSnapshotAt k O held.store.0 whole) b (both-prop (end_from (start_of (slots_of b)) tail) (end_of ps) count (length ps)) (held.slots held.store.0 held.store.1) (λ snapshots.
        let r = rest snapshots in
        let same : held.store.0 ≡ ps = holds_once b v v k.number held.store.0 ps held.store.1 holds in
        (r.gate_is ∙ ap end_of same, r.count_is ∙ ap (λ (l : List (List ℕ)). length l) same))

    -- Before what is read come as many entries as the base says.
    pub read_counts : (n : ℕ) (T : S) → IsBase k (slot_in_use (slots_of b)) w tail T n → (ps : List (List ℕ)) → Holds b v k.number ps → ComeBefore k (slot_in_use (slots_of b)) (start_of (slots_of b)) ps n
    read_counts n T base ps holds =
        each_slot (IsSnapshotAt k O held.store.0 whole) b (ComeBefore-prop k (slot_in_use (slots_of b)) (start_of (slots_of b)) ps n) (held.slots held.store.0 held.store.1) (λ snapshots.
        let r = rest snapshots in
        let same : held.store.0 ≡ ps = holds_once b v v k.number held.store.0 ps held.store.1 holds in
        at r.before (sym r.parts ∙ same) r.start_is (slot_in_use (slots_of b)) base)
      where
        at : (before : List (List ℕ)) → before ++ tail ≡ ps → start_of (slots_of b) ≡ end_of before → (o : Option ℕ) → IsBase k o w tail T n → ComeBefore k o (start_of (slots_of b)) ps n
        at before whole_is start_is None base = base.1
        at before whole_is start_is (Some gate) base = λ front from parts starts U earlier m snapshot.
            let long : length (blocks before) ≡ length (blocks front) = omega (arith, start_is, starts) in
            let cut = cut_once before tail front from (whole_is ∙ parts) long in
            (lawful.snapshots_once from U T earlier base.before m n snapshot (subst (λ (l : List (List ℕ)). k.BeginSnapshot l T base.before n) cut.1 base.snapshot)).1

    -- Nothing of it is refused.

    never_unread : (gate : ℕ) → slot_in_use (slots_of b) ≡ Some gate → IsUnread k (Some gate) tail → Snapshots O b held.store.0 whole → ⊥
    never_unread gate in_use unread snapshots =
        let u = at_use gate in_use snapshots in
        let T = k.replay_from O u.earlier in
        ∥∥₁_elim u.recorded_before (λ x y. absurd x) (λ zip. ∥∥₁_elim held.legal (λ x y. absurd x) (λ legal.
        let legal_before = legal_front k lawful O u.earlier u.later (subst (k.IsLegalFrom O) u.whole_is legal) in
        ∥∥₁_elim held.valid (λ x y. absurd x) (λ begun.
        ∥∥₁_elim (lawful.valid_left O u.earlier begun (have_records k (records k u.before) u.earlier zip) legal_before) (λ x y. absurd x) (λ valid.
        unread.1 T (length u.earlier) (record { before = length u.before; snapshot = u.snapshot; counted = recorded_few k u.before u.earlier zip; valid = valid })))))

    never_unfit : (T : S) (n at : ℕ) → IsBase k (slot_in_use (slots_of b)) w tail T n → HaveUnfit k T (start_of (slots_of b)) tail at → Snapshots O b held.store.0 whole → ⊥
    never_unfit T n at base has snapshots =
        let s = split (slot_in_use (slots_of b)) T n refl base snapshots in
        let parts : records k tail ≡ records k has.taken ++ has.payload ∷ records k has.more =
        ap (records k) has.whole ∙ records_append k has.taken (has.payload ∷ has.more) ∙ ap (λ (l : List (List ℕ)). records k has.taken ++ l) (records_append k (has.payload ∷ []) has.more ∙ ap (λ (l : List (List ℕ)). l ++ records k has.more) (one_record k has.payload has.no_part)) in
        ∥∥₁_elim held.legal (λ x y. absurd x) (λ legal.
        let legal_after = subst (λ (U : S). k.IsLegalFrom U s.later) (sym s.T_is) (legal_back k lawful O s.earlier s.later (subst (k.IsLegalFrom O) s.whole_is legal)) in
        none_unfit k lawful T (records k has.taken) has.entries s.later has.payload (records k has.more) has.are_taken.recorded
        (subst (λ (l : List (List ℕ)). ∥ AllZip k.IsRecordOf l s.later ∥₁) parts s.recorded) legal_after has.unfit)

    never_stopped : (at : ℕ) → IsStopped k (slot_in_use (slots_of b)) w (start_of (slots_of b)) tail at → Snapshots O b held.store.0 whole → ⊥
    never_stopped at (inl unread) snapshots = never_unread at unread.0 (subst (λ o. IsUnread k o tail) unread.0 unread.1) snapshots
    never_stopped at (inr (T, n, base, has)) snapshots = never_unfit T n at base has snapshots

    pub only_outside : (e : MountError) → IsStop k (slot_in_use (slots_of b)) w (start_of (slots_of b)) tail e → (e ≡ mount.Fault) ⊎ (e ≡ mount.NoMemory)
    only_outside mount.NoMemory stop = inr refl
    only_outside mount.NotAStore stop = absurd stop
    only_outside mount.Fault stop = absurd stop
    only_outside (mount.Damaged at) stop = absurd (each_slot (IsSnapshotAt k O held.store.0 whole) b (λ x y. absurd x) (held.slots held.store.0 held.store.1) (never_stopped at stop))

  -- a journal with the whole list isn't damaged
  pub never_damaged : (v number at : ℕ) (O : S) (b : List ℕ) (whole : List E) (tail : List (List ℕ)) → number ≡ k.number → HoldAll k v O b whole → IsTailRefused b number tail (mount.Damaged at) → ⊥
  never_damaged v number at O b whole tail number_is held refused =
      each_slot (IsSnapshotAt k O held.store.0 whole) b (λ x y. absurd x) (held.slots held.store.0 held.store.1) (λ snapshots.
      neither (tail_only_outside b v k.number held.store.0 tail (mount.Damaged at) held.store.1 (λ gate offset is_slot opened. true_offset k lawful O offset held.store.0 whole (snapshots gate offset is_slot opened)) (subst (λ n. IsTailRefused b n tail (mount.Damaged at)) number_is refused)))
    where
      neither : (mount.Damaged at ≡ mount.Fault) ⊎ (mount.Damaged at ≡ mount.NoMemory) → ⊥
      neither (inl is) = absurd (cc)
      neither (inr is) = absurd (cc)

  -- a store of a kind without snapshots starts as a new one
  pub new_start : (v : ℕ) (O : S) (b : List ℕ) (whole : List E) → k.has_snapshots ≡ false → HoldAll k v O b whole → O ≡ k.empty v
  new_start v O b whole none held = at (slot_in_use (slots_of b)) refl
    where
      at : (o : Option ℕ) → slot_in_use (slots_of b) ≡ o → O ≡ k.empty v
      at None is = held.begins is
      at (Some gate) is =
          let u = used b gate is in
          ∥∥₁_elim (held.slots held.store.0 held.store.1 gate u.offset u.is_slot u.opened) (k.states_once O (k.empty v)) (λ s. absurd (lawful.none_made none s.from (k.replay_from O s.earlier) (length s.before) (length s.earlier) s.snapshot))

  -- it is refused by disk or memory alone
  pub whole_outside : (v number : ℕ) (O : S) (b : List ℕ) (whole : List E) (tail : List (List ℕ)) (e : MountError) → number ≡ k.number → HoldAll k v O b whole → IsTailRefused b number tail e → (e ≡ mount.Fault) ⊎ (e ≡ mount.NoMemory)
  whole_outside v number O b whole tail mount.NoMemory number_is held refused = inr refl
  whole_outside v number O b whole tail mount.Fault number_is held refused = inl refl
  whole_outside v number O b whole tail mount.NotAStore number_is held refused = absurd (refused (v, subst (λ n. IsHeader v n (take 16 b)) (sym number_is) held.store.1.header))
  whole_outside v number O b whole tail (mount.Damaged at) number_is held refused = absurd (never_damaged v number at O b whole tail number_is held refused)

  -- What a restart decides: the bytes that it reads hold the list with what was added, or that and the undecided entry.
  pub decided : (v w count n : ℕ) (O : S) (b : List ℕ) (whole : List E) (u : Option E) (tail : List (List ℕ)) (T : S) (entries : List E) → MayHoldAll k v O whole u b → IsTail b w k.number (start_of (slots_of b)) tail
      → IsCounted (slot_in_use (slots_of b)) count tail → IsRead k (slot_in_use (slots_of b)) w tail n T entries → IsDecidedFrom k O whole u (k.history n T entries)
  decided v w count n O b whole None tail T entries may is counted read = read_end v w count O b whole tail may is counted n T entries read
  decided v w count n O b whole (Some e) tail T entries (inl may) is counted read = inl (read_end v w count O b whole tail may is counted n T entries read)
  decided v w count n O b whole (Some e) tail T entries (inr may) is counted read = inr (read_end v w count O b (whole ++ e ∷ []) tail may is counted n T entries read)

  pub starved : (v w count : ℕ) (O : S) (b : List ℕ) (whole : List E) (u : Option E) (tail : List (List ℕ)) (e : MountError) → MayHoldAll k v O whole u b → IsTail b w k.number (start_of (slots_of b)) tail → IsCounted (slot_in_use (slots_of b)) count tail
      → IsStop k (slot_in_use (slots_of b)) w (start_of (slots_of b)) tail e → (e ≡ mount.Fault) ⊎ (e ≡ mount.NoMemory)
  starved v w count O b whole None tail e may is counted stop = only_outside v w count O b whole tail may is counted e stop
  starved v w count O b whole (Some x) tail e (inl may) is counted stop = only_outside v w count O b whole tail may is counted e stop
  starved v w count O b whole (Some x) tail e (inr may) is counted stop = only_outside v w count O b (whole ++ x ∷ []) tail may is counted e stop

  pub may_outside : (v number : ℕ) (O : S) (b : List ℕ) (whole : List E) (u : Option E) (tail : List (List ℕ)) (e : MountError) → number ≡ k.number → MayHoldAll k v O whole u b → IsTailRefused b number tail e → (e ≡ mount.Fault) ⊎ (e ≡ mount.NoMemory)
  may_outside v number O b whole None tail e number_is may refused = whole_outside v number O b whole tail e number_is may refused
  may_outside v number O b whole (Some x) tail e number_is (inl may) refused = whole_outside v number O b whole tail e number_is may refused
  may_outside v number O b whole (Some x) tail e number_is (inr may) refused = whole_outside v number O b (whole ++ x ∷ []) tail e number_is may refused

  -- What a journal that was opened from the slot in use on says of itself, and of these bytes.
  pub record Found (x version number start gate count : ℕ) (o : Option ℕ) (s : Slots) (b : List ℕ) (tail : List (List ℕ)) : Type 0 where
    pub version_is : x ≡ version
    pub number_is : number ≡ k.number
    pub slot_is : o ≡ slot_in_use s
    pub slots_are : s ≡ slots_of b
    pub start_is : start ≡ start_of s
    pub gate_is : gate ≡ end_from start tail
    pub is_tail : IsTail b version number start tail
    pub counted : IsCounted (slot_in_use s) count tail

  module _ (x version number start gate count : ℕ) (o : Option ℕ) (s : Slots) (b : List ℕ) (tail : List (List ℕ)) (f : Found x version number start gate count o s b tail) where
    from_is : start ≡ start_of (slots_of b)
    from_is = f.start_is ∙ ap start_of f.slots_are

    in_use_is : o ≡ slot_in_use (slots_of b)
    in_use_is = f.slot_is ∙ ap slot_in_use f.slots_are

    pub found_tail : IsTail b x k.number (start_of (slots_of b)) tail
    found_tail = subst (λ n. IsTail b x n (start_of (slots_of b)) tail) f.number_is (subst (λ n. IsTail b x number n tail) from_is (subst (λ n. IsTail b n number start tail) (sym f.version_is) f.is_tail))

    found_counted : IsCounted (slot_in_use (slots_of b)) count tail
    found_counted = subst (λ (y : Slots). IsCounted (slot_in_use y) count tail) f.slots_are f.counted

    pub found_read : (n : ℕ) (T : S) (entries : List E) → IsRead k o x tail n T entries → IsRead k (slot_in_use (slots_of b)) x tail n T entries
    found_read n T entries read = subst (λ u. IsRead k u x tail n T entries) in_use_is read

    found_stop : (e : MountError) → IsStop k o x start tail e → IsStop k (slot_in_use (slots_of b)) x (start_of (slots_of b)) tail e
    found_stop e stop = subst (λ u. IsStop k u x (start_of (slots_of b)) tail e) in_use_is (subst (λ n. IsStop k o x n tail e) from_is stop)

    pub found_refused : (e : MountError) → IsStop k o x start tail e → IsRefused k b e
    found_refused e stop = stopped_in k b x count tail e found_tail found_counted (found_stop e stop)

    pub found_stands : (v n : ℕ) (T : S) (entries : List E) → v ≡ x → IsRead k o x tail n T entries → StandsFrom k v b (k.history n T entries)
    found_stands v n T entries same read = subst (λ y. StandsFrom k y b (k.history n T entries)) (sym same) (record {
      payloads = tail;
      tail = found_tail;
      read = read_as k lawful (slot_in_use (slots_of b)) x n tail T entries (k.history n T entries) refl (found_read n T entries read);
    })

    -- Where the bytes hold a whole list.

    pub found_version : (v : ℕ) (O : S) (whole : List E) → HoldAll k v O b whole → x ≡ v
    found_version v O whole held = same_version v x count O b whole tail held found_tail found_counted

    pub found_end : (v n : ℕ) (O T : S) (whole entries : List E) → HoldAll k v O b whole → IsRead k o x tail n T entries → IsEndOf k O (k.history n T entries) whole
    found_end v n O T whole entries held read = read_end v x count O b whole tail held found_tail found_counted n T entries (found_read n T entries read)

    pub found_place : (v : ℕ) (O : S) (whole : List E) → HoldAll k v O b whole → (ps : List (List ℕ)) → Holds b v k.number ps → (gate ≡ end_of ps) × (count ≡ length ps)
    found_place v O whole held ps holds =
        let place = read_place v x count O b whole tail held found_tail found_counted ps holds in
        (f.gate_is ∙ ap (λ n. end_from n tail) from_is ∙ place.0, place.1)

    pub found_counts : (v n : ℕ) (O T : S) (whole entries : List E) → HoldAll k v O b whole → IsRead k o x tail n T entries → (ps : List (List ℕ)) → Holds b v k.number ps → ComeBefore k (slot_in_use s) (start_of s) ps n
    found_counts v n O T whole entries held read ps holds =
        subst (λ (y : Slots). ComeBefore k (slot_in_use y) (start_of y) ps n) (sym f.slots_are) (read_counts v x count O b whole tail held found_tail found_counted n T (found_read n T entries read).base ps holds)

    pub found_outside : (v : ℕ) (O : S) (whole : List E) (e : MountError) → HoldAll k v O b whole → IsStop k o x start tail e → (e ≡ mount.Fault) ⊎ (e ≡ mount.NoMemory)
    found_outside v O whole e held stop = only_outside v x count O b whole tail held found_tail found_counted e (found_stop e stop)

    pub found_decided : (v n : ℕ) (O T : S) (whole entries : List E) (u : Option E) → MayHoldAll k v O whole u b → IsRead k o x tail n T entries → IsDecidedFrom k O whole u (k.history n T entries)
    found_decided v n O T whole entries u may read = decided v x count n O b whole u tail T entries may found_tail found_counted (found_read n T entries read)

    pub found_starved : (v : ℕ) (O : S) (whole : List E) (u : Option E) (e : MountError) → MayHoldAll k v O whole u b → IsStop k o x start tail e → (e ≡ mount.Fault) ⊎ (e ≡ mount.NoMemory)
    found_starved v O whole u e may stop = starved v x count O b whole u tail e may found_tail found_counted (found_stop e stop)

  -- of bytes that are the same
  pub found_in : (x version number start gate count : ℕ) (o : Option ℕ) (s : Slots) (b c : List ℕ) (tail : List (List ℕ)) → b ≡ c → Found x version number start gate count o s b tail → Found x version number start gate count o s c tail
  found_in x version number start gate count o s b c tail same f = subst (λ (l : List ℕ). Found x version number start gate count o s l tail) same f
