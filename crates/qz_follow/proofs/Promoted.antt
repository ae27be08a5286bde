-- A promotion.
use Rattle.std.proofs.Common.{◌≡◌, ◌≢◌, ◌⊎◌, inl, inr, ⊎_elim, ℕ, ◌+◌, ◌-◌, ◌<◌, ◌≤◌, ◌^◌, true, false, nat_lt, if◌then◌else◌, List, [], ◌++◌, length, refl, sym, ◌∙◌, ap, subst, arith, append_assoc, length-append}
use Rattle.std.specs.Prelude.{Option, Some, None, Ok, Err, IfOk, IfErr, MatchResult, Bool, IsTrue, All}
use Rattle.std.specs.declared.result.Result.{Result}
use Rattle.std.specs.List.{AllZip}
use Rattle.std.proofs.Math.Logic.{◌↔◌, ∥∥₁_map, ∥∥₁_elim}
use Rattle.std.proofs.Props.{props}
use Rattle.std.proofs.lemmas.Bool.{ltb-true, ltb-false}
use Rattle.qz_civil.specs.Causes.{Rose}
use Rattle.qz_civil.specs.Lists.{WithRoom}
use Rattle.qz_disk.specs.Disk.{DiskState, Only, Torn, LeavesOnly, IsLawful}
use Rattle.qz_disk.specs.declared.disk.Disk.{Ghosts}
use Rattle.qz_disk.proofs.Moments
use Rattle.qz_journal.proofs.GroupBytes.{no_more}
use Rattle.qz_journal.specs.Commits.{HaveRoom, IsFullFor, room_for}
use Rattle.qz_journal.specs.Layout.{HasStore, IsPayload, blocks, end_of}
use Rattle.qz_journal.specs.Making.{Makes}
use Rattle.qz_journal.specs.declared.errors.NewStoreError.{NewStoreError}
use Rattle.qz_journal.specs.declared.errors.NewStoreError.TheVariants as new_store
use Rattle.qz_journal.specs.declared.layout.TheConstants.{TRIGGERS, MAX_BYTES, MAX_PAYLOADS}
use Rattle.qz_model.specs.History.{History, IsLegalFrom, replay_from}
use Rattle.qz_snapshot.specs.Checkpoints.{snapshot_written}
use Rattle.qz_stores.specs.Bases.{HoldAll}
use Rattle.qz_stores.specs.declared.compacting.CompactError.{CompactError}
use Rattle.qz_stores.specs.declared.compacting.CompactError.TheVariants as compact
use Rattle.qz_stores.specs.Facts.{Encode-length}
use Rattle.qz_types.specs.Entries.{EntryData}
use Rattle.qz_types.specs.Tables.{SchedulerTables, empty}
use Rattle.qz_trigger_store.specs.Bytes.{IsWhole, Stands, MayBe}
use Rattle.qz_stores.specs.Compacting.{IsNoneOrBegun}
use Rattle.qz_trigger_store.specs.Compacting.{Compacts}
use Rattle.qz_trigger_store.specs.Entries.{IsRecordOf}
use Rattle.qz_trigger_store.specs.Extending.{with_entries, HoldsFirst as HoldsMore, Has, Extends}
use Rattle.qz_trigger_store.specs.Kinds.{trigger_kind}
use Rattle.qz_trigger_store.specs.Laws.{trigger_lawful}
use Rattle.qz_trigger_store.specs.View.{view, added_of, keeps_of, tables_of, opened_of, disk_state, GoesOnFrom, IsOpenedAsBefore}
use Rattle.qz_trigger_store.specs.declared.stores.TriggerStore.{TriggerStore}
use Rattle.qz_trigger_store.proofs.Images.{now}
use Rattle.qz_follow.specs.Kept.{AreKept, KeepsRecords}
use Rattle.qz_follow.specs.Promoting.{list_from, history_from, HoldsFirst, HoldsPart, HasEntries, IsFullOf, LacksAll, Promotes, Begins, IsBehindStart, AreAdoptable, IsOpenWith, IsFailure, Fills, fault_of, unbegun}
use Rattle.qz_follow.specs.declared.promoting.PromoteFault.{PromoteFault}
use Rattle.qz_follow.specs.declared.promoting.PromoteFault.TheVariants as fault

-- What the bytes of such a store are.

pub stands_all : (v : ℕ) (start : SchedulerTables) (first : List EntryData) (b : List ℕ) → Stands (list_from v start []) b (history_from start first) → IsWhole (list_from v start first) b
stands_all v start first b stands = subst (λ (l : List EntryData). HoldAll trigger_kind v start b l) (sym stands.end_of_them.rest) stands.held

-- the count of faults rose since an earlier moment, too
pub rose_later : (a b c : ℕ) → a ≤ b → Rose b c → Rose a c
rose_later a b c le rose = omega (arith, le, rose)

-- A store that has some of the entries.
module _ {D : Type 0} {g : Ghosts D} (v : ℕ) (start : SchedulerTables) where
  pub settled : (s : TriggerStore D g) → (view s).is_open ≡ true → (view s).undecided ≡ None
  settled s is_open = s.store.settled is_open

  -- an honest disk has these, and a crash leaves them
  pub has_entries : (first : List EntryData) (s : TriggerStore D g) → g.honest → IsLawful (disk_state s) → GoesOnFrom s (list_from v start []) → IsOpenWith v start first s → HasEntries v start first (disk_state s)
  has_entries first s honest lawful from with_them =
      let each : (b : List ℕ) → (disk_state s).IsImage b → IsWhole (list_from v start first) b =
      λ b is. stands_all v start first b (subst (Stands (list_from v start []) b) with_them.history (subst (λ (x : Option EntryData). MayBe (list_from v start []) (view s).history x b) (settled s with_them.is_open) (now s honest (list_from v start []) from b is))) in
      record { content = each (disk_state s).content lawful.content; images = each }

-- A store that takes over entries, after it was begun with nothing but its start.
module _ {D : Type 0} {g : Ghosts D} (v : ℕ) (start : SchedulerTables) (es : List EntryData) (s : TriggerStore D g) (was : IsOpenWith v start [] s) where
  pub left_by : tables_of s ≡ start
  left_by = s.store.replayed ∙ ap (λ (h : History). replay_from h.base h.entries) was.history ∙ trigger_lawful.replay_none start

  pub goes_on : IsWhole (list_from v start []) (opened_of s) → GoesOnFrom s (list_from v start [])
  goes_on whole = ([], was.version_is, whole)

  pub open_with : (ps : List (List ℕ)) (t : TriggerStore D g) → Extends ps es (view s) (view t) → added_of t ≡ added_of s ++ es → IsOpenedAsBefore s t → IsOpenWith v start es t
  open_with ps t more added opened = record {
    is_open = more.is_open;
    version_is = opened.0 ∙ was.version_is;
    history = more.history ∙ ap (λ (h : History). record h { entries = h.entries ++ es }) was.history;
    found = opened.3 ∙ was.found;
    added = added ∙ ap (λ (l : List EntryData). l ++ es) was.added;
  }

  leaves_first : (t : DiskState) → LeavesOnly (disk_state s) t (HoldsMore (with_entries (list_from v start []) (added_of s)) es) → LeavesOnly (disk_state s) t (HoldsFirst v start es)
  leaves_first t leaves = subst (λ (l : List EntryData). LeavesOnly (disk_state s) t (HoldsMore (with_entries (list_from v start []) l) es)) was.added leaves

  pub filled : (t : DiskState) → Has (with_entries (list_from v start []) (added_of s ++ es)) t → LeavesOnly (disk_state s) t (HoldsMore (with_entries (list_from v start []) (added_of s)) es) → Fills v start es None (disk_state s) t
  filled t has leaves =
      let here : Has (list_from v start es) t = subst (λ (l : List EntryData). Has (with_entries (list_from v start []) (l ++ es)) t) was.added has in
      record { has = record { content = here.content; images = here.images }; any_moment = leaves_first t leaves }

  pub starved_by : (t : DiskState) → Has (with_entries (list_from v start []) (added_of s)) t → LeavesOnly (disk_state s) t (HoldsMore (with_entries (list_from v start []) (added_of s)) es) → Fills v start es (Some fault.NoMemory) (disk_state s) t
  starved_by t has leaves =
      let here : Has (list_from v start []) t = subst (λ (l : List EntryData). Has (with_entries (list_from v start []) l) t) was.added has in
      record { has = record { content = here.content; images = here.images }; any_moment = leaves_first t leaves }

  pub failed_by : (t : DiskState) → LeavesOnly (disk_state s) t (HoldsMore (with_entries (list_from v start []) (added_of s)) es) → Fills v start es (Some fault.Fault) (disk_state s) t
  failed_by t leaves = record { has = tt; any_moment = leaves_first t leaves }

  -- there was no room, and so nothing was done
  pub full_by : (need room : ℕ) → g.honest → IsLawful (disk_state s) → IsWhole (list_from v start []) (opened_of s) → Fills v start es (Some (fault.NoRoom need room)) (disk_state s) (disk_state s)
  full_by need room honest lawful whole =
      let has = has_entries v start [] s honest lawful (goes_on whole) was in
      record { has = has; any_moment = Moments.started (disk_state s) (HoldsFirst v start es) lawful (λ b is. ([], es, refl, has.images b is)) }

-- What becomes of the disk.

pub not_made : (v : ℕ) (start : SchedulerTables) (entries : List EntryData) (x : NewStoreError) (s t : DiskState) → Makes v TRIGGERS (Some x) s t → Promotes v start entries (Some (fault_of x)) s t
not_made v start entries new_store.Exists s t m = record { found = m.found; made = m.made; kept = m.kept; kept_at_any_moment = m.kept_at_any_moment; any_moment = λ bytes only. Moments.weaker s t _ _ (m.any_moment bytes only) (λ b torn. inl torn) }
not_made v start entries new_store.OtherKind s t m = record { found = m.found; made = m.made; kept = m.kept; kept_at_any_moment = m.kept_at_any_moment; any_moment = λ bytes only. Moments.weaker s t _ _ (m.any_moment bytes only) (λ b torn. inl torn) }
not_made v start entries new_store.NoMemory s t m = record { found = m.found; made = inl m.made; kept = m.kept; kept_at_any_moment = m.kept_at_any_moment; any_moment = λ bytes only. Moments.weaker s t _ _ (m.any_moment bytes only) (λ b torn. inl torn) }
not_made v start entries new_store.Fault s t m = record { found = tt; made = tt; kept = m.kept; kept_at_any_moment = m.kept_at_any_moment; any_moment = λ bytes only. Moments.weaker s t _ _ (m.any_moment bytes only) (λ b torn. inl torn) }

-- a store that was begun with a snapshot has the first of all entries: none
no_entries : (v : ℕ) (start : SchedulerTables) (entries : List EntryData) (b : List ℕ) → IsNoneOrBegun trigger_kind v start b → HoldsPart v start entries b
no_entries v start entries b (inl none) = inl none
no_entries v start entries b (inr begun) = inr ([], entries, refl, begun)

module _ (v : ℕ) (start : SchedulerTables) (entries : List EntryData) (s t : DiskState) where
  begun_moment : {error : Option CompactError} → Compacts v start error s t → (bytes : List ℕ) → Only bytes s → LeavesOnly s t (λ b. Torn 0 17 bytes b ⊎ HoldsPart v start entries b)
  begun_moment m bytes only = Moments.weaker s t _ _ (m.any_moment bytes only) (λ b left. ⊎_elim (λ torn. inl torn) (λ begun. inr (no_entries v start entries b begun)) left)

  pub not_begun : (x : CompactError) → Compacts v start (Some x) s t → Promotes v start entries (Some (unbegun x)) s t
  not_begun compact.Exists m = record { found = m.found; made = m.made; kept = m.kept; kept_at_any_moment = m.kept_at_any_moment; any_moment = begun_moment m }
  not_begun compact.OtherKind m = record { found = m.found; made = m.made; kept = m.kept; kept_at_any_moment = m.kept_at_any_moment; any_moment = begun_moment m }
  not_begun compact.NoMemory m = record { found = m.found; made = inl m.made; kept = m.kept; kept_at_any_moment = m.kept_at_any_moment; any_moment = begun_moment m }
  not_begun (compact.NoRoom need room) m = record { found = m.found; made = inl m.made; kept = m.kept; kept_at_any_moment = m.kept_at_any_moment; any_moment = begun_moment m }
  not_begun compact.Fault m = record { found = tt; made = tt; kept = m.kept; kept_at_any_moment = m.kept_at_any_moment; any_moment = begun_moment m }

  pub begun : Compacts v start None s t → Begins v start s t
  begun m = record { none = m.found; any_moment = λ bytes only. Moments.weaker s t _ _ (m.any_moment bytes only) (λ b left. ⊎_elim (λ torn. inl torn) (λ x. inr (no_entries v start [] b x)) left) }

-- a store without a snapshot was made
pub made_begins : (v : ℕ) (start : SchedulerTables) (s t : DiskState) → Makes v TRIGGERS None s t → Begins v start s t
made_begins v start s t m = record { none = m.found; any_moment = λ bytes only. Moments.weaker s t _ _ (m.any_moment bytes only) (λ b torn. inl torn) }

-- a new store was made, and then took over the first entries
module _ (v : ℕ) (start : SchedulerTables) (entries : List EntryData) (s m t : DiskState) (made : Begins v start s m) (leaves : LeavesOnly m t (HoldsFirst v start entries)) where
  moment : (bytes : List ℕ) → Only bytes s → LeavesOnly s t (λ b. Torn 0 17 bytes b ⊎ HoldsPart v start entries b)
  moment bytes only =
      Moments.then_leaves s m t _ (HoldsFirst v start entries) _ (made.any_moment bytes only) leaves
      (λ b before. ⊎_elim (λ torn. inl torn) (λ part. ⊎_elim (λ new. inr (inl new)) (λ first. inr (inr (none_first b first))) part) before)
      (λ b first. inr (inr first))
    where
      none_first : (b : List ℕ) → HoldsFirst v start [] b → HoldsFirst v start entries b
      none_first b first = (first.0, (first.1 ++ entries), sym (ap (λ (l : List EntryData). l ++ entries) (sym first.2)) ∙ append_assoc first.0 first.1 entries, first.3)

  pub promoted : HasEntries v start entries t → Promotes v start entries None s t
  promoted has = record { found = made.none; made = has; kept = λ there. absurd (made.none there); kept_at_any_moment = λ there. absurd (made.none there); any_moment = moment }

  pub starved : HasEntries v start [] t → Promotes v start entries (Some fault.NoMemory) s t
  starved has = record { found = made.none; made = inr has; kept = λ there. absurd (made.none there); kept_at_any_moment = λ there. absurd (made.none there); any_moment = moment }

  pub full : (need room : ℕ) → HasEntries v start [] t → Promotes v start entries (Some (fault.NoRoom need room)) s t
  full need room has = record { found = made.none; made = inr has; kept = λ there. absurd (made.none there); kept_at_any_moment = λ there. absurd (made.none there); any_moment = moment }

  pub failed : Promotes v start entries (Some fault.Fault) s t
  failed = record { found = tt; made = tt; kept = λ there. absurd (made.none there); kept_at_any_moment = λ there. absurd (made.none there); any_moment = moment }

-- What was taken of a stream can be taken over.
pub adoptable : (start : SchedulerTables) (end : ℕ) (es : List EntryData) (kept : Option (WithRoom (List ℕ))) (list : WithRoom (List ℕ)) → kept ≡ Some list → ∥ KeepsRecords end es kept ∥₁ → ∥ IsLegalFrom start es ∥₁ → AreAdoptable start es list.items
adoptable start end es kept list is records legal =
    let there : ∥ AreKept end es list.items ∥₁ = subst (λ (o : Option (WithRoom (List ℕ))). ∥ KeepsRecords end es o ∥₁) is records in
    let end_is : end ≡ end_of list.items = ∥∥₁_elim there (hlevel props) (λ k. k.end_is) in
    record { kept = subst (λ n. ∥ AreKept n es list.items ∥₁) end_is there; legal = legal }

pub are_sizes : (start : SchedulerTables) (es : List EntryData) (ps : List (List ℕ)) → AreAdoptable start es ps → All IsPayload ps
are_sizes start es ps can = ∥∥₁_elim can.kept (hlevel props) (λ k. k.sizes)

pub are_records : (start : SchedulerTables) (es : List EntryData) (ps : List (List ℕ)) → AreAdoptable start es ps → ∥ AllZip IsRecordOf ps es ∥₁
are_records start es ps can = ∥∥₁_map can.kept (λ k. k.recorded)

-- the offset after them
pub ends_at : (start : SchedulerTables) (end : ℕ) (es : List EntryData) (kept : Option (WithRoom (List ℕ))) (list : WithRoom (List ℕ)) → kept ≡ Some list → ∥ KeepsRecords end es kept ∥₁ → end ≡ end_of list.items
ends_at start end es kept list is records =
    let there : ∥ AreKept end es list.items ∥₁ = subst (λ (o : Option (WithRoom (List ℕ))). ∥ KeepsRecords end es o ∥₁) is records in
    ∥∥₁_elim there (hlevel props) (λ k. k.end_is)

-- and has room in a store that has its records alone
pub room_alone : (end count : ℕ) (es : List EntryData) (kept : Option (WithRoom (List ℕ))) (list : WithRoom (List ℕ)) → kept ≡ Some list → ∥ KeepsRecords end es kept ∥₁ → count ≡ length es → count ≤ 2 ^ 23 → end < 2 ^ 29 → HaveRoom list.items (end_of []) 0
room_alone end count es kept list is records counted few low =
    let there : ∥ AreKept end es list.items ∥₁ = subst (λ (o : Option (WithRoom (List ℕ))). ∥ KeepsRecords end es o ∥₁) is records in
    let end_is : end ≡ end_of list.items = ∥∥₁_elim there (hlevel props) (λ k. k.end_is) in
    let many : length list.items ≡ length es = ∥∥₁_elim there (hlevel props) (λ k. Encode-length trigger_kind list.items es ∣ k.recorded ∣₁) in
    (omega (arith, low, end_is), omega (arith, many, counted, few))

-- Nothing was done.
pub untouched : (v : ℕ) (start : SchedulerTables) (entries : List EntryData) (at : ℕ) (s : DiskState) → IsLawful s → Promotes v start entries (Some (fault.Short at)) s s
untouched v start entries at s lawful = record {
  found = tt;
  made = Moments.stays_same s;
  kept = λ there. Moments.stays_same s;
  kept_at_any_moment = λ there. Moments.started s s.IsImage lawful (λ b is. is);
  any_moment = λ bytes only. Moments.started s _ lawful (λ b is. inl (subst (Torn 0 17 bytes) (sym (only b is)) (Moments.torn_same 0 17 bytes)));
}

-- A new store was made and filled.
pub promotes_by : (v : ℕ) (start : SchedulerTables) (entries : List EntryData) (s m t : DiskState) (error : Option PromoteFault) → Begins v start s m → Fills v start entries error m t → Promotes v start entries error s t
promotes_by v start entries s m t None made fills = promoted v start entries s m t made fills.any_moment fills.has
promotes_by v start entries s m t (Some fault.NoMemory) made fills = starved v start entries s m t made fills.any_moment fills.has
promotes_by v start entries s m t (Some (fault.NoRoom need room)) made fills = full v start entries s m t made fills.any_moment need room fills.has
promotes_by v start entries s m t (Some fault.Fault) made fills = failed v start entries s m t made fills.any_moment
promotes_by v start entries s m t (Some (fault.Short at)) made fills = absurd fills.has
promotes_by v start entries s m t (Some fault.Exists) made fills = absurd fills.has
promotes_by v start entries s m t (Some fault.OtherKind) made fills = absurd fills.has

pub promotes_each : {D : Type 0} {g : Ghosts D} (v : ℕ) (start : SchedulerTables) (entries : List EntryData) (s m : DiskState) (r : Result (TriggerStore D g) (PromoteFault × D)) → Begins v start s m
    → MatchResult r (λ x. Fills v start entries None m (disk_state x)) (λ e. Fills v start entries (Some e.0) m (g.state e.1)) → MatchResult r (λ x. Promotes v start entries None s (disk_state x)) (λ e. Promotes v start entries (Some e.0) s (g.state e.1))
promotes_each {g = g} v start entries s m (Ok x) made fills = promotes_by v start entries s m (disk_state x) None made fills
promotes_each {g = g} v start entries s m (Err e) made fills = promotes_by v start entries s m (g.state e.1) (Some e.0) made fills

-- The room that was wanted behind a start.

room_by : (gate count n : ℕ) (c : Bool) → nat_lt (MAX_PAYLOADS - count) n ≡ c → room_for gate count n ≡ (if c then 0 else MAX_BYTES - (gate + 1))
room_by gate count n c is = ap (λ b. if b then 0 else MAX_BYTES - (gate + 1)) is

-- payloads that need no more than there is have room
pub have_room : (ps : List (List ℕ)) (gate count end n : ℕ) → count ≤ MAX_PAYLOADS → end ≡ end_of ps → n ≡ length ps → end - 16 ≤ room_for gate count n → HaveRoom ps gate count
have_room ps gate count end n few end_is n_is fits =
    let le : length (blocks ps) ≤ room_for gate count (length ps) = omega (arith, end_is, fits, ap (room_for gate count) n_is) in elim (nat_lt (MAX_PAYLOADS - count) (length ps)) as (λ c. nat_lt (MAX_PAYLOADS - count) (length ps) ≡ c → HaveRoom ps gate count) [
      | true ↦ λ lt. absurd (omega (arith, ltb-true (MAX_PAYLOADS - count) (length ps) lt, no_more ps, le, room_by gate count (length ps) true lt))
      | false ↦ λ ge. (omega (arith, le, room_by gate count (length ps) false ge), omega (arith, few, ltb-false (MAX_PAYLOADS - count) (length ps) ge))
    ] refl

pub has_room : (ps : List (List ℕ)) (gate count end n g k : ℕ) → end ≡ end_of ps → n ≡ length ps → g ≡ gate → k ≡ count → (k ≤ MAX_PAYLOADS) × (end - 16 ≤ room_for g k n) → HaveRoom ps gate count
has_room ps gate count end n g k end_is n_is g_is k_is fits =
    subst (λ (x : ℕ × ℕ). HaveRoom ps x.0 x.1) (λ i. (g_is i, k_is i)) (have_room ps g k end n fits.0 end_is n_is fits.1)

-- why they haven't
pub full_as : (ps : List (List ℕ)) (gate count end n g k need room x y : ℕ) → fault.NoRoom x y ≡ fault.NoRoom need room → end ≡ end_of ps → n ≡ length ps → g ≡ gate → k ≡ count
    → (k ≤ MAX_PAYLOADS → (x ≡ end - 16) × (y ≡ room_for g k n) × (y < x)) → count ≤ MAX_PAYLOADS → IsFullFor ps gate count need room
full_as ps gate count end n g k need room x y is end_is n_is g_is k_is full few =
    let a : x ≡ need = cc in
    let b : y ≡ room = cc in
    let f = full (omega (arith, k_is, few)) in
    let r : y ≡ room_for gate count (length ps) = f.1 ∙ (λ i. room_for (g_is i) (k_is i) (n_is i)) in
    (omega (arith, a, f.0, end_is), sym b ∙ r, omega (arith, a, b, f.2))

-- and those that have room never lack it
pub never_full : (ps : List (List ℕ)) (gate count need room : ℕ) → HaveRoom ps gate count → IsFullFor ps gate count need room → ⊥
never_full ps gate count need room has full = elim (nat_lt (MAX_PAYLOADS - count) (length ps)) as (λ c. nat_lt (MAX_PAYLOADS - count) (length ps) ≡ c → ⊥) [
  | true ↦ λ lt. omega (arith, ltb-true (MAX_PAYLOADS - count) (length ps) lt, has.1)
  | false ↦ λ ge. omega (arith, full.0, full.1, full.2, room_by gate count (length ps) false ge, has.0)
] refl

-- and why it wasn't
pub never_short : (before now : ℕ) (y : PromoteFault) (at : ℕ) → IsFailure before y now → y ≡ fault.Short at → ⊥
never_short before now y at is short = subst (λ (x : PromoteFault). IsFailure before x now) short is

pub rose_by : (before m now : ℕ) (y : PromoteFault) → before ≤ m → IsFailure m y now → y ≡ fault.Fault → Rose before now
rose_by before m now y le is same = rose_later before m now le (subst (λ (x : PromoteFault). IsFailure m x now) same is)

-- What is said of a store that was filled, or of why it wasn't.
module _ {D : Type 0} {g : Ghosts D} where
  pub keeps_each : (r : Result (TriggerStore D g) (PromoteFault × D)) (b c : Bool) → IfOk r (λ x. keeps_of x ≡ b) → b ≡ c → IfOk r (λ x. keeps_of x ≡ c)
  keeps_each (Ok x) b c is same = is ∙ same
  keeps_each (Err e) b c is same = tt

  pub long_each : (r : Result (TriggerStore D g) (PromoteFault × D)) (m at : ℕ) → IfErr r (λ e. IsFailure m e.0 (g.faults e.1)) → IfErr r (λ e. e.0 ≢ fault.Short at)
  long_each (Ok x) m at is = tt
  long_each (Err e) m at is = never_short m (g.faults e.1) e.0 at is

  pub fault_each : (r : Result (TriggerStore D g) (PromoteFault × D)) (before m : ℕ) → before ≤ m → IfErr r (λ e. IsFailure m e.0 (g.faults e.1)) → IfErr r (λ e. e.0 ≡ fault.Fault → Rose before (g.faults e.1))
  fault_each (Ok x) before m le is = tt
  fault_each (Err e) before m le is = rose_by before m (g.faults e.1) e.0 le is

  pub later_each : (r : Result (TriggerStore D g) (PromoteFault × D)) (before m : ℕ) → before ≤ m → MatchResult r (λ x. m ≤ (view x).faults) (λ e. m ≤ g.faults e.1) → MatchResult r (λ x. before ≤ (view x).faults) (λ e. before ≤ g.faults e.1)
  later_each (Ok x) before m le is = omega (arith, le, is)
  later_each (Err e) before m le is = omega (arith, le, is)

  pub short_each : (r : Result (TriggerStore D g) (PromoteFault × D)) (o : Option ℕ) (at : ℕ) → IfErr r (λ e. e.0 ≢ fault.Short at) → o ≡ None → IfErr r (λ e. (e.0 ≡ fault.Short at) ↔ (o ≡ Some at))
  short_each (Ok x) o at never none = tt
  short_each (Err e) o at never none = (λ is. absurd (never is), λ is. let both : ◌≡◌ {A = Option ℕ} None (Some at) = sym none ∙ is in absurd cc)

  -- why there was no room
  pub no_room_each : (v : ℕ) (start : SchedulerTables) (ps : List (List ℕ)) (m : TriggerStore D g) (r : Result (TriggerStore D g) (PromoteFault × D)) (need room : ℕ) → HaveRoom ps (end_of []) 0
      → (start ≡ empty v → ((view m).gate ≡ end_of []) × ((view m).payloads ≡ 0)) → IfErr r (λ e. e.0 ≡ fault.NoRoom need room → (view m).payloads ≤ MAX_PAYLOADS → IsFullFor ps (view m).gate (view m).payloads need room) → IfErr r (λ e. e.0 ≡ fault.NoRoom need room → start ≢ empty v)
  no_room_each v start ps m (Ok x) need room has plain full = tt
  no_room_each v start ps m (Err e) need room has plain full = λ is new. let place = plain new in never_full ps (view m).gate (view m).payloads need room (omega (arith, has.0, place.0), omega (arith, has.1, place.1)) (full is (omega (arith, place.1)))

  pub lacks_each : (v : ℕ) (start : SchedulerTables) (es : List EntryData) (ps : List (List ℕ)) (m : TriggerStore D g) (r : Result (TriggerStore D g) (PromoteFault × D)) (need room : ℕ) → AreAdoptable start es ps → HaveRoom ps (end_of []) 0
      → (start ≡ empty v → ((view m).gate ≡ end_of []) × ((view m).payloads ≡ 0)) → (start ≢ empty v → IsBehindStart start (view m).gate (view m).payloads)
      → IfErr r (λ e. e.0 ≡ fault.NoRoom need room → (view m).payloads ≤ MAX_PAYLOADS → IsFullFor ps (view m).gate (view m).payloads need room) → IfErr r (λ e. e.0 ≡ fault.NoRoom need room → LacksAll start es need room)
  lacks_each v start es ps m (Ok x) need room can has plain place full = tt
  lacks_each v start es ps m (Err e) need room can has plain place full = λ is.
      let based = place (λ new. let here = plain new in never_full ps (view m).gate (view m).payloads need room (omega (arith, has.0, here.0), omega (arith, has.1, here.1)) (full is (omega (arith, here.1)))) in
      (ps, can.kept, inr (subst (λ (x : ℕ × ℕ). IsFullFor ps x.0 x.1 need room) (λ i. (based.0 i, based.1 i)) (full is (omega (arith, based.1, based.2.1)))))
