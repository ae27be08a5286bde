-- How opened stores stand, and that what a crash leaves holds a whole list that begins as before.
use Rattle.std.proofs.Common.{◌≡◌, ◌⊎◌, inl, inr, ◌≤◌, ℕ, List, [], ◌∷◌, ◌++◌, true, false, refl, sym, ap, subst, ◌∙◌, append_assoc, arith}
use Rattle.std.proofs.Math.Logic.{∥∥₁_elim, ∥∥₁_map}
use Rattle.std.proofs.Props.{props}
use Rattle.std.specs.Prelude.{Option}
use Rattle.qz_disk.specs.declared.disk.Disk.{Ghosts}
use Rattle.qz_disk.specs.Disk.{LeavesOnly}
use Rattle.qz_disk.proofs.Moments.{weaker}
use Rattle.qz_types.specs.Entries.{EntryData, StateEntryData}
use Rattle.qz_types.specs.Tables.{SchedulerTables}
use Rattle.qz_laws.specs.Losses.{AreExact}
use Rattle.qz_laws.proofs.Histories.{exact}
use Rattle.qz_model.specs.History.{History}
use Rattle.qz_stores.specs.Bases.{HoldAll, records}
use Rattle.qz_stores.proofs.Histories.{goes_on_in}
use Rattle.qz_stores.proofs.Whole.{have_records}
use Rattle.qz_trigger_store.specs.Bytes.{Whole, IsWhole, MayBe}
use Rattle.qz_trigger_store.specs.Entries.{TriggerState}
use Rattle.qz_trigger_store.specs.Kinds.{trigger_kind}
use Rattle.qz_trigger_store.specs.Laws.{trigger_lawful}
use Rattle.qz_trigger_store.specs.Opening.{IsSound}
use Rattle.qz_trigger_store.specs.Proper.{each_proper}
use Rattle.qz_trigger_store.specs.View.{view, base_of, found_of, added_of, version_of}
use Rattle.qz_trigger_store.specs.declared.stores.TriggerStore.{TriggerStore}
use Rattle.qz_trigger_store.proofs.Kept.{legal, base_valid, history_valid, payloads_enough}
use Rattle.qz_checkin.specs.Bytes.{Whole as WholeRows, IsWhole as IsWholeRows, MayBe as RowsMayBe}
use Rattle.qz_checkin.specs.Entries.{StatesState}
use Rattle.qz_checkin.specs.History.{StateHistory, replay_from}
use Rattle.qz_checkin.specs.Kinds.{state_kind}
use Rattle.qz_checkin.specs.Laws.{state_lawful}
use Rattle.qz_checkin.specs.Opening.{IsSound as AreSound}
use Rattle.qz_checkin.specs.Rows.{StateTables, new_state_tables}
use Rattle.qz_checkin.specs.Valid.{StatesValid}
use Rattle.qz_checkin.specs.View.{view as states_view, entries_of}
use Rattle.qz_checkin.specs.declared.stores.StateStore.{StateStore}
use Rattle.qz_checkin.proofs.Kept.{legal as states_legal}
use Rattle.qz_cluster.specs.Steps.{ClusterState}
use Rattle.qz_cluster.specs.View.{disk_of_triggers, disk_of_states}
use Rattle.qz_run_stores.specs.Ways.{HasOnTheWay, HasRowsOnTheWay}
use Rattle.qz_top.specs.Calls.{RunsOneAtATime}
use Rattle.qz_top.specs.Moments.{HasTriggers, HasStates, HoldsOfOne, BeginsWithReads, EachIsKept}
use Rattle.qz_top.specs.NodeRuns.{both, IsKept}
use Rattle.qz_top.specs.Seen.{Shown, states_of}
use Rattle.qz_top.specs.Standing.{longer, HoldLonger, HoldLongerRows, IsInOrder}
use Rattle.qz_top.proofs.NodeRunLaws.{rows_legal}
use Rattle.qz_top.proofs.OneAtATime.{one_at_a_time}

-- A whole list recovered what it lost.
whole_exact : (version : ℕ) (start : SchedulerTables) (es : List EntryData) (b : List ℕ) → HoldAll trigger_kind version start b es → ∥ AreExact start es ∥₁
whole_exact version start es b held =
    let recorded = held.recorded held.store.0 held.store.1 in
    ∥∥₁_elim recorded squash₁ (λ all. ∥∥₁_elim held.valid squash₁ (λ valid. ∥∥₁_map held.legal (λ legal. exact start es valid (each_proper es (have_records trigger_kind (records trigger_kind held.store.0) es all)) legal)))

-- Longer lists.

pub longer_of : (w : Whole) (b : List ℕ) → (more : List EntryData) × HoldAll trigger_kind w.version w.start b (w.entries ++ more) → HoldLonger w b
longer_of w b (more, held) = record { more = more; held = held; recovered = whole_exact w.version w.start (w.entries ++ more) b held }

pub rows_longer_of : (v : WholeRows) (b : List ℕ) → (more : List StateEntryData) × HoldAll state_kind v.version v.start b (v.entries ++ more) → HoldLongerRows v b
rows_longer_of v b (more, held) = record { more = more; held = held }

pub longer_still : (w : Whole) (more : List EntryData) (b : List ℕ) → HoldLonger (longer w more) b → HoldLonger w b
longer_still w more b holds = longer_of w b (more ++ holds.more, subst (λ (l : List EntryData). HoldAll trigger_kind w.version w.start b l) (append_assoc w.entries more holds.more) holds.held)

pub rows_longer_still : (v : WholeRows) (more : List StateEntryData) (b : List ℕ) → HoldLongerRows (longer v more) b → HoldLongerRows v b
rows_longer_still v more b holds = rows_longer_of v b (more ++ holds.more, subst (λ (l : List StateEntryData). HoldAll state_kind v.version v.start b l) (append_assoc v.entries more holds.more) holds.held)

-- what may be on a disk
pub may_longer : (w : Whole) (h : History) (u : Option EntryData) (b : List ℕ) → MayBe w h u b → HoldLonger w b
may_longer w h u b may = longer_of w b (goes_on_in trigger_kind trigger_lawful w h u b may)

pub rows_may_longer : (v : WholeRows) (h : StateHistory) (u : Option StateEntryData) (b : List ℕ) → RowsMayBe v h u b → HoldLongerRows v b
rows_may_longer v h u b may = rows_longer_of v b (goes_on_in state_kind state_lawful v h u b may)

-- as in one of some states
one_longer : (w : Whole) (b : List ℕ) (states : List ClusterState) (end : ClusterState) → HoldsOfOne (HasTriggers w b) states end → HoldLonger w b
one_longer w b [] end has = may_longer w end.triggers.history end.triggers.undecided b has
one_longer w b (S ∷ states) end (inl has) = may_longer w S.triggers.history S.triggers.undecided b has
one_longer w b (S ∷ states) end (inr has) = one_longer w b states end has

one_longer_rows : (v : WholeRows) (b : List ℕ) (states : List ClusterState) (end : ClusterState) → HoldsOfOne (HasStates v b) states end → HoldLongerRows v b
one_longer_rows v b [] end has = rows_may_longer v end.states.history end.states.undecided b has
one_longer_rows v b (S ∷ states) end (inl has) = rows_may_longer v S.states.history S.states.undecided b has
one_longer_rows v b (S ∷ states) end (inr has) = one_longer_rows v b states end has

-- on the way of a run
way_longer : (w : Whole) (begun now : TriggerState) (b : List ℕ) → HasOnTheWay w begun now b → HoldLonger w b
way_longer w begun now b (inl some) = longer_of w b (some.3.more, some.3.held)
way_longer w begun now b (inr may) = may_longer w now.history now.undecided b may

way_longer_rows : (v : WholeRows) (begun now : StatesState) (b : List ℕ) → HasRowsOnTheWay v begun now b → HoldLongerRows v b
way_longer_rows v begun now b (inl some) = rows_longer_of v b (some.3.more, some.3.held)
way_longer_rows v begun now b (inr may) = rows_may_longer v now.history now.undecided b may

module _ {D : Type 0} {g : Ghosts D} where
  pub kept_weaker : (before after : D) (P Q : List ℕ → Type 0) → IsKept g before after P → ((b : List ℕ) → P b → Q b) → IsKept g before after Q
  kept_weaker before after P Q kept q = record { opened = kept.opened; reads = kept.reads; leaves = weaker _ _ _ _ kept.leaves q }

  pub way_kept : (triggers states triggers' states' : D) (opened end : ClusterState) (w : Whole) (v : WholeRows)
      → IsKept g triggers triggers' (HasOnTheWay w opened.triggers end.triggers) × IsKept g states states' (HasRowsOnTheWay v opened.states end.states)
      → IsKept g triggers triggers' (HoldLonger w) × IsKept g states states' (HoldLongerRows v)
  way_kept triggers states triggers' states' opened end w v kept = (
    kept_weaker triggers triggers' _ _ kept.0 (way_longer w opened.triggers end.triggers),
    kept_weaker states states' _ _ kept.1 (way_longer_rows v opened.states end.states),
  )

  -- of the states that were shown
  pub shown_kept : (triggers states triggers' states' : D) (w : Whole) (v : WholeRows) (shown : Shown D g) (end : ClusterState) → BeginsWithReads (g.state triggers) (g.state states) shown
      → EachIsKept w v shown end (g.state triggers') (g.state states') → IsKept g triggers triggers' (HoldLonger w) × IsKept g states states' (HoldLongerRows v)
  shown_kept triggers states triggers' states' w v [] end reads kept = absurd reads
  shown_kept triggers states triggers' states' w v (s ∷ later) end reads kept = (
    record { opened = disk_of_triggers s.value; reads = reads.0; leaves = weaker _ _ _ _ kept.0 (λ b has. one_longer w b (states_of (s ∷ later)) end has) },
    record { opened = disk_of_states s.value; reads = reads.1; leaves = weaker _ _ _ _ kept.1 (λ b has. one_longer_rows v b (states_of (s ∷ later)) end has) },
  )

-- Stores as they are.

at_most_once : (m n : ℕ) → IsProp (m ≤ n)
at_most_once m n = hlevel props

never : {A : Type 0} → true ≡ false → A
never is = absurd cc

module _ {D : Type 0} {g : Ghosts D} where
  pub triggers_sound : (t : TriggerStore D g) → IsSound (view t)
  triggers_sound t = record {
    version = version_of t;
    begins = λ none. never none;
    base = ∣ base_valid t ∣₁;
    legal = legal t;
    state = ∣ history_valid t ∣₁;
    counted = payloads_enough t;
  }

  pub states_sound : (s : StateStore D g) → AreSound (states_view s)
  states_sound s =
      let new = s.store.new_base refl in
      let left : ∥ StatesValid (replay_from new_state_tables (entries_of s)) ∥₁ = ∥∥₁_elim s.store.recorded squash₁ (λ recorded. ∥∥₁_elim (state_lawful.valid_new 2 refl) squash₁ (λ valid. state_lawful.valid_left new_state_tables (entries_of s) valid recorded (states_legal s))) in
      record {
        version = s.store.version;
        begins = λ none. record { known = s.store.known; count = s.store.new_count refl; base = new };
        base = subst (λ (T : StateTables). ∥ StatesValid T ∥₁) (sym new) (state_lawful.valid_new 2 refl);
        legal = rows_legal s;
        state = subst (λ (T : StateTables). ∥ StatesValid (replay_from T (entries_of s)) ∥₁) (sym new) left;
        counted = λ is_open. omega (arith, s.store.placed is_open, s.store.counted);
      }

  pub store_recovers : (t : TriggerStore D g) → ∥ AreExact (base_of t) (found_of t ++ added_of t) ∥₁
  store_recovers t = ∥∥₁_map t.store.recorded (λ recorded. exact (base_of t) (found_of t ++ added_of t) (base_valid t) (each_proper (found_of t ++ added_of t) recorded) (legal t))

  pub stores_one_at_a_time : (t : TriggerStore D g) (s : StateStore D g) → RunsOneAtATime (both t s)
  stores_one_at_a_time t s first rest is key =
      let entries : List EntryData = found_of t ++ added_of t in
      ∥∥₁_elim t.store.recorded (at_most_once _ _) (λ recorded. one_at_a_time (base_of t) entries first rest (each_proper entries recorded) (base_valid t) is key)

  pub stores_in_order : (t : TriggerStore D g) (s : StateStore D g) → IsInOrder (both t s)
  stores_in_order t s = record { sound = (triggers_sound t, states_sound s); recovered = store_recovers t }
