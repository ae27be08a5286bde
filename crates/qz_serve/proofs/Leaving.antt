-- What nodes leave that worked in threads, in words of the state store's own history.
use Rattle.std.proofs.Common.{◌≡◌, ◌⊎◌, inl, inr, ℕ, ℤ, List, [], ◌∷◌, drop, length, map, refl, sym, ap, ◌∙◌, subst}
use Rattle.std.specs.Prelude.{Option, IfSome}
use Rattle.std.specs.List.{AllByRecursion}
use Rattle.qz_types.specs.Entries.{EntryData, StateEntryData}
use Rattle.qz_types.specs.Rows.{EvidenceData, MemberData}
use Rattle.qz_types.specs.declared.states.StateCommand.{StateCommand}
use Rattle.qz_types.specs.declared.states.StateCommand.TheVariants.{CheckIn, Forget}
use Rattle.qz_checkin.specs.Entries.{StatesState, of_states}
use Rattle.qz_checkin.specs.History.{replay_states}
use Rattle.qz_checkin.specs.Rows.{StateTables}
use Rattle.qz_model.specs.History.{History, with_entry}
use Rattle.qz_node.specs.Jobs.{JobMeaning}
use Rattle.qz_trigger_store.specs.Entries.{TriggerState, trigger_entry}
use Rattle.qz_rounds.specs.Adding.{IsOfRound, IsRecovery, IsRoundEntry}
use Rattle.qz_rounds.specs.Looking.{FindsLate, LeavesRows}
use Rattle.qz_checkin.specs.View.{view as states_view}
use Rattle.qz_disk.specs.declared.disk.Disk.{Ghosts}
use Rattle.qz_shared_stores.specs.declared.states.SharedStates.{SharedStates}
use Rattle.qz_shared.specs.Since.{IsSince, with_entries}
use Rattle.qz_cluster.specs.Steps.{ClusterState}
use Rattle.qz_run.specs.declared.commands.Declined.{Declined}
use Rattle.qz_serve.specs.Courses.{Leaves, row_entries_of}
use Rattle.qz_serve.specs.Declining.{AtLimit, DeclinedOnTheWay}
use Rattle.qz_serve.specs.Entries.{IsScheduled}
use Rattle.qz_serve.specs.Heard.{Deed}
use Rattle.qz_serve.specs.Knowing.{IsOfNodes, IsOfRounds, Worker}
use Rattle.qz_serve.specs.Limits.{IsOfOurs, IsRowOfOurs, WasDeclined}
use Rattle.qz_serve.specs.Served.{MainServed, NodesServed}
use Rattle.qz_serve.specs.Stopping.{IsOfThreads, IsRowOfThreads}
use Rattle.qz_serve.proofs.Growing.{declined_map, limit_map}
use Rattle.qz_serve.proofs.Lists.{contains_one}
use Rattle.qz_serve.proofs.Stopping.{DeclinedThread, some_map}

-- The same with what is known more weakly of the rows that entries leave.
module _ (leaves weaker : List StateEntryData → StateTables → Type 0) (weaken : (es : List StateEntryData) (T : StateTables) → leaves es T → weaker es T) where
  late_so : (first : List StateEntryData) (own : List ℕ) (at : ℤ) (seen : List StateEntryData) (found : EvidenceData) → FindsLate leaves first own at seen found → FindsLate weaker first own at seen found
  late_so first own at seen found late = record { looked = late.looked; tables = late.tables; begins = late.begins; checked_in = late.checked_in; rows = weaken late.looked late.tables late.rows; found_is = late.found_is; before = late.before; again = late.again; awake = late.awake }

  module _ (shows : ℤ → Type 0) (first seen : List StateEntryData) where
    pub recovery_so : (me : MemberData) (e : EntryData) → IsRecovery shows leaves first me seen e → IsRecovery shows weaker first me seen e
    recovery_so me e is = record { found = is.found; actor = is.actor; command = is.command; shown = is.shown; late = late_so first me.node e.at seen is.found is.late }

    round_so : (own : List ℕ) (at : ℤ) (command : StateCommand) → IsOfRound shows leaves first own seen at command → IsOfRound shows weaker first own seen at command
    round_so own at (CheckIn node interval) is = is
    round_so own at (Forget node last) is = (is.0, is.1, is.2, late_so first own at seen is.0 is.3)

    pub round_entry_so : (own : List ℕ) (e : StateEntryData) → IsRoundEntry shows leaves first own seen e → IsRoundEntry shows weaker first own seen e
    round_entry_so own e is = record { shown = is.shown; command = round_so own e.at e.command is.command }

    module _ (until : ℤ) (workers : List Worker) where
      asked_so : (w : Worker) (e : EntryData) → IsScheduled shows until w.me w.number e ⊎ IsRecovery shows leaves first w.me seen e → IsScheduled shows until w.me w.number e ⊎ IsRecovery shows weaker first w.me seen e
      asked_so w e (inl scheduled) = inl scheduled
      asked_so w e (inr recovery) = inr (recovery_so w.me e recovery)

      nodes_so : (es : List EntryData) → AllByRecursion (IsOfNodes shows until leaves first seen workers) es → AllByRecursion (IsOfNodes shows until weaker first seen workers) es
      nodes_so [] all = tt
      nodes_so (e ∷ es) all = (record { worker = all.0.worker; is_one = all.0.is_one; asked = asked_so all.0.worker e all.0.asked }, nodes_so es all.1)

      rounds_so : (es : List StateEntryData) → AllByRecursion (IsOfRounds shows until leaves first seen workers) es → AllByRecursion (IsOfRounds shows until weaker first seen workers) es
      rounds_so [] all = tt
      rounds_so (e ∷ es) all = (record { worker = all.0.worker; is_one = all.0.is_one; asked = round_entry_so all.0.worker.me.node e all.0.asked }, rounds_so es all.1)

  pub served_so : (shows : ℤ → Type 0) (until : ℤ) (heard : List ℕ → List EntryData → List Deed) (members : List MemberData) (first now : List EntryData) (first_rows now_rows : List StateEntryData) (before after : List (List JobMeaning))
      → NodesServed shows until heard leaves members first now first_rows now_rows before after → NodesServed shows until heard weaker members first now first_rows now_rows before after
  served_so shows until heard members first now first_rows now_rows before after served = record {
    workers = served.workers;
    added = served.added;
    added_rows = served.added_rows;
    who = served.who;
    once = served.once;
    now_are = served.now_are;
    rows_are = served.rows_are;
    entries = nodes_so shows first_rows now_rows until served.workers served.added served.entries;
    rows = rounds_so shows first_rows now_rows until served.workers served.added_rows served.rows;
    told = served.told;
  }

-- Further entries leave the base of a history as it is.

pub bases_stay : (h : History) (es : List EntryData) → (with_entries trigger_entry h es).base_count ≡ h.base_count
bases_stay h [] = refl
bases_stay h (e ∷ es) = bases_stay (with_entry e h) es

pub base_stays : (h : History) (es : List EntryData) → (with_entries trigger_entry h es).base ≡ h.base
base_stays h [] = refl
base_stays h (e ∷ es) = base_stays (with_entry e h) es

pub base_count_since : (s t : TriggerState) → IsSince trigger_entry (λ h. h.entries) s t → t.history.base_count ≡ s.history.base_count
base_count_since s t since = ap (λ (h : History). h.base_count) since.history ∙ bases_stay s.history (drop (length s.history.entries) t.history.entries)

pub base_since : (s t : TriggerState) → IsSince trigger_entry (λ h. h.entries) s t → t.history.base ≡ s.history.base
base_since s t since = ap (λ (h : History). h.base) since.history ∙ base_stays s.history (drop (length s.history.entries) t.history.entries)

-- The rows that entries leave, of a state store under its row.
module _ {D : Type 0} {g : Ghosts D} where
  pub rows_leave : (opened : StatesState) (es : List StateEntryData) (T : StateTables) → LeavesRows {S = SharedStates D g} of_states (λ h. h.entries) (λ s. states_view s.store) (λ s. replay_states (states_view s.store).history) opened es T → Leaves opened es T
  rows_leave opened es T is = sym is.rows ∙ ap replay_states is.history

-- The moment up to which nodes worked, by another name.
pub main_until : (shows : ℤ → Type 0) (t u : ℤ) (heard : List ℕ → List EntryData → List Deed) (me : MemberData) (first now : List EntryData) (before after : List (List JobMeaning)) → t ≡ u
    → MainServed shows t heard me first now before after → MainServed shows u heard me first now before after
main_until shows t u heard me first now before after same served = subst (λ (x : ℤ). MainServed shows x heard me first now before after) same served

pub nodes_until : (shows : ℤ → Type 0) (t u : ℤ) (heard : List ℕ → List EntryData → List Deed) (leaves : List StateEntryData → StateTables → Type 0) (members : List MemberData) (first now : List EntryData) (first_rows now_rows : List StateEntryData)
    (before after : List (List JobMeaning)) → t ≡ u → NodesServed shows t heard leaves members first now first_rows now_rows before after → NodesServed shows u heard leaves members first now first_rows now_rows before after
nodes_until shows t u heard leaves members first now first_rows now_rows before after same served = subst (λ (x : ℤ). NodesServed shows x heard leaves members first now first_rows now_rows before after) same served

-- What threads were declined, the nodes were declined in this part of the call.
pub nodes_declined : (leaves : List StateEntryData → StateTables → Type 0) (shows : ℤ → Type 0) (t u : ℤ) (ms ns : List MemberData) (S T : ClusterState) (o : Option Declined) → ((es : List StateEntryData) (X : StateTables) → leaves es X → Leaves S.states es X) → t ≡ u → ms ≡ ns
    → IfSome o (AtLimit (DeclinedThread trigger_entry (λ h. h.entries) of_states (λ h. h.entries) shows (map (λ (m : MemberData). m.node) ms) T.triggers T.states S.triggers S.states t leaves (row_entries_of S)))
    → IfSome o (AtLimit (WasDeclined shows u (map (λ (m : MemberData). m.node) ns) S T))
nodes_declined leaves shows t u ms ns S T o weaken until_is same x =
    let names : List (List ℕ) = map (λ (m : MemberData). m.node) ms in
    let declined = DeclinedThread trigger_entry (λ h. h.entries) of_states (λ h. h.entries) shows names T.triggers T.states S.triggers S.states t leaves (row_entries_of S) in
    subst (λ (xs : List MemberData). IfSome o (AtLimit (WasDeclined shows u (map (λ (m : MemberData). m.node) xs) S T))) same
    (subst (λ (y : ℤ). IfSome o (AtLimit (WasDeclined shows y names S T))) until_is
    (some_map (AtLimit declined) (AtLimit (WasDeclined shows t names S T)) (limit_map declined (WasDeclined shows t names S T) (declined_so names)) o x)) where
      asked_so : (me : MemberData) (number : ℕ) (e : EntryData) → IsScheduled shows t me number e ⊎ IsRecovery shows leaves (row_entries_of S) me (row_entries_of T) e → IsScheduled shows t me number e ⊎ IsRecovery shows (Leaves S.states) (row_entries_of S) me (row_entries_of T) e
      asked_so me number e (inl is) = inl is
      asked_so me number e (inr is) = inr (recovery_so leaves (Leaves S.states) weaken shows (row_entries_of S) (row_entries_of T) me e is)

      declined_so : (names : List (List ℕ)) (w : Declined) → DeclinedThread trigger_entry (λ h. h.entries) of_states (λ h. h.entries) shows names T.triggers T.states S.triggers S.states t leaves (row_entries_of S) w → WasDeclined shows t names S T w
      declined_so names w (inl d) = record {
        by = inl (declined_map trigger_entry (λ h. h.entries) (IsOfThreads shows t leaves (row_entries_of S) names (row_entries_of T)) (IsOfOurs shows t names S T)
            (λ e of. inr (inr (record { me = of.me; number = of.number; ours = of.ours; asked = asked_so of.me of.number e of.asked }))) S.triggers T.triggers w d);
      }
      declined_so names w (inr d) = record {
        by = inr (declined_map of_states (λ h. h.entries) (IsRowOfThreads shows t leaves (row_entries_of S) names (row_entries_of T)) (IsRowOfOurs shows t names S T)
            (λ e of. inr (inr (record { me = of.me; ours = of.ours; asked = round_entry_so leaves (Leaves S.states) weaken shows (row_entries_of S) (row_entries_of T) of.me.node e of.asked }))) S.states T.states w d);
      }

pub main_declined : (shows : ℤ → Type 0) (t u : ℤ) (me : MemberData) (S T : ClusterState) (o : Option Declined) → t ≡ u → IfSome o (AtLimit (DeclinedOnTheWay trigger_entry (λ h. h.entries) (IsScheduled shows t me 0) S.triggers T.triggers))
    → IfSome o (AtLimit (WasDeclined shows u (me.node ∷ []) S T))
main_declined shows t u me S T o until_is x =
    let declined : Declined → Type 0 = DeclinedOnTheWay trigger_entry (λ h. h.entries) (IsScheduled shows t me 0) S.triggers T.triggers in
    subst (λ (y : ℤ). IfSome o (AtLimit (WasDeclined shows y (me.node ∷ []) S T))) until_is
    (some_map (AtLimit declined) (AtLimit (WasDeclined shows t (me.node ∷ []) S T)) (limit_map declined (WasDeclined shows t (me.node ∷ []) S T)
    (λ w d. record { by = inl (declined_map trigger_entry (λ h. h.entries) (IsScheduled shows t me 0) (IsOfOurs shows t (me.node ∷ []) S T) (λ e is. inr (inr (record { me = me; number = 0; ours = contains_one me.node; asked = inl is }))) S.triggers T.triggers w d) })) o x)
