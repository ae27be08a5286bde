-- What the nodes' work comes to, by what their stores tell.
use Rattle.std.proofs.Common.{◌≡◌, ◌⊎◌, inl, inr, ◌≤◌, ◌++◌, [], List, ℕ, Bool, true, false, length, take, drop, refl, sym, ap, subst, ◌∙◌, arith}
use Rattle.std.proofs.lemmas.List.{append-nil}
use Rattle.std.proofs.Math.Logic.{∥∥₁_elim, ∥∥₁_map}
use Rattle.std.proofs.Math.Seq.{take-append_seam, drop-append_seam}
use Rattle.std.specs.Prelude.{Result, Ok, Err, IfOk, IfErr, OnOk, OnErr}
use Rattle.qz_civil.specs.Causes.{Rose}
use Rattle.qz_disk.specs.declared.disk.Disk.{Ghosts}
use Rattle.qz_types.specs.Entries.{EntryData, StateEntryData}
use Rattle.qz_io.specs.Outside.{Outside}
use Rattle.qz_model.specs.History.{History, replay, replay_from}
use Rattle.qz_node.specs.Jobs.{JobMeaning}
use Rattle.qz_trigger_store.specs.Bytes.{Whole, IsWhole}
use Rattle.qz_trigger_store.specs.Entries.{TriggerState}
use Rattle.qz_disk.specs.Disk.{LeavesOnly}
use Rattle.qz_journal.specs.Through.{OnlyReads}
use Rattle.qz_stores.proofs.GoesOn.{goes_on_once}
use Rattle.qz_stores.proofs.Moments.{now}
use Rattle.qz_trigger_store.specs.Laws.{trigger_lawful}
use Rattle.qz_checkin.specs.Laws.{state_lawful}
use Rattle.qz_trigger_store.specs.View.{view as triggers_view, found_of, added_of, disk_of, disk_state, GoesOnFrom}
use Rattle.qz_trigger_store.specs.declared.stores.TriggerStore.{TriggerStore}
use Rattle.qz_checkin.specs.Bytes.{Whole as WholeRows, IsWhole as IsWholeRows}
use Rattle.qz_checkin.specs.Entries.{StatesState}
use Rattle.qz_checkin.specs.History.{IsLegal as AreLegal, IsLegalFrom, replay_states}
use Rattle.qz_checkin.specs.Rows.{StateTables}
use Rattle.qz_checkin.proofs.Kept.{legal as states_legal}
use Rattle.qz_checkin.specs.View.{view as states_view, entries_of, disk_of as states_disk_of, disk_state as states_disk_state, GoesOnFrom as RowsGoOnFrom}
use Rattle.qz_checkin.specs.declared.stores.StateStore.{StateStore}
use Rattle.qz_run.specs.declared.commands.Plan.{Plan}
use Rattle.qz_run.specs.declared.commands.Declined.{Declined}
use Rattle.qz_run.specs.declared.commands.Declined.TheVariants as declined
use Rattle.qz_run.specs.Stores.{Event, RunState}
use Rattle.qz_run.specs.Laws.{Lawful, Ran, RanOrMore}
use Rattle.qz_run.specs.StateLaws.{LawfulStates, Stopped}
use Rattle.qz_run.specs.RunRules.{Ends}
use Rattle.qz_seen.specs.Seen.{seen}
use Rattle.qz_run_stores.specs.Accounts.{events_onto, row_events_onto}
use Rattle.qz_run_stores.specs.Going.{Went, TriggersWent, StatesWent}
use Rattle.qz_run_stores.specs.Logs.{log_of, row_log_of, has_row}
use Rattle.qz_run_stores.specs.View.{Origin, origin, triggers_of, states_of, entries_before, rows_before, run_state, Declines, DeclinesRowOf}
use Rattle.qz_run_stores.specs.Ways.{HasOnTheWay, HasRowsOnTheWay, KeepsTriggers, KeepsStates}
use Rattle.qz_run_stores.specs.declared.stores.RunStores.{RunStores}
use Rattle.qz_cluster.specs.Steps.{ClusterState}
use Rattle.qz_words.specs.declared.wishes.WordFault.{WordFault}
use Rattle.qz_top.specs.Found.{found_history, HoldWhole}
use Rattle.qz_top.specs.Moments.{HasTriggers, HasStates}
use Rattle.qz_top.specs.NodeRuns.{both, WentOn, seen_after, WasStopped, EndsWork, CalledJobs, Worked, IsToldAs, status_of, text_since, run_text, WritesRun, IsKeptOnTheWay}
use Rattle.qz_top.specs.declared.statuses.Status.{Status}
use Rattle.qz_top.specs.declared.statuses.Status.TheVariants as status

-- the state store's history is legal
pub rows_legal : {D : Type 0} {g : Ghosts D} (s : StateStore D g) → AreLegal (states_view s).history
rows_legal s = subst (λ (T : StateTables). IsLegalFrom T (entries_of s)) (sym (s.store.new_base refl)) (states_legal s)

-- The run's part of a history that went on from that of its beginning.

log_after : (n : ℕ) (b t : TriggerState) (added : List EntryData) → n ≡ length b.history.entries → t.history.base ≡ b.history.base → t.history.entries ≡ b.history.entries ++ added
    → log_of n t ≡ events_onto [] (replay b.history) added
log_after n b t added counted base entries =
    (λ i. events_onto [] (replay_from (base i) (take (counted i) (entries i))) (drop (counted i) (entries i)))
    ∙ ap (λ xs. events_onto [] (replay_from b.history.base xs) (drop (length b.history.entries) (b.history.entries ++ added))) (take-append_seam b.history.entries added)
    ∙ ap (λ xs. events_onto [] (replay b.history) xs) (drop-append_seam b.history.entries added)

row_log_after : (n : ℕ) (b t : StatesState) (rows : List StateEntryData) → n ≡ length b.history.entries → t.history.entries ≡ b.history.entries ++ rows → row_log_of n t ≡ row_events_onto [] rows
row_log_after n b t rows counted entries =
    (λ i. row_events_onto [] (drop (counted i) (entries i)))
    ∙ ap (λ xs. row_events_onto [] xs) (drop-append_seam b.history.entries rows)

-- what it saw at its end
saw_after : (n k : ℕ) (begun end : ClusterState) (added : List EntryData) (rows : List StateEntryData) → n ≡ length begun.triggers.history.entries → k ≡ length begun.states.history.entries
    → WentOn begun end added rows
    → record { view = seen (replay end.triggers.history); log = log_of n end.triggers; states = record { has = has_row (replay_states end.states.history); log = row_log_of k end.states } }
    ≡ seen_after begun end added rows
saw_after n k begun end added rows counted rows_counted went =
    let log = log_after n begun.triggers end.triggers added counted went.base went.entries in
    let row_log = row_log_after k begun.states end.states rows rows_counted went.rows_are in
    λ i. record { view = seen (replay end.triggers.history); log = log i; states = record { has = has_row (replay_states end.states.history); log = row_log i } }

-- How it ended.

-- no node of a run is fenced
never_fenced : (p : Plan) (E : ClusterState) (s : RunState) → WasStopped p declined.Fenced E s → ⊥
never_fenced p E s (inl one) = one.declined
never_fenced p E s (inr one) = one.declined.1.1

ends_by : (p : Plan) (end : Result Bool Declined) (E : ClusterState) (s : RunState) → IfOk end (λ spent. Ends p spent s) → IfErr end (λ why. WasStopped p why E s) → EndsWork p (status_of p end) E s
ends_by p (Ok false) E s ends stopped = ends
ends_by p (Ok true) E s ends stopped = (refl, ends)
ends_by p (Err (declined.TooMany count)) E s ends stopped = stopped
ends_by p (Err (declined.JournalFull need room)) E s ends stopped = stopped
ends_by p (Err declined.Fault) E s ends stopped = stopped
ends_by p (Err declined.NoMemory) E s ends stopped = stopped
ends_by p (Err declined.Fenced) E s ends stopped = absurd (never_fenced p E s stopped)

called_by : (p : Plan) (end : Result Bool Declined) (log : List Event) (jobs jobs' : List JobMeaning) → OnOk end (Ran log jobs jobs') → OnErr end (RanOrMore log jobs jobs')
    → CalledJobs (status_of p end) log jobs jobs'
called_by p (Ok false) log jobs jobs' ran more = ran
called_by p (Ok true) log jobs jobs' ran more = ran
called_by p (Err (declined.TooMany count)) log jobs jobs' ran more = more
called_by p (Err (declined.JournalFull need room)) log jobs jobs' ran more = more
called_by p (Err declined.Fault) log jobs jobs' ran more = more
called_by p (Err declined.NoMemory) log jobs jobs' ran more = more
called_by p (Err declined.Fenced) log jobs jobs' ran more = more

module _ {D : Type 0} {g : Ghosts D} where
  went_from : (b t : TriggerStore D g) (c u : StateStore D g) (went : TriggersWent b t) (rows : StatesWent c u) → WentOn (both b c) (both t u) went.added rows.added
  went_from b t c u went rows = record { base_count = went.base.0; base = went.base.1; entries = went.entries; rows_are = rows.entries }

  -- The nodes worked on the stores, as the run tells them.
  pub worked_by : (p : Plan) (end : Result Bool Declined) (jobs jobs' : List JobMeaning) (x : RunStores D g)
      → (went : TriggersWent (origin x).triggers (triggers_of x)) → (rows : StatesWent (origin x).states (states_of x))
      → entries_before x ≡ length (both (origin x).triggers (origin x).states).triggers.history.entries → rows_before x ≡ length (states_view (origin x).states).history.entries
      → Lawful p (run_state x).log → LawfulStates p (run_state x) → IfOk end (λ spent. Ends p spent (run_state x)) → IfErr end (λ why. Stopped p (Declines x) (DeclinesRowOf x) why (run_state x))
      → OnOk end (Ran (run_state x).log jobs jobs') → OnErr end (RanOrMore (run_state x).log jobs jobs')
      → Worked p (status_of p end) jobs jobs' (both (origin x).triggers (origin x).states) (both (triggers_of x) (states_of x))
  worked_by p end jobs jobs' x went rows counted rows_counted lawful lawful_rows ends stopped ran more =
      let begun : ClusterState = both (origin x).triggers (origin x).states in
      let left : ClusterState = both (triggers_of x) (states_of x) in
      let on : WentOn begun left went.added rows.added = went_from (origin x).triggers (triggers_of x) (origin x).states (states_of x) went rows in
      let saw : run_state x ≡ seen_after begun left went.added rows.added = saw_after (entries_before x) (rows_before x) begun left _ _ counted rows_counted on in
      record {
        added = went.added;
        rows = rows.added;
        went_on = on;
        asked = went.asked;
        lawful = subst (λ (s : RunState). Lawful p s.log) saw lawful;
        lawful_rows = subst (λ (s : RunState). LawfulStates p s) saw lawful_rows;
        ends = subst (λ (s : RunState). EndsWork p (status_of p end) left s) saw (ends_by p end left (run_state x) ends stopped);
        called = subst (λ (s : RunState). CalledJobs (status_of p end) s.log jobs jobs') saw (called_by p end (run_state x).log jobs jobs' ran more);
      }

  -- The same, of the stores by their own names.

  pub worked_to : (p : Plan) (end : Result Bool Declined) (s : Status) (jobs jobs' : List JobMeaning) (x : RunStores D g) (b t : TriggerStore D g) (c u : StateStore D g) → s ≡ status_of p end
      → origin x ≡ record { triggers = b; states = c } → t ≡ triggers_of x → u ≡ states_of x
      → Worked p (status_of p end) jobs jobs' (both (origin x).triggers (origin x).states) (both (triggers_of x) (states_of x)) → Worked p s jobs jobs' (both b c) (both t u)
  worked_to p end s jobs jobs' x b t c u is from same states_same worked =
      let start : both (origin x).triggers (origin x).states ≡ both b c = ap (λ (o : Origin g). both o.triggers o.states) from in
      let finish : both (triggers_of x) (states_of x) ≡ both t u = λ i. both (sym same i) (sym states_same i) in
      subst (λ (r : Status). Worked p r jobs jobs' (both b c) (both t u)) (sym is)
      (subst (λ (E : ClusterState). Worked p (status_of p end) jobs jobs' (both b c) E) finish
      (subst (λ (S : ClusterState). Worked p (status_of p end) jobs jobs' S (both (triggers_of x) (states_of x))) start worked))

  pub went_to : (x : RunStores D g) (b t : TriggerStore D g) (c : StateStore D g) → origin x ≡ record { triggers = b; states = c } → TriggersWent (origin x).triggers t → TriggersWent b t
  went_to x b t c from went = subst (λ (o : Origin g). TriggersWent o.triggers t) from went

  pub states_went_to : (x : RunStores D g) (b : TriggerStore D g) (c u : StateStore D g) → origin x ≡ record { triggers = b; states = c } → StatesWent (origin x).states u → StatesWent c u
  states_went_to x b c u from went = subst (λ (o : Origin g). StatesWent o.states u) from went

module _ {D : Type 0} {g : Ghosts D} where
  -- What was added is what the store has accepted since it was opened, and its text is that of the run.

  found_is : (b t : TriggerStore D g) → added_of b ≡ [] → TriggersWent b t → found_of t ≡ found_of b ++ added_of b
  found_is b t none went = went.found ∙ sym (append-nil (found_of b)) ∙ ap (λ xs. found_of b ++ xs) (sym none)

  pub history_is : (b t : TriggerStore D g) → added_of b ≡ [] → TriggersWent b t → found_history t ≡ (triggers_view b).history
  history_is b t none went i = record { base_count = went.base.0 i; base = went.base.1 i; entries = found_is b t none went i }

  pub added_is : (b t : TriggerStore D g) (added : List EntryData) → added_of b ≡ [] → TriggersWent b t → found_of t ++ added_of t ≡ (found_of b ++ added_of b) ++ added → added_of t ≡ added
  added_is b t added none went entries =
      let found : List EntryData = found_of b ++ added_of b in
      sym (drop-append_seam found (added_of t)) ∙ ap (λ xs. drop (length found) (xs ++ added_of t)) (sym (found_is b t none went)) ∙ ap (drop (length found)) entries ∙ drop-append_seam found added

-- A disk failed where a store declined what it was asked since it is closed.

closed_at_end : (p : Plan) (end : ClusterState) (s : RunState) → EndsWork p status.DiskFault end s → (end.triggers.is_open ≡ false) ⊎ (end.states.is_open ≡ false)
closed_at_end p end s (inl command) = inl command.declined
closed_at_end p end s (inr row) = inr row.declined.1.1

rose_from : (a b c : ℕ) → a ≤ b → Rose b c → Rose a c
rose_from a b c earlier rose = omega (arith, earlier, rose)

pub node_disk_rose : (p : Plan) (jobs jobs' : List JobMeaning) (begun end : ClusterState) (m n : ℕ) → Worked p status.DiskFault jobs jobs' begun end → begun.triggers.is_open ≡ true → begun.states.is_open ≡ true
    → Went begun.triggers end.triggers → Went begun.states end.states → m ≤ begun.triggers.faults → n ≤ begun.states.faults → Rose m end.triggers.faults ⊎ Rose n end.states.faults
node_disk_rose p jobs jobs' begun end m n worked opened states_opened went states_went earlier states_earlier =
    rose (closed_at_end p end _ worked.ends) where
      rose : (end.triggers.is_open ≡ false) ⊎ (end.states.is_open ≡ false) → Rose m end.triggers.faults ⊎ Rose n end.states.faults
      rose (inl closed) = inl (rose_from _ _ _ earlier (went.closes opened closed))
      rose (inr closed) = inr (rose_from _ _ _ states_earlier (states_went.closes states_opened closed))

pub told_disk_rose : (p : Plan) (s s' : Status) (jobs jobs' : List JobMeaning) (begun end : ClusterState) (m n : ℕ) → IsToldAs s' s → s' ≡ status.DiskFault → Worked p s jobs jobs' begun end → begun.triggers.is_open ≡ true → begun.states.is_open ≡ true
    → Went begun.triggers end.triggers → Went begun.states end.states → m ≤ begun.triggers.faults → n ≤ begun.states.faults → Rose m end.triggers.faults ⊎ Rose n end.states.faults
told_disk_rose p s s' jobs jobs' begun end m n (inl same) fault worked = node_disk_rose p jobs jobs' begun end m n (subst (λ (x : Status). Worked p x jobs jobs' begun end) (sym same ∙ fault) worked)
told_disk_rose p s s' jobs jobs' begun end m n (inr (inl same)) fault worked = let bad : status.WriteFault ≡ status.DiskFault = sym same ∙ fault in absurd cc
told_disk_rose p s s' jobs jobs' begun end m n (inr (inr same)) fault worked = let bad : status.NoMemory ≡ status.DiskFault = sym same ∙ fault in absurd cc

-- no nodes' work ends with bad words
pub told_no_words : (p : Plan) (s s' : Status) (fault : WordFault) (jobs jobs' : List JobMeaning) (begun end : ClusterState) → IsToldAs s' s → s' ≡ status.BadWords fault → Worked p s jobs jobs' begun end → ⊥
told_no_words p s s' fault jobs jobs' begun end (inl same) is worked =
    subst (λ (x : Status). EndsWork p x end (seen_after begun end worked.added worked.rows)) (sym same ∙ is) worked.ends
told_no_words p s s' fault jobs jobs' begun end (inr (inl same)) is worked = let bad : status.WriteFault ≡ status.BadWords fault = sym same ∙ is in cc
told_no_words p s s' fault jobs jobs' begun end (inr (inr same)) is worked = let bad : status.NoMemory ≡ status.BadWords fault = sym same ∙ is in cc

-- what was written of the nodes' work, by the status that tells of both
pub told_text : (s : Status) (begun end : ClusterState) (k : History) (es added : List EntryData) (old new : Outside) → k ≡ begun.triggers.history → es ≡ added
    → WritesRun s (text_since k (replay end.triggers.history) es) old new → WritesRun s (run_text begun end added) old new
told_text s begun end k es added old new from all written =
    subst (λ (xs : List EntryData). WritesRun s (text_since begun.triggers.history (replay end.triggers.history) xs) old new) all
    (subst (λ (h : History). WritesRun s (text_since h (replay end.triggers.history) es) old new) from written)

-- What a crash on the way leaves.
module _ {D : Type 0} {g : Ghosts D} where
  kept_so : (triggers states : D) (b t : TriggerStore D g) (c u : StateStore D g) (triggers' states' : D) → triggers' ≡ disk_of t → states' ≡ states_disk_of u
      → (g.honest → OnlyReads (g.state triggers) (disk_state b) × OnlyReads (g.state states) (states_disk_state c)) → (g.honest → (w : Whole) → IsWhole w (g.state triggers).content → GoesOnFrom b w) → (g.honest → (v : WholeRows) → IsWholeRows v (g.state states).content → RowsGoOnFrom c v)
      → KeepsTriggers b t → KeepsStates c u → IsKeptOnTheWay g triggers states triggers' states' (both b c) (both t u)
  kept_so triggers states b t c u triggers' states' same states_same reads on rows_on kept states_kept w v held = (
    record {
      opened = disk_of b;
      reads = (reads held.honest).0;
      leaves = subst (λ (d : D). LeavesOnly (disk_state b) (g.state d) (HasOnTheWay w (triggers_view b) (triggers_view t))) (sym same) (kept held.honest w (on held.honest w held.entries)).1;
    },
    record {
      opened = states_disk_of c;
      reads = (reads held.honest).1;
      leaves = subst (λ (d : D). LeavesOnly (states_disk_state c) (g.state d) (HasRowsOnTheWay v (states_view c) (states_view u))) (sym states_same) (states_kept held.honest v (rows_on held.honest v held.rows)).1;
    },
  )

  pub kept_on_the_way : (triggers states : D) (b t : TriggerStore D g) (c u : StateStore D g) (triggers' states' : D) → triggers' ≡ disk_of t → states' ≡ states_disk_of u
      → (g.honest → OnlyReads (g.state triggers) (disk_state b) × OnlyReads (g.state states) (states_disk_state c)) → (g.honest → (w : Whole) → IsWhole w (g.state triggers).content → GoesOnFrom b w) → (g.honest → (v : WholeRows) → IsWholeRows v (g.state states).content → RowsGoOnFrom c v)
      → ∥ KeepsTriggers b t ∥₁ → ∥ KeepsStates c u ∥₁ → ∥ IsKeptOnTheWay g triggers states triggers' states' (both b c) (both t u) ∥₁
  kept_on_the_way triggers states b t c u triggers' states' same states_same reads on rows_on kept states_kept =
      ∥∥₁_elim kept squash₁ (λ k. ∥∥₁_map states_kept (λ l. kept_so triggers states b t c u triggers' states' same states_same reads on rows_on k l))

  -- and it goes on from the whole lists of its beginning
  pub goes_on_still : (b t : TriggerStore D g) (w : Whole) → GoesOnFrom b w → g.honest → ∥ KeepsTriggers b t ∥₁ → GoesOnFrom t w
  goes_on_still b t w on honest kept = ∥∥₁_elim kept (goes_on_once trigger_lawful t.store w) (λ k. (k honest w on).0)

  rows_go_on_still : (c u : StateStore D g) (v : WholeRows) → RowsGoOnFrom c v → g.honest → ∥ KeepsStates c u ∥₁ → RowsGoOnFrom u v
  rows_go_on_still c u v on honest kept = ∥∥₁_elim kept (goes_on_once state_lawful u.store v) (λ k. (k honest v on).0)

  -- what a crash leaves at the end
  pub left_at_end : (triggers states : D) (b t : TriggerStore D g) (c u : StateStore D g) → (g.honest → (w : Whole) → IsWhole w (g.state triggers).content → GoesOnFrom b w)
      → (g.honest → (v : WholeRows) → IsWholeRows v (g.state states).content → RowsGoOnFrom c v) → ∥ KeepsTriggers b t ∥₁ → ∥ KeepsStates c u ∥₁ → (w : Whole) (v : WholeRows) → HoldWhole g triggers states w v
      → (b' : List ℕ) → ((disk_state t).IsImage b' → HasTriggers w b' (both t u)) × ((states_disk_state u).IsImage b' → HasStates v b' (both t u))
  left_at_end triggers states b t c u on rows_on kept states_kept w v held b' = (
    λ is. now trigger_lawful t.store held.honest w (goes_on_still b t w (on held.honest w held.entries) held.honest kept) b' is,
    λ is. now state_lawful u.store held.honest v (rows_go_on_still c u v (rows_on held.honest v held.rows) held.honest states_kept) b' is,
  )
