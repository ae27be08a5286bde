-- The end of a call: what was added is what the stores tell, and which disk failed.
use Rattle.std.proofs.Common.{◌≡◌, ◌⊎◌, inl, inr, ◌≤◌, ◌++◌, [], List, ℕ, ℤ, true, false, length, drop, refl, sym, ap, ◌∙◌, subst, arith}
use Rattle.std.proofs.Math.Logic.{∥∥₁_elim}
use Rattle.std.proofs.Math.Seq.{drop-append_seam}
use Rattle.std.proofs.lemmas.List.{append-nil}
use Rattle.std.proofs.Props.{props}
use Rattle.std.specs.Prelude.{Option, Some, None, Bool, IfSome}
use Rattle.qz_civil.specs.Causes.{Rose}
use Rattle.qz_disk.specs.declared.disk.Disk.{Ghosts}
use Rattle.qz_io.specs.Outside.{Outside}
use Rattle.qz_types.specs.Entries.{EntryData}
use Rattle.qz_model.specs.History.{History, replay}
use Rattle.qz_node.specs.Jobs.{JobMeaning}
use Rattle.qz_stores.specs.Stores.{StoreState}
use Rattle.qz_trigger_store.specs.Entries.{TriggerState}
use Rattle.qz_trigger_store.specs.View.{view as triggers_view, found_of, added_of, keeps_of, disk_of}
use Rattle.qz_trigger_store.specs.declared.stores.TriggerStore.{TriggerStore}
use Rattle.qz_trigger_store.proofs.Kept.{legal, schedules_kept}
use Rattle.qz_checkin.specs.View.{view as states_view, disk_of as states_disk_of}
use Rattle.qz_checkin.specs.declared.stores.StateStore.{StateStore}
use Rattle.qz_cluster.specs.Steps.{ClusterState}
use Rattle.qz_run.specs.declared.commands.Declined.{Declined}
use Rattle.qz_run.specs.declared.commands.Declined.TheVariants as why
use Rattle.qz_run_stores.specs.Going.{StatesWent}
use Rattle.qz_run_stores.specs.Ways.{KeepsStates, KeepsTriggers}
use Rattle.qz_shared_stores.specs.Going.{TriggersWentOn}
use Rattle.qz_shared_stores.specs.Laws.{histories_once}
use Rattle.qz_words.specs.declared.serves.Serving.{Serving}
use Rattle.qz_top.specs.Found.{found_history}
use Rattle.qz_top.specs.NodeRuns.{both, IsToldAs, run_text, text_since}
use Rattle.qz_top.specs.OpenStores.{JustOpened}
use Rattle.qz_top.specs.Resting.{RestsNodes}
use Rattle.qz_top.specs.declared.statuses.Status.{Status}
use Rattle.qz_top.specs.declared.statuses.Status.TheVariants as status
use Rattle.qz_top.proofs.NodeRunLaws.{goes_on_still, kept_on_the_way, left_at_end, rows_legal}
use Rattle.qz_top.proofs.NodeRestLaws.{MayRest, rested_kept, rests_may}
use Rattle.qz_top.proofs.StandingLaws.{stores_in_order, stores_one_at_a_time}
use Rattle.qz_serve.specs.Courses.{EndsBy, OneIsClosed, TookCourse}
use Rattle.qz_serve.specs.Declining.{AtLimit}
use Rattle.qz_serve.specs.Ending.{EndedCall}
use Rattle.qz_serve.specs.Going.{state_of_both, states_of, triggers_of}
use Rattle.qz_serve.specs.Keeping.{Kept, Proceeds}
use Rattle.qz_serve.specs.Limits.{WasDeclined}
use Rattle.qz_serve.specs.Ours.{main_name, node_names, our_names}
use Rattle.qz_serve.specs.Serves.{DidServe, DiskFailed, GaveUp, IsDecided, ServedOnDisk, status_of}
use Rattle.qz_serve.specs.declared.both_stores.BothStores.{BothStores}
use Rattle.qz_serve.specs.declared.served.Served.{Served}
use Rattle.qz_serve.proofs.Boarding.{wrote_as}
use Rattle.qz_serve.proofs.Coursing.{Added, course_added}

bools_once : (a b : Bool) → IsProp (a ≡ b)
bools_once a b = hlevel props

rose_once : (a b : ℕ) → IsProp (Rose a b)
rose_once a b = hlevel props

order_once : (a b : ℕ) → IsProp (a ≤ b)
order_once a b = hlevel props

module _ {D : Type 0} {g : Ghosts D} where
  -- What was found at the opening is the opened history.
  found_still : (b t : TriggerStore D g) → added_of b ≡ [] → TriggersWentOn b t → found_history t ≡ (triggers_view b).history
  found_still b t none went i = record { base_count = went.base.0 i; base = went.base.1 i; entries = (went.found ∙ sym (append-nil (found_of b)) ∙ ap (λ xs. found_of b ++ xs) (sym none)) i }

  pub history_is : (b t : TriggerStore D g) → added_of b ≡ [] → ∥ TriggersWentOn b t ∥₁ → found_history t ≡ (triggers_view b).history
  history_is b t none went = ∥∥₁_elim went (histories_once _ _) (λ w. found_still b t none w)

  -- What was accepted since is what was added.
  pub added_is : (b t : TriggerStore D g) (added : List EntryData) → found_history t ≡ (triggers_view b).history → (triggers_view t).history.entries ≡ (triggers_view b).history.entries ++ added → added_of t ≡ added
  added_is b t added same entries =
      let found : List EntryData = (triggers_view b).history.entries in
      let found_is : found_of t ≡ found = ap (λ (h : History). h.entries) same in
      sym (drop-append_seam found (added_of t)) ∙ ap (λ xs. drop (length found) (xs ++ added_of t)) (sym found_is) ∙ ap (drop (length found)) entries ∙ drop-append_seam found added

  -- what a crash leaves of the stores, by what they have kept
  triggers_kept : (b t : TriggerStore D g) → ∥ TriggersWentOn b t ∥₁ → ∥ KeepsTriggers b t ∥₁
  triggers_kept b t went = ∥∥₁_elim went squash₁ (λ w. w.kept)

  rows_kept : (b t : StateStore D g) → ∥ StatesWent b t ∥₁ → ∥ KeepsStates b t ∥₁
  rows_kept b t went = ∥∥₁_elim went squash₁ (λ w. w.kept)

  pub keeps_still : (b t : TriggerStore D g) → keeps_of b ≡ true → ∥ TriggersWentOn b t ∥₁ → keeps_of t ≡ true
  keeps_still b t keeps went = ∥∥₁_elim went (bools_once _ _) (λ w. w.keeps ∙ keeps)

text_is : (begun end : ClusterState) (k : History) (es added : List EntryData) → k ≡ begun.triggers.history → es ≡ added → text_since k (replay end.triggers.history) es ≡ run_text begun end added
text_is begun end k es added from all = ap (λ (h : History). text_since h (replay end.triggers.history) es) from ∙ ap (λ (xs : List EntryData). text_since begun.triggers.history (replay end.triggers.history) xs) all

rose_after : (a b c : ℕ) → a ≤ b → Rose b c → Rose a c
rose_after a b c earlier rose = omega (arith, earlier, rose)

-- Of which entries it isn't known whether the disk has them.

is_decided : {H E : Type 0} (n : ℕ) (s : StoreState H E) → (s.is_open ≡ true → s.undecided ≡ None) → (s.is_open ≡ false → Rose n s.faults) → IsDecided n s
is_decided n s settled rose = by s.is_open refl where
  by : (b : Bool) → s.is_open ≡ b → IsDecided n s
  by true is = inl (settled is)
  by false is = inr (rose is)

-- a checkpoint leaves none
rested_decided : (n : ℕ) (s t : TriggerState) → (s.is_open ≡ true → s.undecided ≡ None) → (s.is_open ≡ false → Rose n s.faults) → MayRest s t → IsDecided n t
rested_decided n s t settled rose (inl same) = subst (λ (x : TriggerState). IsDecided n x) (sym same) (is_decided n s settled rose)
rested_decided n s t settled rose (inr (inl marks)) = inl (marks.undecided ∙ settled marks.was_open)
rested_decided n s t settled rose (inr (inr breaks)) = inl breaks.undecided

module _ {D : Type 0} {g : Ghosts D} (first second : D) (b t : BothStores D g) (opened : JustOpened first second (triggers_of b) (states_of b)) (kept : Kept b t) where
  triggers_rose : (triggers_view (triggers_of t)).is_open ≡ false → Rose (g.faults first) (triggers_view (triggers_of t)).faults
  triggers_rose closed = rose_after _ _ _ opened.no_earlier.0 (∥∥₁_elim kept.triggers (rose_once _ _) (λ w. w.went.closes opened.are_opened.0.is_open closed))

  states_rose : (states_view (states_of t)).is_open ≡ false → Rose (g.faults second) (states_view (states_of t)).faults
  states_rose closed = rose_after _ _ _ opened.no_earlier.1 (∥∥₁_elim kept.states (rose_once _ _) (λ w. w.went.closes opened.are_opened.1.is_open closed))

module _ {D : Type 0} {g : Ghosts D} (shows : ℤ → Type 0) (p : Serving) (jobs jobs' : List (List JobMeaning)) (first second : D) (b t : BothStores D g) (cause : Option Declined) (s : Served D) (old new : Outside) where
  -- The nodes worked on the opened stores, and the call ended.
  pub served_by : JustOpened first second (triggers_of b) (states_of b) → TookCourse shows p.until (node_names p.nodes) main_name cause (state_of_both b) (state_of_both t) jobs jobs'
      → EndsBy shows p.until (our_names p.nodes) cause (state_of_both t) → IfSome cause (AtLimit (WasDeclined shows p.until (our_names p.nodes) (state_of_both b) (state_of_both t))) → Proceeds cause b t → EndedCall p.looks (triggers_view (triggers_of b)).history.entries (status_of cause) t s old new → ServedOnDisk g shows p jobs jobs' first second s old new
  served_by opened took ends declined proceeds ended =
      let more : Added (state_of_both b) (state_of_both t) = course_added shows p.until (node_names p.nodes) main_name cause (state_of_both b) (state_of_both t) jobs jobs' took in
      let same : found_history (triggers_of t) ≡ (triggers_view (triggers_of b)).history = history_is (triggers_of b) (triggers_of t) opened.nothing_added proceeds.kept.triggers in
      let accepted : added_of (triggers_of t) ≡ more.0 = added_is (triggers_of b) (triggers_of t) more.0 same more.2.entries in
      let may : MayRest (triggers_view (triggers_of t)) (triggers_view ended.rested) = rests_may ended.told_as s.status _ _ ended.rests in
      let kept : ∥ KeepsTriggers (triggers_of b) ended.rested ∥₁ = rested_kept (triggers_of b) (triggers_of t) ended.rested may ended.any_moment (triggers_kept (triggers_of b) (triggers_of t) proceeds.kept.triggers) in
      let rows : ∥ KeepsStates (states_of b) (states_of t) ∥₁ = rows_kept (states_of b) (states_of t) proceeds.kept.states in
      record {
        opened = state_of_both b;
        are_opened = opened.are_opened;
        nothing_held = refl;
        found = opened.found;
        no_earlier = opened.no_earlier;
        current = opened.current;
        worked_to = state_of_both t;
        cause = cause;
        took = took;
        ends = ends;
        declined = declined;
        added = more.0;
        rows = more.1;
        went_on = more.2;
        told_as = ended.told_as;
        told = ended.told;
        written = wrote_as p.looks (triggers_view (triggers_of b)).history.entries (triggers_view (triggers_of t)).history ended.told_as _ (run_text (state_of_both b) (state_of_both t) more.0) old new (text_is (state_of_both b) (state_of_both t) (found_history (triggers_of t)) (added_of (triggers_of t)) more.0 same accepted) ended.written;
        end = both ended.rested (states_of t);
        rests = ended.rests;
        states_stay = refl;
        legal = (legal ended.rested, rows_legal (states_of t));
        schedules = schedules_kept ended.rested;
        in_order = stores_in_order ended.rested (states_of t);
        one_at_a_time = stores_one_at_a_time ended.rested (states_of t);
        triggers_end = disk_of ended.rested;
        states_end = states_disk_of (states_of t);
        disks = ended.disks;
        faults = (refl, refl);
        images = left_at_end first second (triggers_of b) ended.rested (states_of b) (states_of t) opened.goes_on opened.rows_go_on kept rows;
        decided = (
          rested_decided (g.faults first) (triggers_view (triggers_of t)) (triggers_view ended.rested) (triggers_of t).store.settled (triggers_rose first second b t opened proceeds.kept) may,
          is_decided (g.faults second) (states_view (states_of t)) (states_of t).store.settled (states_rose first second b t opened proceeds.kept),
        );
        any_moment = kept_on_the_way first second (triggers_of b) ended.rested (states_of b) (states_of t) _ _ refl refl opened.reads opened.goes_on opened.rows_go_on kept rows;
        next = λ is still w v held. ended.next is still held.honest w (goes_on_still (triggers_of b) ended.rested w (opened.goes_on held.honest w held.entries) held.honest kept);
      }

-- A disk failed where the call tells so: in the nodes' work, or in the checkpoint.

fault_told : (told r : Status) (s t : TriggerState) → RestsNodes told r s t → r ≡ status.DiskFault → ((told ≡ status.DiskFault) × (t ≡ s)) ⊎ Rose s.faults t.faults
fault_told status.Ok r s t (inl done) is = let bad : status.Ok ≡ status.DiskFault = sym done.0 ∙ is in absurd cc
fault_told status.Ok r s t (inr (inl failed)) is = inr failed.1.rose
fault_told status.Ok r s t (inr (inr starved)) is = let bad : status.NoMemory ≡ status.DiskFault = sym starved.0 ∙ is in absurd cc
fault_told (status.Budget firings) r s t rests is = let bad : status.Budget firings ≡ status.DiskFault = sym rests.0 ∙ is in absurd cc
fault_told told r s t rests is = inl (sym rests.0 ∙ is, rests.1)

by_fault : (cause : Option Declined) → status_of cause ≡ status.DiskFault → cause ≡ Some why.Fault
by_fault None is = absurd (cc)
by_fault (Some (why.TooMany count)) is = absurd (cc)
by_fault (Some (why.JournalFull need room)) is = absurd (cc)
by_fault (Some why.Fault) is = refl
by_fault (Some why.NoMemory) is = absurd (cc)
by_fault (Some why.Fenced) is = absurd (cc)

told_fault : (told work : Status) → IsToldAs told work → told ≡ status.DiskFault → work ≡ status.DiskFault
told_fault told work (inl same) is = sym same ∙ is
told_fault told work (inr (inl same)) is = let bad : status.WriteFault ≡ status.DiskFault = sym same ∙ is in absurd cc
told_fault told work (inr (inr same)) is = let bad : status.NoMemory ≡ status.DiskFault = sym same ∙ is in absurd cc

module _ {D : Type 0} {g : Ghosts D} (first second : D) (b t : BothStores D g) (cause : Option Declined) (looks : Option ℕ) (begun : List EntryData) (s : Served D) (old new : Outside) where
  later : Kept b t → (triggers_view (triggers_of b)).faults ≤ (triggers_view (triggers_of t)).faults
  later kept = ∥∥₁_elim kept.triggers (order_once _ _) (λ w. w.went.later)

  closed_rose : JustOpened first second (triggers_of b) (states_of b) → Kept b t → OneIsClosed (state_of_both t)
      → Rose (g.faults first) (triggers_view (triggers_of t)).faults ⊎ Rose (g.faults second) (states_view (states_of t)).faults
  closed_rose opened kept (inl closed) = inl (triggers_rose first second b t opened kept closed)
  closed_rose opened kept (inr closed) = inr (states_rose first second b t opened kept closed)

  disk_rose : JustOpened first second (triggers_of b) (states_of b) → Proceeds cause b t → (ended : EndedCall looks begun (status_of cause) t s old new) → s.status ≡ status.DiskFault
      → Rose (g.faults first) (triggers_view ended.rested).faults ⊎ Rose (g.faults second) (states_view (states_of t)).faults
  disk_rose opened proceeds ended is = by (fault_told ended.told_as s.status _ _ ended.rests is) where
    by : ((ended.told_as ≡ status.DiskFault) × (triggers_view ended.rested ≡ triggers_view (triggers_of t))) ⊎ Rose (triggers_view (triggers_of t)).faults (triggers_view ended.rested).faults
        → Rose (g.faults first) (triggers_view ended.rested).faults ⊎ Rose (g.faults second) (states_view (states_of t)).faults
    by (inl so) =
        let fault : cause ≡ Some why.Fault = by_fault cause (told_fault ended.told_as (status_of cause) ended.told so.0) in
        subst (λ (x : TriggerState). Rose (g.faults first) x.faults ⊎ Rose (g.faults second) (states_view (states_of t)).faults) (sym so.1) (closed_rose opened proceeds.kept (proceeds.fault fault))
    by (inr rose) = inl (omega (arith, opened.no_earlier.0, later proceeds.kept, rose))

  pub disk_failed : JustOpened first second (triggers_of b) (states_of b) → Proceeds cause b t → EndedCall looks begun (status_of cause) t s old new → s.status ≡ status.DiskFault → DiskFailed g first second s.disks
  disk_failed opened proceeds ended is = subst (λ (x : Option (D × D)). DiskFailed g first second x) (sym ended.disks) (disk_rose opened proceeds ended is)

-- Work on opened stores is one of the ways in which a call ends.
pub did_serve : {D : Type 0} {g : Ghosts D} (shows : ℤ → Type 0) (p : Serving) (jobs jobs' : List (List JobMeaning)) (triggers states : D) (s : Served D) (old new : Outside)
    → ServedOnDisk g shows p jobs jobs' triggers states s old new ⊎ GaveUp g s old new → DidServe g shows p jobs jobs' triggers states s old new
did_serve shows p jobs jobs' triggers states s old new (inl served) = inl served
did_serve shows p jobs jobs' triggers states s old new (inr gave) = inr (inr gave)

pub ended_as : {D : Type 0} {g : Ghosts D} (looks : Option ℕ) (opened : List EntryData) (work other : Status) (t : BothStores D g) (s : Served D) (old new : Outside) → work ≡ other → EndedCall looks opened work t s old new → EndedCall looks opened other t s old new
ended_as looks opened work other t s old new same ended = subst (λ (x : Status). EndedCall looks opened x t s old new) same ended
