-- What the commands and the nodes of `gen` come to.
use Rattle.std.proofs.Common.{◌≡◌, inl, inr, ◌≤◌, ℕ, List, [], ◌∷◌, ◌++◌, Bool, true, false, not, ◌||◌, map, length, take, length-append, Result, Ok, Err, Option, refl, sym, ap, ◌∙◌, subst, arith, append_assoc}
use Rattle.std.specs.Prelude.{OnOk, IfErr}
use Rattle.std.proofs.Math.Logic.{∥∥₁_elim, ∥∥₁_map}
use Rattle.std.proofs.Math.Seq.{take-length}
use Rattle.std.proofs.lemmas.List.{append-nil, map-append, take-append-le}
use Rattle.qz_disk.specs.declared.disk.Disk.{Ghosts}
use Rattle.qz_disk.proofs.Moments.{then_leaves}
use Rattle.qz_io.specs.Outside.{Outside}
use Rattle.qz_types.specs.Entries.{EntryData}
use Rattle.qz_types.specs.Tables.{SchedulerTables}
use Rattle.qz_types.specs.declared.commands.Actor.TheVariants as actor
use Rattle.qz_types.specs.declared.commands.Command.{Command}
use Rattle.qz_types.specs.declared.errors.SubmitError.{SubmitError}
use Rattle.qz_types.specs.declared.errors.SubmitError.TheVariants as submit
use Rattle.qz_types.specs.declared.replies.Reply.{Reply}
use Rattle.qz_steps.specs.declared.steps.Step.TheVariants.{Client}
use Rattle.qz_steps.specs.declared.steps.StepReply.{StepReply}
use Rattle.qz_steps.specs.declared.steps.StepReply.TheVariants as reply
use Rattle.qz_words.specs.declared.wishes.WordFault.{WordFault}
use Rattle.qz_generator.specs.Commands.{generated}
use Rattle.qz_generator.specs.declared.limits.TheConstants.{FIRST_MOMENT}
use Rattle.qz_model.specs.History.{History, replay, replay_from, replies_from}
use Rattle.qz_stores.specs.Stores.{Same, Submits}
use Rattle.qz_node.specs.Jobs.{JobMeaning}
use Rattle.qz_trigger_store.specs.Bytes.{Whole, Stands, MayBe}
use Rattle.qz_trigger_store.specs.Entries.{TriggerState, trigger_entry}
use Rattle.qz_trigger_store.specs.View.{view, base_count_of, base_of, found_of, added_of, replies_of, disk_state}
use Rattle.qz_trigger_store.specs.declared.stores.TriggerStore.{TriggerStore}
use Rattle.qz_checkin.specs.Entries.{StatesState}
use Rattle.qz_cluster.specs.Script.{entry_of}
use Rattle.qz_cluster.specs.Steps.{ClusterState, is_closed, is_closed_for, IsStep}
use Rattle.qz_cluster.specs.Steps as cluster
use Rattle.qz_cluster.specs.declared.errors.StepEnd.{StepEnd}
use Rattle.qz_cluster.specs.declared.errors.StepEnd.TheVariants as ends
use Rattle.qz_cluster.proofs.Closings.{fault_rose}
use Rattle.qz_cluster.proofs.Counts.{NoneFalls}
use Rattle.qz_report.specs.Summaries.{summary_of, summary_text}
use Rattle.qz_open.specs.Runs.{StepsDone}
use Rattle.qz_run_stores.specs.Ways.{first_entries, HasOnTheWay, KeepsTriggers}
use Rattle.qz_top.specs.Clients.{IsOfClient}
use Rattle.qz_top.specs.Generating.{first_step, Filled, StepEnded, FilledPart, FillEnded, after_answer, beside, summary_line_of, plan_of, Generated, Generates}
use Rattle.qz_top.specs.NodeRuns.{IsOfNodes, WritesRun}
use Rattle.qz_top.specs.Statuses.{cut_status}
use Rattle.qz_top.specs.declared.ended.Ended.{Ended}
use Rattle.qz_top.specs.declared.gen_on_disk.Workload.{Workload}
use Rattle.qz_top.specs.declared.statuses.Status.{Status}
use Rattle.qz_top.specs.declared.statuses.Status.TheVariants as status
use Rattle.qz_top.proofs.AskedLaws.{not_of_opening}
use Rattle.qz_top.proofs.LoadLaws.{cut_no_fault, cut_no_words}
use Rattle.qz_top.proofs.NodeRestLaws.{rests_words}
use Rattle.qz_top.proofs.NodeRunLaws.{told_no_words}
use Rattle.qz_top.proofs.RunLaws.{OneRose, run_counts, then_rose}
use Rattle.qz_top.proofs.TrailLaws.{last_of-append, StepsDone-append}

-- Commands that are done after others.

Filled-none : (honest : Type 0) (S : ClusterState) → Filled honest [] S S
Filled-none honest S = record { replies = []; states = []; done = tt; last = refl }

Filled-more : (honest : Type 0) (done : List Command) (c : Command) (r : StepReply) (S T U : ClusterState) → Filled honest done S T → IsStep honest (first_step c) r T U → Filled honest (done ++ c ∷ []) S U
Filled-more honest done c r S T U p step = record {
  replies = p.replies ++ r ∷ [];
  states = p.states ++ U ∷ [];
  done = subst (λ ts. StepsDone honest S ts (p.replies ++ r ∷ []) (p.states ++ U ∷ [])) (sym (map-append first_step done (c ∷ [])))
      (StepsDone-append honest S (map first_step done) (first_step c ∷ []) p.replies (r ∷ []) p.states (U ∷ []) p.done (subst (λ (X : ClusterState). IsStep honest (first_step c) r X U) p.last step, tt));
  last = sym (last_of-append S p.states (U ∷ []));
}

-- the first of these commands were done, and these are left
pub record FilledFront (honest : Type 0) (commands left : List Command) (S T : ClusterState) : Type 0 where
  pub done : List Command
  pub all : commands ≡ done ++ left
  pub filled : Filled honest done S T

pub FilledFront-none : (honest : Type 0) (commands left : List Command) (S : ClusterState) → commands ≡ left → FilledFront honest commands left S S
FilledFront-none honest commands left S same = record { done = []; all = same; filled = Filled-none honest S }

-- the next one is done
pub FilledFront-more : (honest : Type 0) (commands left rest : List Command) (c : Command) (S T U : ClusterState) → left ≡ c ∷ rest
    → FilledFront honest commands left S T → (r : StepReply) × IsStep honest (first_step c) r T U → FilledFront honest commands rest S U
FilledFront-more honest commands left rest c S T U next p step = record {
  done = p.done ++ c ∷ [];
  all = p.all ∙ ap (λ l. p.done ++ l) next ∙ sym (append_assoc p.done (c ∷ []) rest);
  filled = Filled-more honest p.done c step.0 S T U p.filled step.1;
}

-- the next one ends it
pub FilledFront-end : (honest : Type 0) (s : Status) (commands left rest : List Command) (c : Command) (S T U : ClusterState) → left ≡ c ∷ rest
    → FilledFront honest commands left S T → StepEnded honest s (first_step c) T U → FilledPart honest s commands S U
FilledFront-end honest s commands left rest c S T U next p ended = record {
  done = p.done;
  next = c;
  left = rest;
  all = p.all ∙ ap (λ l. p.done ++ l) next;
  between = T;
  filled = p.filled;
  ended = ended;
}

-- none is left
pub FilledFront-all : (honest : Type 0) (commands left : List Command) (S T : ClusterState) → left ≡ [] → FilledFront honest commands left S T → Filled honest commands S T
FilledFront-all honest commands left S T none p = subst (λ l. Filled honest l S T) (sym (p.all ∙ ap (λ l. p.done ++ l) none ∙ append-nil p.done)) p.filled

-- A client's step, by what the trigger store made of its entry.

same_states : (u : StatesState) → Same u u
same_states u = record { history = refl; gate = refl; payloads = refl; is_open = refl; undecided = refl; later = omega arith }

closed_isnt_open : {A : Type 0} (b : Bool) → b ≡ true → b ≡ false → A
closed_isnt_open b is isnt = cc

module _ (honest : Type 0) (c : Command) (s t : TriggerState) (valid : IsOfClient c) (opened : s.is_open ≡ true) where
  needs_open : (u : StatesState) → is_closed_for (Client c) (beside u s) ≡ false
  needs_open u = rw opened refl

  submits_at : (u : StatesState) → cluster.Submits (first_step c) (beside u s)
  submits_at u = record { allowed = record { needs_open = needs_open u; is_held = refl; works = refl; acts = refl }; unrefused = refl }

  pub answered_ok : (answer : Result Reply SubmitError) → Submits trigger_entry (entry_of actor.Client c FIRST_MOMENT) answer s t
      → OnOk (after_answer answer) ((u : StatesState) → (r : StepReply) × IsStep honest (first_step c) r (beside u s) (beside u t))
  answered_ok (Ok r) way = λ u. (reply.Ok r, record { valid = valid; case = record { submits = submits_at u; states = same_states u; triggers = way; held = refl }; standing = refl })
  answered_ok (Err (submit.Refused x)) way =
      λ u. (reply.Refused x, record { valid = valid; case = inr (record { submits = submits_at u; which = inr (record { states = same_states u; entry = entry_of actor.Client c FIRST_MOMENT; asked = refl; triggers = way; held_is = refl }) }); standing = refl })
  answered_ok (Err (submit.JournalFull need room)) way = tt
  answered_ok (Err submit.NoMemory) way = tt
  answered_ok (Err (submit.Closed at)) way = tt
  answered_ok (Err submit.Fault) way = tt

  pub answered_open : (answer : Result Reply SubmitError) → Submits trigger_entry (entry_of actor.Client c FIRST_MOMENT) answer s t → OnOk (after_answer answer) (t.is_open ≡ true)
  answered_open (Ok r) way = way.is_open
  answered_open (Err (submit.Refused x)) way = way.same.is_open ∙ opened
  answered_open (Err (submit.JournalFull need room)) way = tt
  answered_open (Err submit.NoMemory) way = tt
  answered_open (Err (submit.Closed at)) way = tt
  answered_open (Err submit.Fault) way = tt

  pub answered_err : (answer : Result Reply SubmitError) → Submits trigger_entry (entry_of actor.Client c FIRST_MOMENT) answer s t
      → IfErr (after_answer answer) (λ x. (u : StatesState) → StepEnded honest x (first_step c) (beside u s) (beside u t))
  answered_err (Ok r) way = tt
  answered_err (Err (submit.Refused x)) way = tt
  answered_err (Err (submit.JournalFull need room)) way =
      λ u. inl (record {
        end = ends.JournalFull need room;
        cut = record { valid = valid; case = record { submits = submits_at u; which = inr (record { states = same_states u; entry = entry_of actor.Client c FIRST_MOMENT; asked = refl; triggers = way; held_is = refl }) } };
        status_is = refl;
      })
  answered_err (Err submit.NoMemory) way =
      λ u. inl (record {
        end = ends.NoMemory;
        cut = record { valid = valid; case = inl (record { submits = submits_at u; which = inr (record { states = same_states u; entry = entry_of actor.Client c FIRST_MOMENT; asked = refl; triggers = way; held_is = refl }) }) };
        status_is = refl;
      })
  answered_err (Err (submit.Closed at)) way = closed_isnt_open s.is_open opened way.0.was_closed
  answered_err (Err submit.Fault) way =
      λ u. inr (record {
        fault = record { valid = valid; case = inl (record { submits = submits_at u; which = inr (record { states = same_states u; entry = entry_of actor.Client c FIRST_MOMENT; asked = refl; triggers = way; held_is = refl }) }); standing = refl };
        status_is = refl;
      })

-- The disks' counts of faults.

filled_counts : (honest : Type 0) (commands : List Command) (S T : ClusterState) → Filled honest commands S T → NoneFalls S T
filled_counts honest commands S T p = subst (NoneFalls S) (sym p.last) (run_counts honest S _ p.replies p.states p.done)

-- a disk failed where that ended the filling
pub fill_rose : (honest : Type 0) (commands : List Command) (S T : ClusterState) → FillEnded honest status.DiskFault commands S T → OneRose S T
fill_rose honest commands S T (inl none) = let is = none.starved in absurd cc
fill_rose honest commands S T (inr part) = then_rose S part.between T (filled_counts honest part.done S part.between part.filled) (ended_rose part.ended) where
  ended_rose : StepEnded honest status.DiskFault (first_step part.next) part.between T → OneRose part.between T
  ended_rose (inl cut) = absurd (cut_no_fault cut.end cut.status_is)
  ended_rose (inr met) = fault_rose honest (first_step part.next) part.between T met.fault.case

-- so did one where it failed afterwards
pub filled_rose : (honest : Type 0) (commands : List Command) (S T U : ClusterState) → Filled honest commands S T → OneRose T U → OneRose S U
filled_rose honest commands S T U filled rose = then_rose S T U (filled_counts honest commands S T filled) rose

-- both stores are open where none is closed
pub both_open : (a b : Bool) → not a || not b ≡ false → (a ≡ true) × (b ≡ true)
both_open true true is = (refl, refl)
both_open true false is = absurd cc
both_open false b is = absurd cc

-- none is closed where both are open
pub none_closed : (a b : Bool) → a ≡ true → b ≡ true → not a || not b ≡ false
none_closed a b is also = rw (is, also) refl

-- The entries of a store whose history was empty at its opening.

pub none_found : {A : Type 0} (xs ys : List A) → length (xs ++ ys) ≡ 0 → xs ≡ []
none_found [] ys none = refl
none_found (x ∷ xs) ys none = absurd (omega (arith, none))

module _ {D : Type 0} {g : Ghosts D} where
  -- what it accepted is its whole history
  sums_up : (t : TriggerStore D g) → found_of t ≡ [] → summary_text (summary_of (added_of t) (replies_of t) (replay (view t).history)) ≡ summary_line_of (view t).history
  sums_up t none =
      let T : SchedulerTables = replay (view t).history in
      let new : SchedulerTables = base_of t in
      let replied : replies_of t ≡ replies_from new (added_of t) = ap (λ (es : List EntryData). replies_from (replay_from new es) (added_of t)) none in
      ap (λ (rs : List Reply). summary_text (summary_of (added_of t) rs T)) replied
      ∙ ap (λ (es : List EntryData). summary_text (summary_of (es ++ added_of t) (replies_from new (es ++ added_of t)) T)) (sym none)

  pub told_whole : (t : TriggerStore D g) (s : Status) (old new : Outside) → found_of t ≡ [] → WritesRun s (summary_text (summary_of (added_of t) (replies_of t) (replay (view t).history))) old new
      → WritesRun s (summary_line_of (view t).history) old new
  told_whole t s old new none written = subst (λ (text : List ℕ). WritesRun s text old new) (sums_up t none) written

-- What a crash on the way leaves.

pub entries_grow : (s t : TriggerState) (e : EntryData) (r : Result Reply SubmitError) → Submits trigger_entry e r s t → length s.history.entries ≤ length t.history.entries
entries_grow s t e (Ok reply) done = let more = ap (λ (h : History). length h.entries) done.history in omega (arith, more, length-append s.history.entries (e ∷ []))
entries_grow s t e (Err (submit.Closed at)) done = let same = ap (λ (h : History). length h.entries) done.0.same.history in omega (arith, same)
entries_grow s t e (Err (submit.Refused refusal)) done = let same = ap (λ (h : History). length h.entries) done.same.history in omega (arith, same)
entries_grow s t e (Err (submit.JournalFull need room)) done = let same = ap (λ (h : History). length h.entries) done.same.history in omega (arith, same)
entries_grow s t e (Err submit.NoMemory) done = let same = ap (λ (h : History). length h.entries) done.same.history in omega (arith, same)
entries_grow s t e (Err submit.Fault) done = let same = ap (λ (h : History). length h.entries) done.history in omega (arith, same)

module _ {D : Type 0} {g : Ghosts D} where
  -- both begin with one base
  abbrev pub HasSameBase : TriggerStore D g → TriggerStore D g → Type 0
  HasSameBase b c = (base_count_of c ≡ base_count_of b) × (base_of c ≡ base_of b)

  -- the first entries of a history are those of the one that it went on from
  first_of_both : (b c : TriggerStore D g) (added : List EntryData) (k : ℕ) → HasSameBase b c → (view c).history.entries ≡ (view b).history.entries ++ added → k ≤ length (view b).history.entries → first_entries k (view c).history ≡ first_entries k (view b).history
  first_of_both b c added k same entries within i =
      record { base_count = same.0 i; base = same.1 i; entries = (ap (take k) entries ∙ take-append-le k (view b).history.entries added within) i }

  whole_of : (b : TriggerStore D g) → first_entries (length (view b).history.entries) (view b).history ≡ (view b).history
  whole_of b i = record (view b).history { entries = take-length (view b).history.entries i }

  -- an open store has no undecided entry
  stands_of : (w : Whole) (b : TriggerStore D g) (bytes : List ℕ) → (view b).is_open ≡ true → MayBe w (view b).history (view b).undecided bytes → Stands w bytes (view b).history
  stands_of w b bytes opened may = subst (λ (u : Option EntryData). MayBe w (view b).history u bytes) (b.store.settled opened) may

  first_way : (w : Whole) (a b c : TriggerStore D g) (added : List EntryData) (bytes : List ℕ) → HasSameBase b c → (view b).is_open ≡ true → length (view a).history.entries ≤ length (view b).history.entries
      → (view c).history.entries ≡ (view b).history.entries ++ added → HasOnTheWay w (view a) (view b) bytes → HasOnTheWay w (view a) (view c) bytes
  first_way w a b c added bytes same opened within entries (inl on) =
      let longer : length (view b).history.entries ≤ length (view c).history.entries = omega (arith, ap length entries, length-append (view b).history.entries added) in
      inl (on.0, on.1, omega (arith, on.2, longer), subst (Stands w bytes) (sym (first_of_both b c added on.0 same entries on.2)) on.3)
  first_way w a b c added bytes same opened within entries (inr may) =
      let longer : length (view b).history.entries ≤ length (view c).history.entries = omega (arith, ap length entries, length-append (view b).history.entries added) in
      let n : ℕ = length (view b).history.entries in
      inl (n, within, longer, subst (Stands w bytes) (sym (first_of_both b c added n same entries (omega arith) ∙ whole_of b)) (stands_of w b bytes opened may))

  second_way : (w : Whole) (a b c : TriggerStore D g) (bytes : List ℕ) → length (view a).history.entries ≤ length (view b).history.entries → HasOnTheWay w (view b) (view c) bytes → HasOnTheWay w (view a) (view c) bytes
  second_way w a b c bytes within (inl on) = inl (on.0, omega (arith, within, on.1), on.2, on.3)
  second_way w a b c bytes within (inr may) = inr may

  -- the nodes' work comes after the commands
  pub kept_on : (a b c : TriggerStore D g) (added : List EntryData) → HasSameBase b c → (view b).is_open ≡ true → length (view a).history.entries ≤ length (view b).history.entries
      → (view c).history.entries ≡ (view b).history.entries ++ added → ∥ KeepsTriggers a b ∥₁ → ∥ KeepsTriggers b c ∥₁ → ∥ KeepsTriggers a c ∥₁
  kept_on a b c added same opened within entries first second =
      ∥∥₁_elim first squash₁ (λ p. ∥∥₁_map second (λ q honest w on.
      let front = p honest w on in
      let back = q honest w front.0 in (
        back.0,
        then_leaves (disk_state a) (disk_state b) (disk_state c) _ _ _ front.1 back.1
            (λ bytes was. first_way w a b c added bytes same opened within entries was) (λ bytes is. second_way w a b c bytes within is),
      )))

-- Statuses that `gen` doesn't end with.

pub of_nodes_reads : (s : Status) → IsOfNodes s → s ≡ status.ReadFault → ⊥
of_nodes_reads s called is = subst IsOfNodes is called

pub of_nodes_writes : (s : Status) → IsOfNodes s → s ≡ status.WriteFault → ⊥
of_nodes_writes s called is = subst IsOfNodes is called

cut_no_ok : (end : StepEnd) → status.Ok ≡ cut_status end → ⊥
cut_no_ok (ends.JournalFull need room) is = cc
cut_no_ok (ends.NotAStore store) is = cc
cut_no_ok (ends.Damaged store at) is = cc
cut_no_ok ends.NoMemory is = cc

pub fill_no_ok : (honest : Type 0) (commands : List Command) (S T : ClusterState) → FillEnded honest status.Ok commands S T → ⊥
fill_no_ok honest commands S T (inl none) = let is = none.starved in cc
fill_no_ok honest commands S T (inr part) = ended part.ended where
  ended : StepEnded honest status.Ok (first_step part.next) part.between T → ⊥
  ended (inl cut) = cut_no_ok cut.end cut.status_is
  ended (inr met) = let is = met.status_is in cc

fill_no_words : (honest : Type 0) (fault : WordFault) (commands : List Command) (S T : ClusterState) → FillEnded honest (status.BadWords fault) commands S T → ⊥
fill_no_words honest fault commands S T (inl none) = let is = none.starved in cc
fill_no_words honest fault commands S T (inr part) = ended part.ended where
  ended : StepEnded honest (status.BadWords fault) (first_step part.next) part.between T → ⊥
  ended (inl cut) = cut_no_words fault cut.end cut.status_is
  ended (inr met) = let is = met.status_is in cc

pub gen_words : {D : Type 0} {g : Ghosts D} (w : Workload) (jobs jobs' : List JobMeaning) (triggers states : D) (e : Ended D g) (old new : Outside) (fault : WordFault)
    → Generates w jobs jobs' triggers states e old new → e.status ≡ status.BadWords fault → ⊥
gen_words {g = g} w jobs jobs' triggers states e old new fault (inl ran) is = did ran.did where
  did : Generated g.honest w e.status jobs jobs' ran.opened ran.end old new → ⊥
  did (inl had) = let exists : status.BadWords fault ≡ status.Exists = sym is ∙ had.exists in cc
  did (inr (inl was)) = let found : status.BadWords fault ≡ status.OldStore = sym is ∙ was.status_is in cc
  did (inr (inr (inl part))) =
      fill_no_words g.honest fault (generated w.seed w.jobs) ran.opened ran.end (subst (λ (s : Status). FillEnded g.honest s (generated w.seed w.jobs) ran.opened ran.end) is part.ended)
  did (inr (inr (inr whole))) =
      let done = whole.ran in
      told_no_words (plan_of w.days) done.work done.told_as fault jobs jobs' whole.between done.worked_to done.told (rests_words fault done.told_as e.status _ _ done.rests is) done.worked
gen_words w jobs jobs' triggers states e old new fault (inr none) is = not_of_opening none.0.store none.0.error fault (sym none.0.status_is ∙ is)
