-- A call in which nothing failed did what its words ask for.
use Rattle.std.proofs.Common.{◌≡◌, ◌⊎◌, inl, inr, ⊎_elim, ◌≤◌, ℕ, ℤ, List, [], ◌∷◌, ◌++◌, length, Option, Some, None, Bool, true, false, refl, sym, ap, ◌∙◌, subst, arith, length-append}
use Rattle.std.specs.Prelude.{⊤, Result, Ok, Err, IsOk}
use Rattle.std.specs.List.{AllByRecursion}
use Rattle.qz_civil.specs.Causes.{Rose}
use Rattle.qz_disk.specs.declared.disk.Disk.{Ghosts}
use Rattle.qz_document.specs.Document.{document_meaning}
use Rattle.qz_document.specs.declared.documents.Document.{Document}
use Rattle.qz_io.specs.Lines.{lines_of}
use Rattle.qz_io.specs.Outside.{Outside, only_output, no_clock}
use Rattle.qz_io.specs.declared.limits.TheConstants.{LINE_COUNT_LIMIT}
use Rattle.qz_job_json.specs.declared.asked.Asked.{Asked}
use Rattle.qz_job_json.specs.declared.faults.LineFault.{LineFault}
use Rattle.qz_job_json.specs.declared.lines.Given.{Given}
use Rattle.qz_journal.specs.declared.errors.MountError.{MountError}
use Rattle.qz_journal.specs.declared.errors.MountError.TheVariants as mount
use Rattle.qz_journal.specs.declared.layout.TheConstants.{TRIGGERS, STATES}
use Rattle.qz_journal.specs.Layout.{IsStore}
use Rattle.qz_journal.proofs.Headers.{header_store, one_kind}
use Rattle.qz_node.specs.Jobs.{JobMeaning}
use Rattle.qz_run.specs.declared.commands.Plan.{Plan}
use Rattle.qz_run.specs.Stores.{RunState as WorkState}
use Rattle.qz_steps.specs.declared.steps.StepReply.{StepReply}
use Rattle.qz_times.specs.Said.{line_meaning}
use Rattle.qz_times.specs.Known.{Known}
use Rattle.qz_times.specs.Runs.{Ends}
use Rattle.qz_times.specs.declared.ends.TimesEnd.{TimesEnd}
use Rattle.qz_times.specs.declared.ends.TimesEnd.TheVariants as times
use Rattle.qz_times.specs.declared.queries.Query.{Query}
use Rattle.qz_trigger_store.specs.Bytes.{Whole}
use Rattle.qz_trigger_store.specs.Entries.{TriggerState}
use Rattle.qz_types.specs.declared.commands.Command.{Command}
use Rattle.qz_types.specs.declared.stores.Store.{Store}
use Rattle.qz_types.specs.declared.stores.Store.TheVariants as store
use Rattle.qz_checkin.specs.Bytes.{Whole as WholeRows}
use Rattle.qz_cluster.specs.Steps.{ClusterState, IsCutShort}
use Rattle.qz_cluster.specs.Script.{TimedStep}
use Rattle.qz_cluster.specs.declared.errors.StepEnd.{StepEnd}
use Rattle.qz_cluster.specs.declared.errors.StepEnd.TheVariants as stop
use Rattle.qz_words.specs.declared.wishes.WordFault.{WordFault}
use Rattle.qz_words.specs.declared.wishes.Wish.{Wish}
use Rattle.qz_words.specs.declared.wishes.Wish.TheVariants as wish
use Rattle.qz_top.specs.Asked.{RanScript, RanLoad, RanList, DidAsAsked}
use Rattle.qz_top.specs.Calls.{OwnDone, RanOnDisk, NotOpened, refusal_of, trail_of}
use Rattle.qz_top.specs.Causes.{FaultCounts, DiskFailed, HasCause}
use Rattle.qz_top.specs.Completing.{NoneRose, HasStores, IsDone, IsDoneOrFull, IsDoneByNodes, IsDoneByGenerator, HasRightInput, EndsUnfailed, IsComplete}
use Rattle.qz_top.specs.Found.{IsTold, HoldWhole}
use Rattle.qz_top.specs.Generating.{first_step, StepEnded, FillEnded, FilledPart, Generated, Generates, WorkedAndSummed}
use Rattle.qz_top.specs.LineOutcomes.{StepDone}
use Rattle.qz_top.specs.Lines.{first_bad}
use Rattle.qz_top.specs.Lists.{WritesText}
use Rattle.qz_top.specs.Loads.{HadNone, DidDocument, Loads}
use Rattle.qz_top.specs.Making.{IsInit, AreMade, IsMade, IsLeft}
use Rattle.qz_top.specs.Migrating.{Upgrades, RanMigrate}
use Rattle.qz_top.specs.NodeRuns.{EndsWork, IsToldAs, Worked, RanNodesOnDisk, RanNodes, seen_after}
use Rattle.qz_top.specs.Resting.{RestsNodes}
use Rattle.qz_top.specs.Runs.{EndsShort, IsRun}
use Rattle.qz_top.specs.Statuses.{cut_status, status_at, Finishes}
use Rattle.qz_top.specs.Times.{status_of, TimesDone}
use Rattle.qz_top.specs.Trails.{RunState}
use Rattle.qz_top.specs.declared.ended.Ended.{Ended}
use Rattle.qz_top.specs.declared.gen_on_disk.Workload.{Workload}
use Rattle.qz_top.specs.declared.line_handler.LineEnd.{LineEnd}
use Rattle.qz_top.specs.declared.line_handler.LineEnd.TheVariants as ends
use Rattle.qz_top.specs.declared.statuses.Status.{Status}
use Rattle.qz_top.specs.declared.statuses.Status.TheVariants as status
use Rattle.qz_standby.specs.declared.forms.Form.TheVariants as form
use Rattle.qz_top.proofs.FollowingLaws.{follow_done}

-- No status tells of a fault then.

no_disk : (w : Result Wish WordFault) (o n : FaultCounts) → NoneRose o n → DiskFailed w o n → ⊥
no_disk (Ok wish.Script) o n none failed = ⊎_elim none.triggers none.states failed
no_disk (Ok wish.Load) o n none failed = ⊎_elim none.triggers none.states failed
no_disk (Ok wish.List) o n none failed = ⊎_elim none.triggers none.states failed
no_disk (Ok (wish.Run nodes from until budget)) o n none failed = ⊎_elim none.triggers none.states failed
no_disk (Ok (wish.Gen seed jobs days)) o n none failed = ⊎_elim none.triggers none.states failed
no_disk (Ok wish.Init) o n none failed = ⊎_elim none.triggers none.states failed
no_disk (Ok wish.Follow) o n none failed = ⊎_elim none.triggers none.states failed
no_disk (Ok wish.Compact) o n none failed = ⊎_elim none.triggers none.states failed
no_disk (Ok wish.Migrate) o n none failed = none.triggers failed
no_disk (Ok wish.Own) o n none failed = absurd failed
no_disk (Ok (wish.Times after count)) o n none failed = absurd failed
no_disk (Err fault) o n none failed = absurd failed

-- none of the three faults
record NoFault (s : Status) : Type 0 where
  pub read : s ≡ status.ReadFault → ⊥
  pub write : s ≡ status.WriteFault → ⊥
  pub disk : s ≡ status.DiskFault → ⊥

no_fault : (s : Status) (w : Result Wish WordFault) (o n : FaultCounts) → HasCause s w o n → NoneRose o n → NoFault s
no_fault s w o n cause none = record {
  read = λ is. none.input (subst (λ (x : Status). HasCause x w o n) is cause);
  write = λ is. none.output (subst (λ (x : Status). HasCause x w o n) is cause);
  disk = λ is. no_disk w o n none (subst (λ (x : Status). HasCause x w o n) is cause);
}

-- Scripts.

some_bad : {A : Type 0} (x : Option Status) (s : Status) → x ≡ Some s → x ≡ None → A
some_bad x s is none = let bad : ◌≡◌ {A = Option Status} (Some s) None = sym is ∙ none in absurd cc

short_lost : {A : Type 0} (told : Type 0) (st : Store) (left : Option (List ℕ)) (lines : List (List ℕ)) (more : List ℤ) (last after : RunState) → EndsShort told (stop.NotAStore st) left lines more last after → told → A
short_lost told st left lines more last after short is = absurd (short.cut.cut.case.dishonest is)

short_damaged : {A : Type 0} (told : Type 0) (st : Store) (at : ℕ) (left : Option (List ℕ)) (lines : List (List ℕ)) (more : List ℤ) (last after : RunState) → EndsShort told (stop.Damaged st at) left lines more last after → told → A
short_damaged told st at left lines more last after short is = absurd (short.cut.cut.case.dishonest is)

script_done : (told : Type 0) (s : Status) (before after : RunState) (old new : Outside) (lines : List (List ℕ)) (readings : List ℤ) (replies : List StepReply) → IsRun told s before after old new lines readings replies → told → NoFault s
    → (bytes : List ℕ) → old.left ≡ Some bytes → first_bad (lines_of bytes) ≡ None → IsDoneOrFull s
script_done told status.Ok before after old new lines readings replies run is none bytes left good = tt
script_done told (status.JournalFull need room) before after old new lines readings replies run is none bytes left good = tt
script_done told status.NoMemory before after old new lines readings replies run is none bytes left good = tt
script_done told (status.BadWords fault) before after old new lines readings replies run is none bytes left good = absurd run.called
script_done told (status.BadLine line kind) before after old new lines readings replies run is none bytes left good = some_bad _ _ (run.reads bytes left).bad good
script_done told status.ReadFault before after old new lines readings replies run is none bytes left good = absurd (none.read refl)
script_done told status.WriteFault before after old new lines readings replies run is none bytes left good = absurd (none.write refl)
script_done told status.DiskFault before after old new lines readings replies run is none bytes left good = absurd (none.disk refl)
script_done told (status.NotAStore st) before after old new lines readings replies run is none bytes left good = short_lost told st _ _ _ _ _ run.end is
script_done told (status.Damaged st at) before after old new lines readings replies run is none bytes left good = short_damaged told st at _ _ _ _ _ run.end is
script_done told status.Exists before after old new lines readings replies run is none bytes left good = absurd run.called
script_done told (status.Budget firings) before after old new lines readings replies run is none bytes left good = absurd run.called
script_done told (status.TooMany count) before after old new lines readings replies run is none bytes left good = absurd run.called
script_done told status.Fenced before after old new lines readings replies run is none bytes left good = absurd run.called
script_done told status.OldStore before after old new lines readings replies run is none bytes left good = absurd run.called
script_done told (status.BadStream at) before after old new lines readings replies run is none bytes left good = absurd run.called

own_done : (s : Status) (trail : List ClusterState) (old new : Outside) → OwnDone s trail old new → NoFault s → (bytes : List ℕ) → old.left ≡ Some bytes → first_bad (lines_of bytes) ≡ None → IsDoneOrFull s
own_done s trail old new (inl ran) none bytes left good = script_done ⊤ s _ _ old new _ _ _ ran.run tt none bytes left good
own_done s trail old new (inr starved) none bytes left good = subst IsDoneOrFull (sym starved.0) tt

-- A store that wasn't opened.

refused_done : (s : Status) (st : Store) (error : MountError) → s ≡ refusal_of st error → NoFault s → (error ≡ mount.Fault) ⊎ (error ≡ mount.NoMemory) → IsDone s
refused_done s st error is none (inl fault) = absurd (none.disk (is ∙ ap (refusal_of st) fault))
refused_done s st error is none (inr starved) = subst IsDone (sym (is ∙ ap (refusal_of st) starved)) tt

done_or_full : (s : Status) → IsDone s → IsDoneOrFull s
done_or_full status.Ok is = tt
done_or_full status.NoMemory is = tt
done_or_full (status.JournalFull need room) is = tt
done_or_full (status.BadWords fault) is = absurd is
done_or_full (status.BadLine line kind) is = absurd is
done_or_full status.ReadFault is = absurd is
done_or_full status.WriteFault is = absurd is
done_or_full status.DiskFault is = absurd is
done_or_full (status.NotAStore st) is = absurd is
done_or_full (status.Damaged st at) is = absurd is
done_or_full status.Exists is = absurd is
done_or_full (status.Budget firings) is = absurd is
done_or_full (status.TooMany count) is = absurd is
done_or_full status.Fenced is = absurd is
done_or_full status.OldStore is = absurd is
done_or_full (status.BadStream at) is = absurd is

full_by_nodes : (s : Status) → IsDoneOrFull s → IsDoneByNodes s
full_by_nodes status.Ok is = tt
full_by_nodes status.NoMemory is = tt
full_by_nodes (status.JournalFull need room) is = tt
full_by_nodes (status.Budget firings) is = tt
full_by_nodes (status.TooMany count) is = tt
full_by_nodes status.Fenced is = absurd is
full_by_nodes status.OldStore is = tt
full_by_nodes (status.BadStream at) is = absurd is
full_by_nodes (status.BadWords fault) is = absurd is
full_by_nodes (status.BadLine line kind) is = absurd is
full_by_nodes status.ReadFault is = absurd is
full_by_nodes status.WriteFault is = absurd is
full_by_nodes status.DiskFault is = absurd is
full_by_nodes (status.NotAStore st) is = absurd is
full_by_nodes (status.Damaged st at) is = absurd is
full_by_nodes status.Exists is = absurd is

nodes_by_generator : (s : Status) → IsDoneByNodes s → IsDoneByGenerator s
nodes_by_generator status.Ok is = tt
nodes_by_generator status.NoMemory is = tt
nodes_by_generator (status.JournalFull need room) is = tt
nodes_by_generator (status.Budget firings) is = tt
nodes_by_generator (status.TooMany count) is = tt
nodes_by_generator status.Fenced is = absurd is
nodes_by_generator status.OldStore is = tt
nodes_by_generator (status.BadStream at) is = absurd is
nodes_by_generator status.Exists is = tt
nodes_by_generator (status.BadWords fault) is = absurd is
nodes_by_generator (status.BadLine line kind) is = absurd is
nodes_by_generator status.ReadFault is = absurd is
nodes_by_generator status.WriteFault is = absurd is
nodes_by_generator status.DiskFault is = absurd is
nodes_by_generator (status.NotAStore st) is = absurd is
nodes_by_generator (status.Damaged st at) is = absurd is

-- A step that was cut short.

cut_done : (told : Type 0) (t : TimedStep) (end : StepEnd) (S S' : ClusterState) → IsCutShort told t end S S' → told → IsDoneOrFull (cut_status end)
cut_done told t (stop.JournalFull need room) S S' cut is = tt
cut_done told t stop.NoMemory S S' cut is = tt
cut_done told t (stop.NotAStore st) S S' cut is = absurd (cut.case.dishonest is)
cut_done told t (stop.Damaged st at) S S' cut is = absurd (cut.case.dishonest is)

-- Documents.

ended_done : (told : Type 0) (end : LineEnd) (given : Given) (before after : RunState) (old new : Outside) → StepDone told (Err end) given before after old new → told → (status_at 0 end ≡ status.WriteFault → ⊥) → IsDoneOrFull (status_at 0 end)
ended_done told (ends.Bad kind) given before after old new ended is write = absurd ended
ended_done told ends.WriteFault given before after old new ended is write = absurd (write refl)
ended_done told ends.Unanswered given before after old new ended is write = tt
ended_done told ends.NoMemory given before after old new ended is write = tt
ended_done told (ends.CutShort end) given before after old new ended is write = cut_done told _ end before.cluster after.cluster ended.cut.cut is

finished_done : (s : Status) (closed : Bool) (old new : Outside) (faults faults_now : ℕ) → Finishes s closed old new faults faults_now → NoFault s → IsDoneOrFull s
finished_done status.Ok closed old new faults faults_now finishes none = tt
finished_done status.NoMemory closed old new faults faults_now finishes none = tt
finished_done (status.JournalFull need room) closed old new faults faults_now finishes none = tt
finished_done status.WriteFault closed old new faults faults_now finishes none = absurd (none.write refl)
finished_done status.DiskFault closed old new faults faults_now finishes none = absurd (none.disk refl)
finished_done status.ReadFault closed old new faults faults_now finishes none = absurd (none.read refl)
finished_done (status.BadWords fault) closed old new faults faults_now finishes none = absurd finishes
finished_done (status.BadLine line kind) closed old new faults faults_now finishes none = absurd finishes
finished_done (status.NotAStore st) closed old new faults faults_now finishes none = absurd finishes
finished_done (status.Damaged st at) closed old new faults faults_now finishes none = absurd finishes
finished_done status.Exists closed old new faults faults_now finishes none = absurd finishes
finished_done (status.Budget firings) closed old new faults faults_now finishes none = absurd finishes
finished_done (status.TooMany count) closed old new faults faults_now finishes none = absurd finishes
finished_done status.Fenced closed old new faults faults_now finishes none = absurd finishes
finished_done status.OldStore closed old new faults faults_now finishes none = absurd finishes
finished_done (status.BadStream at) closed old new faults faults_now finishes none = absurd finishes

two_meanings : {A : Type 0} (x : Result Document LineFault) (document : Document) (fault : LineFault) → x ≡ Ok document → x ≡ Err fault → A
two_meanings x document fault ok err = let bad : ◌≡◌ {A = Result Document LineFault} (Ok document) (Err fault) = sym ok ∙ err in absurd cc

none_done : (s : Status) (before after : RunState) (old new : Outside) → HadNone s before after old new → NoFault s → (bytes : List ℕ) → old.left ≡ Some bytes → (document : Document) → document_meaning bytes ≡ Ok document → IsDoneOrFull s
none_done (status.BadLine line kind) before after old new had none bytes left document good = let reason = had.cause.1 bytes left in two_meanings _ document reason.fault good reason.meaning
none_done status.ReadFault before after old new had none bytes left document good = absurd (none.read refl)
none_done status.NoMemory before after old new had none bytes left document good = tt
none_done status.Ok before after old new had none bytes left document good = tt
none_done (status.JournalFull need room) before after old new had none bytes left document good = tt
none_done status.WriteFault before after old new had none bytes left document good = absurd had.cause
none_done status.DiskFault before after old new had none bytes left document good = absurd had.cause
none_done (status.BadWords fault) before after old new had none bytes left document good = absurd had.cause
none_done (status.NotAStore st) before after old new had none bytes left document good = absurd had.cause
none_done (status.Damaged st at) before after old new had none bytes left document good = absurd had.cause
none_done status.Exists before after old new had none bytes left document good = absurd had.cause
none_done (status.Budget firings) before after old new had none bytes left document good = absurd had.cause
none_done (status.TooMany count) before after old new had none bytes left document good = absurd had.cause
none_done status.Fenced before after old new had none bytes left document good = absurd had.cause
none_done status.OldStore before after old new had none bytes left document good = absurd had.cause
none_done (status.BadStream at) before after old new had none bytes left document good = absurd had.cause

document_done : (told : Type 0) (s : Status) (document : Document) (before after : RunState) (old new : Outside) → DidDocument told s document before after old new → told → NoFault s → IsDoneOrFull s
document_done told s document before after old new (inl all) is none = finished_done s _ (only_output all.then) (only_output new) all.faults all.faults_now all.finishes none
document_done told s document before after old new (inr first) is none =
    subst IsDoneOrFull (sym first.status_is) (ended_done told first.end _ first.did.between after first.did.then first.then first.did.ended is (λ wrote. none.write (first.status_is ∙ wrote)))

load_done : (told : Type 0) (s : Status) (before after : RunState) (old new : Outside) → Loads told s before after old new → told → NoFault s → (bytes : List ℕ) → old.left ≡ Some bytes → (document : Document) → document_meaning bytes ≡ Ok document → IsDoneOrFull s
load_done told s before after old new (inl had) is none bytes left document good = none_done s before after old new had none bytes left document good
load_done told s before after old new (inr loaded) is none bytes left document good = document_done told s loaded.document before after _ _ loaded.did is none

-- Lists and upgrades.

listed_done : (s : Status) (text : List ℕ) (old new : Outside) → WritesText s text old new → NoFault s → IsDone s
listed_done status.Ok text old new wrote none = tt
listed_done status.NoMemory text old new wrote none = tt
listed_done status.WriteFault text old new wrote none = absurd (none.write refl)
listed_done status.DiskFault text old new wrote none = absurd (none.disk refl)
listed_done status.ReadFault text old new wrote none = absurd (none.read refl)
listed_done (status.JournalFull need room) text old new wrote none = absurd wrote
listed_done (status.BadWords fault) text old new wrote none = absurd wrote
listed_done (status.BadLine line kind) text old new wrote none = absurd wrote
listed_done (status.NotAStore st) text old new wrote none = absurd wrote
listed_done (status.Damaged st at) text old new wrote none = absurd wrote
listed_done status.Exists text old new wrote none = absurd wrote
listed_done (status.Budget firings) text old new wrote none = absurd wrote
listed_done (status.TooMany count) text old new wrote none = absurd wrote
listed_done status.Fenced text old new wrote none = absurd wrote
listed_done status.OldStore text old new wrote none = absurd wrote
listed_done (status.BadStream at) text old new wrote none = absurd wrote

upgraded_done : (s : Status) (at : ℤ) (opened end : TriggerState) (old new : Outside) → Upgrades s at opened end old new → NoFault s → IsDoneOrFull s
upgraded_done status.Ok at opened end old new upgrades none = tt
upgraded_done status.NoMemory at opened end old new upgrades none = tt
upgraded_done (status.JournalFull need room) at opened end old new upgrades none = tt
upgraded_done status.WriteFault at opened end old new upgrades none = absurd (none.write refl)
upgraded_done status.DiskFault at opened end old new upgrades none = absurd (none.disk refl)
upgraded_done status.ReadFault at opened end old new upgrades none = absurd (none.read refl)
upgraded_done (status.BadWords fault) at opened end old new upgrades none = absurd upgrades
upgraded_done (status.BadLine line kind) at opened end old new upgrades none = absurd upgrades
upgraded_done (status.NotAStore st) at opened end old new upgrades none = absurd upgrades
upgraded_done (status.Damaged st place) at opened end old new upgrades none = absurd upgrades
upgraded_done status.Exists at opened end old new upgrades none = absurd upgrades
upgraded_done (status.Budget firings) at opened end old new upgrades none = absurd upgrades
upgraded_done (status.TooMany count) at opened end old new upgrades none = absurd upgrades
upgraded_done status.Fenced at opened end old new upgrades none = absurd upgrades
upgraded_done status.OldStore at opened end old new upgrades none = absurd upgrades
upgraded_done (status.BadStream place) at opened end old new upgrades none = absurd upgrades

-- Fire times.

middle : (P : List ℕ → Type 0) (xs : List (List ℕ)) (x : List ℕ) (rest all : List (List ℕ)) → all ≡ (xs ++ x ∷ []) ++ rest → AllByRecursion P all → P x
middle P xs x rest all is each = at xs (subst (AllByRecursion P) is each) where
  at : (ys : List (List ℕ)) → AllByRecursion P ((ys ++ x ∷ []) ++ rest) → P x
  at [] each = each.0
  at (y ∷ ys) each = at ys each.1

not_good : {A : Type 0} (x : Result (Option Asked) LineFault) (fault : LineFault) → x ≡ Err fault → IsOk x → A
not_good x fault is ok = let bad : IsOk {T = Option Asked} {E = LineFault} (Err fault) = subst IsOk is ok in absurd cc

too_many : {A : Type 0} (lines rest all : List (List ℕ)) (line : List ℕ) → all ≡ (lines ++ line ∷ []) ++ rest → length lines ≡ LINE_COUNT_LIMIT → length all ≤ LINE_COUNT_LIMIT → A
too_many lines rest all line is full few =
    absurd (omega (arith, full, few, ap (λ (l : List (List ℕ)). length l) is, length-append (lines ++ line ∷ []) rest, length-append lines (line ∷ [])))

times_done : (s : Status) (q : Query) (old new : Outside) (end : TimesEnd) (lines : List (List ℕ)) (text : List ℕ) (known : Known) → s ≡ status_of end → Ends end q known old new lines text → NoFault s
    → (bytes : List ℕ) → old.left ≡ Some bytes → AllByRecursion (λ line. IsOk (line_meaning line)) (lines_of bytes) → length (lines_of bytes) ≤ LINE_COUNT_LIMIT → IsDone s
times_done s q old new times.Done lines text known is ended none bytes left good few = subst IsDone (sym is) tt
times_done s q old new times.NoMemory lines text known is ended none bytes left good few = subst IsDone (sym is) tt
times_done s q old new times.ReadFault lines text known is ended none bytes left good few = absurd (none.read is)
times_done s q old new times.WriteFault lines text known is ended none bytes left good few = absurd (none.write is)
times_done s q old new (times.Bad number fault) lines text known is ended none bytes left good few =
    let bad = ended.bad bytes left in
    not_good (line_meaning bad.line) fault bad.bad (middle (λ line. IsOk (line_meaning line)) lines bad.line bad.next.rest (lines_of bytes) bad.next.all good)
times_done s q old new times.TooManyLines lines text known is ended none bytes left good few =
    let next = ended.more bytes left in
    too_many lines next.next.rest (lines_of bytes) next.line next.next.all ended.full few

-- Nodes' work.

-- how it is told
abbrev IsOfWork : Status → Type 0
IsOfWork status.Ok = ⊤
IsOfWork (status.Budget firings) = ⊤
IsOfWork (status.TooMany count) = ⊤
IsOfWork (status.JournalFull need room) = ⊤
IsOfWork status.DiskFault = ⊤
IsOfWork status.WriteFault = ⊤
IsOfWork status.NoMemory = ⊤
IsOfWork s = ⊥

ended_told : (p : Plan) (s : Status) (end : ClusterState) (x : WorkState) → EndsWork p s end x → IsOfWork s
ended_told p status.Ok end x ended = tt
ended_told p (status.Budget firings) end x ended = tt
ended_told p (status.TooMany count) end x ended = tt
ended_told p status.Fenced end x ended = absurd ended
ended_told p (status.JournalFull need room) end x ended = tt
ended_told p status.DiskFault end x ended = tt
ended_told p status.NoMemory end x ended = tt
ended_told p status.WriteFault end x ended = absurd ended
ended_told p status.ReadFault end x ended = absurd ended
ended_told p (status.BadWords fault) end x ended = absurd ended
ended_told p (status.BadLine line kind) end x ended = absurd ended
ended_told p (status.NotAStore st) end x ended = absurd ended
ended_told p (status.Damaged st at) end x ended = absurd ended
ended_told p status.Exists end x ended = absurd ended
ended_told p status.OldStore end x ended = absurd ended
ended_told p (status.BadStream at) end x ended = absurd ended

told_so : (told work : Status) → IsToldAs told work → IsOfWork work → IsOfWork told
told_so told work (inl same) is = subst IsOfWork (sym same) is
told_so told work (inr (inl wrote)) is = subst IsOfWork (sym wrote) tt
told_so told work (inr (inr starved)) is = subst IsOfWork (sym starved) tt

rested_done : (told s : Status) (a b : TriggerState) → IsOfWork told → RestsNodes told s a b → NoFault s → IsDoneByNodes s
rested_done status.Ok s a b is (inl ok) none = subst IsDoneByNodes (sym ok.0) tt
rested_done status.Ok s a b is (inr (inl fault)) none = absurd (none.disk fault.0)
rested_done status.Ok s a b is (inr (inr starved)) none = subst IsDoneByNodes (sym starved.0) tt
rested_done (status.Budget firings) s a b is rests none = subst IsDoneByNodes (sym rests.0) tt
rested_done (status.TooMany count) s a b is rests none = subst IsDoneByNodes (sym rests.0) tt
rested_done status.Fenced s a b is rests none = absurd is
rested_done (status.JournalFull need room) s a b is rests none = subst IsDoneByNodes (sym rests.0) tt
rested_done status.NoMemory s a b is rests none = subst IsDoneByNodes (sym rests.0) tt
rested_done status.DiskFault s a b is rests none = absurd (none.disk rests.0)
rested_done status.WriteFault s a b is rests none = absurd (none.write rests.0)
rested_done status.ReadFault s a b is rests none = absurd is
rested_done (status.BadWords fault) s a b is rests none = absurd is
rested_done (status.BadLine line kind) s a b is rests none = absurd is
rested_done (status.NotAStore st) s a b is rests none = absurd is
rested_done (status.Damaged st at) s a b is rests none = absurd is
rested_done status.Exists s a b is rests none = absurd is
rested_done status.OldStore s a b is rests none = absurd is
rested_done (status.BadStream at) s a b is rests none = absurd is

worked_done : (p : Plan) (jobs jobs' : List JobMeaning) (work told s : Status) (begun end : ClusterState) (a b : TriggerState) → Worked p work jobs jobs' begun end → IsToldAs told work → RestsNodes told s a b → NoFault s → IsDoneByNodes s
worked_done p jobs jobs' work told s begun end a b worked as_work rests none = rested_done told s a b (told_so told work as_work (ended_told p work end (seen_after begun end worked.added worked.rows) worked.ends)) rests none

-- What fills a store.

filled_done : (honest : Type 0) (s : Status) (commands : List Command) (before after : ClusterState) → FillEnded honest s commands before after → honest → NoFault s → IsDoneOrFull s
filled_done honest s commands before after (inl none_made) is none = subst IsDoneOrFull (sym none_made.starved) tt
filled_done honest s commands before after (inr part) is none = ended part.ended where
  ended : StepEnded honest s (first_step part.next) part.between after → IsDoneOrFull s
  ended (inl cut) = subst IsDoneOrFull (sym cut.status_is) (cut_done honest _ cut.end part.between after cut.cut is)
  ended (inr met) = absurd (none.disk met.status_is)

generated_done : (honest : Type 0) (x : Workload) (s : Status) (jobs jobs' : List JobMeaning) (opened end : ClusterState) (old new : Outside) → Generated honest x s jobs jobs' opened end old new → honest → NoFault s → IsDoneByGenerator s
generated_done honest x s jobs jobs' opened end old new (inl had) is none = subst IsDoneByGenerator (sym had.exists) tt
generated_done honest x s jobs jobs' opened end old new (inr (inl old_store)) is none = subst IsDoneByGenerator (sym old_store.status_is) tt
generated_done honest x s jobs jobs' opened end old new (inr (inr (inl not_filled))) is none = nodes_by_generator s (full_by_nodes s (filled_done honest s _ opened end not_filled.ended is none))
generated_done honest x s jobs jobs' opened end old new (inr (inr (inr ran))) is none =
    nodes_by_generator s (worked_done _ jobs jobs' ran.ran.work ran.ran.told_as s ran.between ran.ran.worked_to _ _ ran.ran.worked ran.ran.told ran.ran.rests none)

-- New stores: where both are there, none is made.

module _ {D : Type 0} (g : Ghosts D) (honest : g.honest) (t t' u u' : D) (triggers_there : IsStore TRIGGERS (g.state t).content) (states_there : IsStore STATES (g.state u).content) where
  not_made : {A : Type 0} (kind : ℕ) (d d' : D) (made : Bool) → IsStore kind (g.state d).content → IsMade kind made (g.state d) (g.state d') → made ≡ true → A
  not_made kind d d' true there made is = absurd (made.none (inl there))
  not_made kind d d' false there made is = absurd cc

  none_made : {A : Type 0} → AreMade (g.state t) (g.state t') (g.state u) (g.state u') → A
  none_made made = ⊎_elim (not_made TRIGGERS t t' made.triggers_made triggers_there made.triggers) (not_made STATES u u' made.states_made states_there made.states) made.some

  init_done : (s : Status) → IsInit g s t t' u u' → NoFault s → s ≡ status.Exists
  init_done status.Exists made none = refl
  init_done status.Ok made none = none_made (made honest)
  init_done status.WriteFault made none = absurd (none.write refl)
  init_done status.DiskFault made none = absurd (none.disk refl)
  init_done status.ReadFault made none = absurd (none.read refl)
  init_done (status.NotAStore store.Triggers) made none = absurd (one_kind (g.state t).content TRIGGERS triggers_there (made.0 honest).store)
  init_done (status.NotAStore store.States) made none = absurd (one_kind (g.state u).content STATES states_there (made honest).states.store)
  init_done (status.BadWords fault) made none = absurd made
  init_done (status.BadLine line kind) made none = absurd made
  init_done (status.Damaged st at) made none = absurd made
  init_done (status.JournalFull need room) made none = absurd made
  init_done status.NoMemory made none = absurd made
  init_done (status.Budget firings) made none = absurd made
  init_done (status.TooMany count) made none = absurd made
  init_done status.Fenced made none = absurd made
  init_done status.OldStore made none = absurd made
  init_done (status.BadStream at) made none = absurd made

-- All calls.

module _ {D : Type 0} {g : Ghosts D} (triggers states : D) (e : Ended D g) (none : NoFault e.status) where
  not_opened_done : (old new : Outside) → NotOpened triggers states e old new → (list : Whole) (rows : WholeRows) → HoldWhole g triggers states list rows → IsDone e.status
  not_opened_done old new unopened list rows held = refused_done e.status unopened.store unopened.error unopened.status_is none (unopened.why list rows held)

  told_by : (list : Whole) (rows : WholeRows) → HoldWhole g triggers states list rows → IsTold g triggers
  told_by list rows held = (held.honest, ∣ (list, held.entries) ∣₁)

  script_words : (old new : Outside) → RanScript triggers states e old new → (bytes : List ℕ) → old.left ≡ Some bytes → first_bad (lines_of bytes) ≡ None → (list : Whole) (rows : WholeRows) → HoldWhole g triggers states list rows → IsDoneOrFull e.status
  script_words old new (inl ran) bytes left good list rows held = script_done (IsTold g triggers) e.status _ _ old new _ _ _ ran.run (told_by list rows held) none bytes left good
  script_words old new (inr unopened) bytes left good list rows held = done_or_full e.status (not_opened_done old new unopened list rows held)

  load_words : (old new : Outside) → RanLoad triggers states e old new → (bytes : List ℕ) → old.left ≡ Some bytes → (document : Document) → document_meaning bytes ≡ Ok document → (list : Whole) (rows : WholeRows) → HoldWhole g triggers states list rows → IsDoneOrFull e.status
  load_words old new (inl ran) bytes left document good list rows held = load_done (IsTold g triggers) e.status _ _ old new ran.loads (told_by list rows held) none bytes left document good
  load_words old new (inr unopened) bytes left document good list rows held = done_or_full e.status (not_opened_done old new unopened list rows held)

  list_words : (old new : Outside) → RanList triggers states e old new → (list : Whole) (rows : WholeRows) → HoldWhole g triggers states list rows → IsDone e.status
  list_words old new (inl ran) list rows held = listed_done e.status _ old new ran.written none
  list_words old new (inr unopened) list rows held = not_opened_done old new unopened list rows held

  migrate_words : (read read' : Option (List ℤ)) (old new : Outside) → RanMigrate triggers states e read read' old new → (list : Whole) (rows : WholeRows) → HoldWhole g triggers states list rows → IsDoneOrFull e.status
  migrate_words read read' old new (inl ran) list rows held = upgraded_done e.status ran.at ran.opened ran.end old new ran.upgrades none
  migrate_words read read' old new (inr unopened) list rows held = done_or_full e.status (refused_done e.status store.Triggers unopened.error unopened.status_is none (unopened.why held.honest list held.entries))

  run_words : (p : Plan) (jobs jobs' : List JobMeaning) (old new : Outside) → RanNodes p jobs jobs' triggers states e old new → (list : Whole) (rows : WholeRows) → HoldWhole g triggers states list rows → IsDoneByNodes e.status
  run_words p jobs jobs' old new (inl (inl ran)) list rows held = worked_done p jobs jobs' ran.work ran.told_as e.status ran.opened ran.worked_to _ _ ran.worked ran.told ran.rests none
  run_words p jobs jobs' old new (inl (inr found)) list rows held = subst IsDoneByNodes (sym found.0.status_is) tt
  run_words p jobs jobs' old new (inr unopened) list rows held = full_by_nodes e.status (done_or_full e.status (not_opened_done old new unopened.0 list rows held))

  gen_words : (x : Workload) (jobs jobs' : List JobMeaning) (old new : Outside) → Generates x jobs jobs' triggers states e old new → (list : Whole) (rows : WholeRows) → HoldWhole g triggers states list rows → IsDoneByGenerator e.status
  gen_words x jobs jobs' old new (inl ran) list rows held = generated_done g.honest x e.status jobs jobs' ran.opened ran.end old new ran.did held.honest none
  gen_words x jobs jobs' old new (inr unopened) list rows held = nodes_by_generator e.status (full_by_nodes e.status (done_or_full e.status (not_opened_done old new unopened.0 list rows held)))

  ends_by : (w : Result Wish WordFault) (jobs jobs' : List JobMeaning) (old new : Outside) → DidAsAsked w jobs jobs' triggers states e old new → HasRightInput w old.left → HasStores g w triggers states → EndsUnfailed w e.status
  ends_by (Err fault) jobs jobs' old new did input stores = did.refused
  ends_by (Ok wish.Own) jobs jobs' old new did (bytes, left, good) stores = own_done e.status _ old new did.ran none bytes left good
  ends_by (Ok wish.Init) jobs jobs' old new did input (list, rows, held) =
      init_done g held.honest triggers e.triggers states e.states (header_store _ TRIGGERS (list.version, held.entries.store.1.header)) (header_store _ STATES (rows.version, held.rows.store.1.header)) e.status did.made none
  ends_by (Ok wish.Script) jobs jobs' old new did (bytes, left, good) (list, rows, held) = script_words old new did bytes left good list rows held
  ends_by (Ok wish.Load) jobs jobs' old new did (bytes, left, document, good) (list, rows, held) = load_words old new did bytes left document good list rows held
  ends_by (Ok wish.List) jobs jobs' old new did input (list, rows, held) = list_words _ _ did.ran list rows held
  ends_by (Ok wish.Migrate) jobs jobs' old new did input (list, rows, held) = migrate_words _ _ _ _ did.ran list rows held
  ends_by (Ok wish.Follow) jobs jobs' old new did (bytes, left, right, room) (honest, begins) = follow_done form.Entries triggers states e none.read none.write none.disk honest begins _ _ bytes did.ran left right room
  ends_by (Ok wish.Compact) jobs jobs' old new did (bytes, left, right) (honest, begins) = follow_done form.Snapshot triggers states e none.read none.write none.disk honest begins _ _ bytes did.ran left right tt
  ends_by (Ok (wish.Times after count)) jobs jobs' old new did (bytes, left, good, few) stores =
      times_done e.status (record { after = after; count = count }) (no_clock old) (no_clock new) did.told.end did.told.run.lines did.told.run.text did.told.run.known did.told.status_is did.told.run.ends none bytes left good few
  ends_by (Ok (wish.Run nodes from until budget)) jobs jobs' old new did input (list, rows, held) = run_words _ jobs jobs' _ _ did.ran list rows held
  ends_by (Ok (wish.Gen seed jobs_wanted days)) jobs jobs' old new did input (list, rows, held) = gen_words _ jobs jobs' _ _ did.ran list rows held

pub completes : {D : Type 0} {g : Ghosts D} (triggers states : D) (e : Ended D g) (w : Result Wish WordFault) (jobs jobs' : List JobMeaning) (old new : Outside) (o n : FaultCounts)
    → DidAsAsked w jobs jobs' triggers states e old new → HasCause e.status w o n → IsComplete g w e.status o n old.left triggers states
completes triggers states e w jobs jobs' old new o n did cause none input stores = ends_by triggers states e (no_fault e.status w o n cause none) w jobs jobs' old new did input stores
