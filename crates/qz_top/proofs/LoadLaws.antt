-- How a load may end.
use Rattle.std.proofs.Common.{◌≡◌, ◌⊎◌, inl, inr, ◌≤◌, ℕ, ℤ, List, false, sym, ◌∙◌, subst}
use Rattle.qz_civil.specs.Causes.{Rose}
use Rattle.qz_io.specs.Outside.{Outside}
use Rattle.qz_disk.specs.declared.disk.Disk.{Ghosts}
use Rattle.qz_document.specs.declared.documents.Document.{Document}
use Rattle.qz_words.specs.declared.wishes.WordFault.{WordFault}
use Rattle.qz_steps.specs.declared.steps.StepReply.{StepReply}
use Rattle.qz_trigger_store.specs.Opening.{IsOpened}
use Rattle.qz_checkin.specs.Opening.{IsOpened as AreOpened}
use Rattle.qz_cluster.specs.Steps.{ClusterState}
use Rattle.qz_cluster.specs.declared.errors.StepEnd.{StepEnd}
use Rattle.qz_cluster.specs.declared.errors.StepEnd.TheVariants as step
use Rattle.qz_top.specs.Asked.{RanLoad, RanList}
use Rattle.qz_top.specs.Calls.{begun}
use Rattle.qz_top.specs.Found.{IsTold}
use Rattle.qz_top.specs.Lists.{WritesText, lines_of}
use Rattle.qz_top.specs.Loads.{DidDocument, Loads}
use Rattle.qz_top.specs.Runs.{IsRun}
use Rattle.qz_top.specs.Statuses.{cut_status, status_at}
use Rattle.qz_top.specs.Trails.{RunState}
use Rattle.qz_top.specs.declared.ended.Ended.{Ended}
use Rattle.qz_top.specs.declared.line_handler.LineEnd.{LineEnd}
use Rattle.qz_top.specs.declared.line_handler.LineEnd.TheVariants as ends
use Rattle.qz_top.specs.declared.statuses.Status.{Status}
use Rattle.qz_top.specs.declared.statuses.Status.TheVariants as status
use Rattle.qz_top.proofs.AskedLaws.{not_of_opening}
use Rattle.qz_top.proofs.OpenedLaws.{opened_ready, rose_from_first, ran_rose}

-- the same run, where its status has another name
pub run_with : {honest : Type 0} {before after : RunState} {old new : Outside} {lines : List (List ℕ)} {readings : List ℤ} {replies : List StepReply} (s t : Status) → t ≡ s
    → IsRun honest s before after old new lines readings replies → IsRun honest t before after old new lines readings replies
run_with {honest = honest} {before = before} {after = after} {old = old} {new = new} {lines = lines} {readings = readings} {replies = replies} s t same run =
    subst (λ (x : Status). IsRun honest x before after old new lines readings replies) (sym same) run

-- the same load
pub loads_with : {honest : Type 0} {before after : RunState} {old new : Outside} (s t : Status) → t ≡ s → Loads honest s before after old new → Loads honest t before after old new
loads_with {honest = honest} {before = before} {after = after} {old = old} {new = new} s t same loads =
    subst (λ (x : Status). Loads honest x before after old new) (sym same) loads

-- Statuses that no command ends with.

pub cut_no_fault : (end : StepEnd) → status.DiskFault ≡ cut_status end → ⊥
cut_no_fault (step.JournalFull need room) is = cc
cut_no_fault (step.NotAStore store) is = cc
cut_no_fault (step.Damaged store at) is = cc
cut_no_fault step.NoMemory is = cc

pub end_no_fault : (end : LineEnd) → status.DiskFault ≡ status_at 0 end → ⊥
end_no_fault (ends.Bad kind) is = cc
end_no_fault ends.WriteFault is = cc
end_no_fault ends.Unanswered is = cc
end_no_fault ends.NoMemory is = cc
end_no_fault (ends.CutShort end) is = cut_no_fault end is

pub cut_no_words : (fault : WordFault) (end : StepEnd) → status.BadWords fault ≡ cut_status end → ⊥
cut_no_words fault (step.JournalFull need room) is = cc
cut_no_words fault (step.NotAStore store) is = cc
cut_no_words fault (step.Damaged store at) is = cc
cut_no_words fault step.NoMemory is = cc

end_no_words : (fault : WordFault) (end : LineEnd) → status.BadWords fault ≡ status_at 0 end → ⊥
end_no_words fault (ends.Bad kind) is = cc
end_no_words fault ends.WriteFault is = cc
end_no_words fault ends.Unanswered is = cc
end_no_words fault ends.NoMemory is = cc
end_no_words fault (ends.CutShort end) is = cut_no_words fault end is

document_no_words : (honest : Type 0) (fault : WordFault) (document : Document) (before after : RunState) (old new : Outside) → DidDocument honest (status.BadWords fault) document before after old new → ⊥
document_no_words honest fault document before after old new (inl all) = all.finishes
document_no_words honest fault document before after old new (inr first) = end_no_words fault first.end first.status_is

loads_no_words : (honest : Type 0) (fault : WordFault) (before after : RunState) (old new : Outside) → Loads honest (status.BadWords fault) before after old new → ⊥
loads_no_words honest fault before after old new (inl none) = none.cause
loads_no_words honest fault before after old new (inr loaded) = document_no_words honest fault loaded.document before after _ _ loaded.did

pub load_words : {D : Type 0} {g : Ghosts D} (triggers states : D) (e : Ended D g) (old new : Outside) (fault : WordFault) → RanLoad triggers states e old new → e.status ≡ status.BadWords fault → ⊥
load_words {g = g} triggers states e old new fault (inl ran) is = loads_no_words (IsTold g triggers) fault _ _ old new (subst (λ s. Loads (IsTold g triggers) s (begun false ran.opened) ran.end old new) is ran.loads)
load_words triggers states e old new fault (inr none) is = not_of_opening none.store none.error fault (sym none.status_is ∙ is)

pub list_words : {D : Type 0} {g : Ghosts D} (triggers states : D) (e : Ended D g) (old new : Outside) (fault : WordFault) → RanList triggers states e old new → e.status ≡ status.BadWords fault → ⊥
list_words triggers states e old new fault (inl ran) is = subst (λ (s : Status). WritesText s (lines_of ran.opened) old new) is ran.written
list_words triggers states e old new fault (inr none) is = not_of_opening none.store none.error fault (sym none.status_is ∙ is)

-- A load that ends with a disk fault found a store closed in the end, so a disk's count of faults rose.
module _ (honest : Type 0) (S : ClusterState) (after : RunState) (opened : IsOpened S.triggers) (states_opened : AreOpened S.states) (m n : ℕ) (earlier : m ≤ S.triggers.faults) (states_earlier : n ≤ S.states.faults) where
  document_rose : (document : Document) (old new : Outside) → DidDocument honest status.DiskFault document (begun false S) after old new → Rose m after.cluster.triggers.faults ⊎ Rose n after.cluster.states.faults
  document_rose document old new (inl all) =
      rose_from_first m n S after.cluster earlier states_earlier (ran_rose honest S _ all.did.replies all.last after all.did.steps (opened_ready S opened states_opened) all.rests all.finishes.0)
  document_rose document old new (inr first) = absurd (end_no_fault first.end first.status_is)

  pub load_rose : (s : Status) (old new : Outside) → Loads honest s (begun false S) after old new → s ≡ status.DiskFault → Rose m after.cluster.triggers.faults ⊎ Rose n after.cluster.states.faults
  load_rose s old new loads is = fault_rose (subst (λ x. Loads honest x (begun false S) after old new) is loads) where
    fault_rose : Loads honest status.DiskFault (begun false S) after old new → Rose m after.cluster.triggers.faults ⊎ Rose n after.cluster.states.faults
    fault_rose (inl none) = absurd none.cause
    fault_rose (inr loaded) = document_rose loaded.document _ _ loaded.did
