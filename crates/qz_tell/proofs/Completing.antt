-- Where nothing failed, all was told, unless memory ran out.
use Rattle.std.proofs.Common.{◌≡◌, ◌∙◌, ◌⊎◌, inl, inr, ℕ, List, sym, ap, subst, refl}
use Rattle.std.specs.Prelude.{Option, Result, Ok, Err}
use Rattle.qz_civil.specs.Causes.{Rose}
use Rattle.qz_disk.specs.declared.disk.Disk.{Ghosts}
use Rattle.qz_io.specs.declared.traits.Sink as sink
use Rattle.qz_journal.specs.declared.errors.MountError.{MountError}
use Rattle.qz_journal.specs.declared.errors.MountError.TheVariants as mount
use Rattle.qz_trigger_store.specs.Bytes.{Whole}
use Rattle.qz_checkin.specs.Bytes.{Whole as WholeRows}
use Rattle.qz_words.specs.declared.wishes.WordFault.{WordFault}
use Rattle.qz_top.specs.Completing.{IsDone}
use Rattle.qz_top.specs.Calls.{refusal_of}
use Rattle.qz_top.specs.Found.{HoldWhole}
use Rattle.qz_top.specs.declared.statuses.Status.{Status}
use Rattle.qz_top.specs.declared.statuses.Status.TheVariants as status
use Rattle.qz_tell.specs.Histories.{DidAsAsked, DiskFailed, IsComplete, MayEnd, NotOpened, ToldOnDisk}
use Rattle.qz_tell.specs.declared.calls.Told.{Told}

-- once both stores are open
ended : (honest : Type 0) (s : Status) → honest → MayEnd honest s → (s ≡ status.DiskFault → ⊥) → (s ≡ status.WriteFault → ⊥) → IsDone s
ended honest status.Ok p ends disk write = tt
ended honest status.NoMemory p ends disk write = tt
ended honest status.WriteFault p ends disk write = absurd (write refl)
ended honest status.DiskFault p ends disk write = absurd (disk refl)
ended honest (status.NotAStore store) p ends disk write = absurd (ends p)
ended honest (status.Damaged store at) p ends disk write = absurd (ends p)
ended honest (status.BadWords fault) p ends disk write = absurd ends
ended honest (status.BadLine line fault) p ends disk write = absurd ends
ended honest status.ReadFault p ends disk write = absurd ends
ended honest (status.JournalFull need room) p ends disk write = absurd ends
ended honest (status.Budget firings) p ends disk write = absurd ends
ended honest status.Exists p ends disk write = absurd ends
ended honest (status.TooMany count) p ends disk write = absurd ends
ended honest status.OldStore p ends disk write = absurd ends
ended honest (status.BadStream at) p ends disk write = absurd ends
ended honest status.Fenced p ends disk write = absurd ends

-- and before
unopened : {D : Type 0} (g : Ghosts D) (triggers states : D) (t : Told D) (old new : Option (List ℕ)) → NotOpened g triggers states t old new → (w : Whole) (v : WholeRows) → HoldWhole g triggers states w v
    → (t.status ≡ status.DiskFault → ⊥) → IsDone t.status
unopened g triggers states t old new not w v hold disk = by (not.why w v hold)
  where
    by : (not.error ≡ mount.Fault) ⊎ (not.error ≡ mount.NoMemory) → IsDone t.status
    by (inl fault) = absurd (disk (not.status_is ∙ ap (refusal_of not.store) fault))
    by (inr memory) = subst IsDone (sym (not.status_is ∙ ap (refusal_of not.store) memory)) tt

pub is_complete : {D K : Type 0} (g : Ghosts D) (k : sink.Ghosts K) (r : Result ℕ WordFault) (triggers states : D) (t : Told D) (out_old out_new : K) → DidAsAsked g r triggers states t (k.held out_old) (k.held out_new)
    → (t.status ≡ status.WriteFault → Rose (k.faults out_old) (k.faults out_new)) → (t.status ≡ status.DiskFault → DiskFailed g triggers states t) → IsComplete g k r triggers states t out_old out_new
is_complete g k (Err fault) triggers states t out_old out_new did write disk = tt
is_complete g k (Ok from) triggers states t out_old out_new did write disk = λ w v hold no_disk no_write. by did w v hold no_disk no_write
  where
    by : ToldOnDisk g from triggers states t (k.held out_old) (k.held out_new) ⊎ NotOpened g triggers states t (k.held out_old) (k.held out_new) → (w : Whole) (v : WholeRows) → HoldWhole g triggers states w v
        → (DiskFailed g triggers states t → ⊥) → (Rose (k.faults out_old) (k.faults out_new) → ⊥) → IsDone t.status
    by (inl told) w v hold no_disk no_write = ended g.honest t.status hold.honest told.ends (λ is. no_disk (disk is)) (λ is. no_write (write is))
    by (inr not) w v hold no_disk no_write = unopened g triggers states t (k.held out_old) (k.held out_new) not w v hold (λ is. no_disk (disk is))
