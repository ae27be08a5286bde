-- What both openings of a disk leave of it.
use Rattle.std.proofs.Common.{◌≡◌, ◌∙◌, ℕ, ◌≤◌, List, ap, arith}
use Rattle.std.specs.Prelude.{Option, Err}
use Rattle.std.specs.declared.result.Result.{Result}
use Rattle.qz_civil.specs.Causes.{Rose}
use Rattle.qz_disk.specs.Disk.{DiskState, IsLawful}
use Rattle.qz_disk.proofs.Moments.{then_leaves}
use Rattle.qz_journal.specs.Through.{OnlyReads, OnlyReadsUnless}
use Rattle.qz_journal.specs.declared.errors.MountError.{MountError}
use Rattle.qz_journal.specs.declared.errors.MountError.TheVariants as mount
use Rattle.qz_types.specs.declared.stores.Store.TheVariants.{Triggers}
use Rattle.qz_top.specs.Calls.{refusal_of}
use Rattle.qz_top.specs.declared.statuses.Status.{Status}
use Rattle.qz_top.specs.declared.statuses.Status.TheVariants as status
use Rattle.qz_tell.specs.Histories.{OnlyRead}

pub rose_later : (x y z : ℕ) → x ≤ y → Rose y z → Rose x z
rose_later x y z later rose = omega (arith, later, rose)

-- an opening only reads
pub read_alone : (failed : Type 0) (old new : DiskState) → OnlyReads old new → OnlyRead failed old new
read_alone failed old new reads = record { content = λ fine. reads.content; any_moment = reads.any_moment }

pub read_unless : (failed other : Type 0) (old new : DiskState) → (failed → other) → OnlyReadsUnless failed old new → OnlyRead other old new
read_unless failed other old new is reads = record { content = λ fine. reads.content (λ x. fine (is x)); any_moment = reads.any_moment }

-- and so does one that failed, where it is told as a fault of the disk
pub read_failed : (e : MountError) (s : Status) (old new : DiskState) → s ≡ refusal_of Triggers e → OnlyReadsUnless (e ≡ mount.Fault) old new
    → OnlyRead (◌≡◌ {A = Result (Option ℕ) Status} (Err s) (Err status.DiskFault)) old new
read_failed e s old new is reads =
    read_unless (e ≡ mount.Fault) (◌≡◌ {A = Result (Option ℕ) Status} (Err s) (Err status.DiskFault)) old new
    (λ fault. ap Err (is ∙ ap (refusal_of Triggers) fault)) reads

-- and so do two
pub read_twice : (failed : Type 0) (old mid new : DiskState) → IsLawful mid → OnlyReads old mid → OnlyRead failed mid new → OnlyRead failed old new
read_twice failed old mid new lawful first second = record {
  content = λ fine. second.content fine ∙ first.content;
  any_moment = then_leaves old mid new old.IsImage mid.IsImage old.IsImage first.any_moment second.any_moment (λ b is. is) (λ b is. first.any_moment.each b (lawful.counts_now old.clock b first.any_moment.later is));
}
