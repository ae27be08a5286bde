-- What a restart leaves of the images, and what is said of results that aren't looked into.
use Rattle.std.proofs.Common.{ℕ, List}
use Rattle.std.specs.Prelude.{◌≡◌, Ok, Err, IfOk, OnOk, IfErr}
use Rattle.std.specs.declared.result.Result.{Result}
use Rattle.qz_disk.specs.Disk.{DiskState, IsLawful, LeavesOnly}
use Rattle.qz_journal.specs.Through.{OnlyReads, OnlyReadsUnless}
use Rattle.qz_journal.specs.declared.errors.MountError.{MountError}
use Rattle.qz_journal.specs.declared.errors.MountError.TheVariants as mount
use Rattle.qz_journal.proofs.Undecided.{was_image}

pub ok_both : {X F : Type 0} (r : Result X F) (P Q U : X → Type 0) → IfOk r P → IfOk r Q → ((x : X) → P x → Q x → U x) → IfOk r U
ok_both (Ok x) P Q U p q both = both x p q
ok_both (Err e) P Q U p q both = tt

pub err_one : {X F : Type 0} (r : Result X F) (P U : F → Type 0) → IfErr r P → ((e : F) → P e → U e) → IfErr r U
err_one (Ok x) P U p one = tt
err_one (Err e) P U p one = one e p

-- each moment of a reading of a journal left an image that was one before
pub read_moments : {X : Type 0} (r : Result X MountError) (s t : DiskState) → OnOk r (OnlyReads s t) → IfErr r (λ e. OnlyReadsUnless (e ≡ mount.Fault) s t) → LeavesOnly s t s.IsImage
read_moments (Ok x) s t ok err = ok.any_moment
read_moments (Err e) s t ok err = err.any_moment

pub image_before : {X : Type 0} (r : Result X MountError) (s t : DiskState) → IsLawful t → OnOk r (OnlyReads s t) → IfErr r (λ e. OnlyReadsUnless (e ≡ mount.Fault) s t) → (b : List ℕ) → t.IsImage b → s.IsImage b
image_before r s t lawful ok err b is = was_image s t lawful (read_moments r s t ok err) b is
