-- What it is that no stores were opened for the work of nodes.
use Rattle.std.proofs.Common.{◌≡◌, ◌≢◌, inl, inr, List, refl, sym, ◌∙◌}
use Rattle.std.specs.Prelude.{Result, Ok, Err, IfErr}
use Rattle.qz_disk.specs.declared.disk.Disk.{Ghosts}
use Rattle.qz_io.specs.Outside.{Outside}
use Rattle.qz_node.specs.Jobs.{JobMeaning}
use Rattle.qz_run.specs.declared.commands.Plan.{Plan}
use Rattle.qz_top.specs.Calls.{FoundOld}
use Rattle.qz_top.specs.NodeRuns.{RanNodes}
use Rattle.qz_top.specs.OpenStores.{HasNoStores}
use Rattle.qz_top.specs.declared.ended.Ended.{Ended}
use Rattle.qz_top.specs.declared.statuses.Status.TheVariants as status

module _ {D : Type 0} {g : Ghosts D} where
  -- the nodes of a run did nothing then, and no job was called
  pub runs_none : (p : Plan) (jobs : List JobMeaning) (triggers states : D) (e : Ended D g) (o : Outside) → HasNoStores triggers states e o o → RanNodes p jobs jobs triggers states e o o
  runs_none p jobs triggers states e o (inl not_opened) = inr (not_opened, refl)
  runs_none p jobs triggers states e o (inr old) = inl (inr (old, refl))

  -- an old store is one with which there is none to work on
  pub old_is_none : {A : Type 0} (triggers states : D) (r : Result A (Ended D g)) → IfErr r (λ e. (o : Outside) → FoundOld triggers states e o o) → IfErr r (λ e. (o : Outside) → HasNoStores triggers states e o o)
  old_is_none triggers states (Ok stores) found = tt
  old_is_none triggers states (Err e) found = λ o. inr (found o)

  -- and none with which the input or the output failed, or a disk
  pub old_is_other : {A : Type 0} (r : Result A (Ended D g)) → IfErr r (λ e. e.status ≡ status.OldStore) → IfErr r (λ e. (e.status ≢ status.ReadFault) × (e.status ≢ status.WriteFault))
  old_is_other (Ok stores) old = tt
  old_is_other (Err e) old = (λ read. let both : status.OldStore ≡ status.ReadFault = sym old ∙ read in absurd (cc), λ write. let both : status.OldStore ≡ status.WriteFault = sym old ∙ write in absurd (cc))

  pub old_is_no_fault : {A : Type 0} (P : Ended D g → Type 0) (r : Result A (Ended D g)) → IfErr r (λ e. e.status ≡ status.OldStore) → IfErr r (λ e. e.status ≡ status.DiskFault → P e)
  old_is_no_fault P (Ok stores) old = tt
  old_is_no_fault P (Err e) old = λ fault. let both : status.OldStore ≡ status.DiskFault = sym old ∙ fault in absurd (cc)
