-- What a checkpoint of a trigger store comes to.
use Rattle.std.proofs.Common.{◌≡◌, ◌⊎◌, inl, inr, ◌+◌, ◌++◌, Bool, true, false, length, refl, arith}
use Rattle.std.specs.Prelude.{◌≢◌, Result, Ok, Err}
use Rattle.qz_disk.specs.declared.disk.Disk.{Ghosts}
use Rattle.qz_journal.specs.Commits.{LackRoom}
use Rattle.qz_snapshot.specs.Checkpoints.{snapshot_written}
use Rattle.qz_types.specs.declared.errors.SubmitError.{SubmitError}
use Rattle.qz_types.specs.declared.errors.SubmitError.TheVariants as submit
use Rattle.qz_stores.specs.Checkpoints.{Marks, Breaks, Checks}
use Rattle.qz_trigger_store.specs.Entries.{TriggerState}
use Rattle.qz_trigger_store.specs.View.{view, behind_of, tables_of, base_count_of, found_of, added_of, IsAsBefore}
use Rattle.qz_trigger_store.specs.declared.stores.TriggerStore.{TriggerStore}
use Rattle.qz_top.specs.Resting.{Rests, HasFewBehind}
use Rattle.qz_top.specs.declared.checkpoints.Unchecked.{Unchecked}
use Rattle.qz_top.specs.declared.checkpoints.Unchecked.TheVariants.{Fault, NoMemory}
use Rattle.qz_top.proofs.SameStores.{same_view, few_left}

module _ {D : Type 0} {g : Ghosts D} (s t : TriggerStore D g) where
  -- whatever isn't a snapshot or a fault changes nothing
  abbrev Unchanged : Result Bool SubmitError → Type 0
  Unchanged answer = answer ≢ Ok true → answer ≢ Err submit.Fault → IsAsBefore s t

  abbrev Lacks : Type 0
  Lacks = LackRoom (snapshot_written (tables_of s) (view s).payloads (base_count_of s + length (found_of s ++ added_of s))) (view s).gate (view s).payloads

  none_made : Unchanged (Ok false) → IsAsBefore s t
  none_made unchanged = unchanged (λ bad. cc) (λ bad. cc)

  pub checked_rests : (made : Bool) → Checks (Ok made) (view s) (view t) → Unchanged (Ok made) → (view t ≡ view s) ⊎ Marks (view s) (view t)
  checked_rests true marks unchanged = inr marks
  checked_rests false declines unchanged = inl (same_view s t (none_made unchanged))

  -- few entries came after the snapshot that was made, or it has no room
  pub checked_few : (made : Bool) → Unchanged (Ok made) → (◌≡◌ {A = Result Bool SubmitError} (Ok made) (Ok false) → Lacks) → (◌≡◌ {A = Result Bool SubmitError} (Ok made) (Ok true) → behind_of t ≡ 0) → HasFewBehind t
  checked_few true unchanged no_room behind = let none = behind refl in inl (omega (arith, none))
  checked_few false unchanged no_room behind = few_left s t (none_made unchanged) (no_room refl)

  pub starved_rests : Unchanged (Err submit.NoMemory) → view t ≡ view s
  starved_rests unchanged = same_view s t (unchanged (λ bad. cc) (λ bad. cc))

-- a call that passes over why there is no snapshot
pub rests_anyhow : (r : Result (Unit {0}) Unchecked) (s t : TriggerState) → Rests r s t → ((t ≡ s) ⊎ Marks s t) ⊎ Breaks s t
rests_anyhow (Ok done) s t rests = inl rests
rests_anyhow (Err Fault) s t rests = inr rests
rests_anyhow (Err NoMemory) s t rests = inl (inl rests)
