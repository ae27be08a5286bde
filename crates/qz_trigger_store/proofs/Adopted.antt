-- An entry that is submitted, or adopted, after calls that changed nothing.
use Rattle.std.proofs.Common.{◌≡◌, ℕ, List}
use Rattle.std.specs.Prelude.{Ok, Err, None, IfErr}
use Rattle.std.specs.declared.result.Result.{Result}
use Rattle.qz_codec.specs.Layout.{record_of}
use Rattle.qz_disk.specs.declared.disk.Disk.{Ghosts}
use Rattle.qz_types.specs.Entries.{EntryData}
use Rattle.qz_types.specs.declared.errors.SubmitError.{SubmitError}
use Rattle.qz_types.specs.declared.errors.SubmitError.TheVariants as submit
use Rattle.qz_types.specs.declared.replies.Reply.{Reply}
use Rattle.qz_model.specs.Upgrading.{version_refusal}
use Rattle.qz_stores.specs.Stores.{Submits}
use Rattle.qz_stores.proofs.Adopted.{submits_ok, submits_fault, adopts_as_before}
use Rattle.qz_trigger_store.specs.Entries.{trigger_entry, adopted_entry}
use Rattle.qz_trigger_store.specs.Laws.{trigger_lawful}
use Rattle.qz_trigger_store.specs.View.{view, tables_of, IsAsBefore}
use Rattle.qz_trigger_store.specs.declared.stores.TriggerStore.{TriggerStore}

module _ {D : Type 0} {g : Ghosts D} (s m t : TriggerStore D g) (e : EntryData) (b : List ℕ) where
  pub as_submitted : (r : Result Reply SubmitError) → IsAsBefore s m → version_refusal (tables_of s) e.command ≡ None → b ≡ record_of e → IfErr r (λ x. x ≡ submit.Fault) → Submits (adopted_entry b) e r (view m) (view t)
      → Submits trigger_entry e r (view s) (view t)
  as_submitted (Ok reply) same none is fault done = submits_ok trigger_lawful s.store m.store t.store e b same.0 none is reply done
  as_submitted (Err x) same none is fault done = submits_fault trigger_lawful s.store m.store t.store e b same.0 none is x fault done

  pub as_adopted : (r : Result Reply SubmitError) → IsAsBefore s m → Submits (adopted_entry b) e r (view m) (view t) → Submits (adopted_entry b) e r (view s) (view t)
  as_adopted r same done = adopts_as_before trigger_lawful s.store m.store t.store e b same.0 r done
