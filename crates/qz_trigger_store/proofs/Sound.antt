-- What a call leaves of a store is sound, where the store was.
use Rattle.std.specs.Prelude.{Bool, Result, IsTrue}
use Rattle.qz_types.specs.Entries.{EntryData, is_entry}
use Rattle.qz_types.specs.declared.errors.SubmitError.{SubmitError}
use Rattle.qz_types.specs.declared.replies.Reply.{Reply}
use Rattle.qz_model.proofs.Histories.{valid-left}
use Rattle.qz_stores.specs.Kinds.{StaysValid}
use Rattle.qz_stores.specs.Stores.{Same, Submits, Shuts}
use Rattle.qz_stores.specs.Bases.{Opens}
use Rattle.qz_stores.specs.Checkpoints.{Checks}
use Rattle.qz_stores.proofs.Sound as store
use Rattle.qz_trigger_store.specs.Entries.{TriggerState, trigger_entry}
use Rattle.qz_trigger_store.specs.Kinds.{trigger_kind}
use Rattle.qz_trigger_store.specs.Laws.{trigger_lawful}
use Rattle.qz_trigger_store.specs.Opening.{IsSound, IsOpened}

stays_valid : StaysValid trigger_kind
stays_valid T e proper valid = valid-left T e proper valid

pub same_sound : (s t : TriggerState) → Same s t → IsSound s → IsSound t
same_sound = store.same_sound trigger_kind

-- a restart that began
pub shut_sound : (s t : TriggerState) → Shuts s t → IsSound s → IsSound t
shut_sound = store.shut_sound trigger_kind

-- and one that ended
pub opened_sound : (honest : Type 0) (s t : TriggerState) → Opens trigger_kind honest s t → IsOpened t → IsSound t
opened_sound honest s t opens opened = opened.sound

pub submitted_sound : (e : EntryData) (x : Result Reply SubmitError) (s t : TriggerState) → IsTrue (is_entry e) → Submits trigger_entry e x s t → IsSound s → IsSound t
submitted_sound = store.submitted_sound trigger_kind trigger_lawful stays_valid

-- a checkpoint
pub checked_sound : (x : Result Bool SubmitError) (s t : TriggerState) → Checks x s t → IsSound s → IsSound t
checked_sound = store.checked_sound trigger_kind
