-- What submitting an entry leaves of a store is sound, where the store was.
use Rattle.std.specs.Prelude.{⊤, Result}
use Rattle.qz_types.specs.Entries.{StateEntryData}
use Rattle.qz_types.specs.declared.errors.SubmitError.{SubmitError}
use Rattle.qz_stores.specs.Stores.{Same, Shuts, Submits}
use Rattle.qz_stores.specs.Bases.{Opens}
use Rattle.qz_stores.specs.Kinds.{StaysValid}
use Rattle.qz_stores.proofs.Sound as store
use Rattle.qz_checkin.specs.Entries.{StatesState, of_states}
use Rattle.qz_checkin.specs.Kinds.{state_kind}
use Rattle.qz_checkin.specs.Laws.{stays_valid, state_lawful}
use Rattle.qz_checkin.specs.Opening.{IsSound, IsOpened}

stays : StaysValid state_kind
stays T e proper valid = stays_valid T e valid

pub same_sound : (s t : StatesState) → Same s t → IsSound s → IsSound t
same_sound = store.same_sound state_kind

-- a restart that began
pub shut_sound : (s t : StatesState) → Shuts s t → IsSound s → IsSound t
shut_sound = store.shut_sound state_kind

-- and one that ended
pub opened_sound : (s t : StatesState) → Opens state_kind ⊥ s t → IsOpened t → IsSound t
opened_sound s t opens opened = opened.sound

pub submitted_sound : (e : StateEntryData) (x : Result ⊤ SubmitError) (s t : StatesState) → Submits of_states e x s t → IsSound s → IsSound t
submitted_sound e x s t is sound = store.submitted_sound state_kind state_lawful stays e x s t tt is sound
