-- Both stores can be sent to threads where their disk can: by their fields, since the check doesn't find it by itself.
use denote.RattleType.{RattleType}
use denote.Param.Send.{IsSend, sendable, view_send}
use denote.Param.SendFields.{declared_send}
use Rattle.std.proofs.Crossing.{crosses}
use Rattle.qz_disk.specs.declared.disk.Disk.{Ghosts as Disk}
use Rattle.qz_types.proofs.commands.Entry.TheSendSync as entries
use Rattle.qz_types.proofs.states.StateEntry.TheSendSync as state_entries
use Rattle.qz_types.specs.contracts.commands.Entry as Entry
use Rattle.qz_types.specs.contracts.states.StateEntry as StateEntry
use Rattle.qz_journal.proofs.journal.Journal.TheSendSync as journals
use Rattle.qz_stores.specs.declared.kinds.Kind.{Ghosts as Kind}
use Rattle.qz_stores.specs.contracts.stores.Store as Store
use Rattle.qz_plain.specs.contracts.stores.PlainStore as PlainStore
use Rattle.qz_plain.specs.contracts.stores.PlainStore.TheInside as InsidePlain
use Rattle.qz_trigger_store.proofs.accepted.Accepted.TheSendSync as accepted
use Rattle.qz_trigger_store.specs.contracts.triggers.Triggers as Triggers
use Rattle.qz_trigger_store.specs.contracts.stores.TriggerStore as TriggerStore
use Rattle.qz_checkin.proofs.rows.States.TheSendSync as states
use Rattle.qz_checkin.specs.contracts.rows.States as States
use Rattle.qz_checkin.specs.contracts.stores.StateStore as StateStore
use Rattle.qz_shared_stores.specs.contracts.triggers.SharedTriggers as SharedTriggers
use Rattle.qz_shared_stores.specs.contracts.states.SharedStates as SharedStates
use Rattle.qz_shared_stores.proofs.TablesSend.{tables_send}

-- the tables, as the trigger store keeps them
plain_send : IsSend PlainStore.the_row
plain_send = view_send _ _ _ _ _ (declared_send InsidePlain.the_type (search (sendable, tables_send), tt))

kept_send : IsSend Triggers.the_row
kept_send = declared_send Triggers.the_type (search (sendable, plain_send), tt)

module _ (D : RattleType) (g : Disk D.Denot) (disk : IsSend D) where
  -- a store of any kind
  store_send : (K E R C : RattleType) (k : Kind K.Denot E.Denot R.Denot C.Denot) → IsSend K → IsSend E → IsSend (Store.the_row D K E R C g k)
  store_send K E R C k kept entry = declared_send (Store.the_type D K E R C g k) (search (sendable, crosses, journals.the_send) depth 20)

  trigger_store_send : IsSend (TriggerStore.the_row D g)
  trigger_store_send =
      declared_send (TriggerStore.the_type D g) (search (sendable, crosses) depth 20, (store_send Triggers.the_row Entry.the_row _ _ _ kept_send entries.the_send, search (sendable, accepted.the_send) depth 20))

  state_store_send : IsSend (StateStore.the_row D g)
  state_store_send = declared_send (StateStore.the_type D g) (store_send States.the_row StateEntry.the_row _ _ _ states.the_send state_entries.the_send, tt)

  pub triggers_send : IsSend (SharedTriggers.the_row D g)
  triggers_send = declared_send (SharedTriggers.the_type D g) (trigger_store_send, tt)

  pub states_send : IsSend (SharedStates.the_row D g)
  states_send = declared_send (SharedStates.the_type D g) (state_store_send, tt)
