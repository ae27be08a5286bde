use denote.Param.Send.{sendable}
use Rattle.qz_shared_stores.proofs.Sending.{triggers_send, states_send}
use Rattle.qz_shared_stores.proofs.crossing.stores_cross_threads.Goals as goal

pub crosses_threads-requires-send-S : goal.crosses_threads-requires-send-S
crosses_threads-requires-send-S g c κs within = search (sendable, triggers_send)

pub crosses_threads-requires-2-send-S : goal.crosses_threads-requires-2-send-S
crosses_threads-requires-2-send-S g c κs within = search (sendable, states_send)
