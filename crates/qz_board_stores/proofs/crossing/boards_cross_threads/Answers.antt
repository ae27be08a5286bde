use denote.Param.Send.{sendable}
use Rattle.qz_board_stores.proofs.Sending.{boarded_send}
use Rattle.qz_board_stores.proofs.crossing.boards_cross_threads.Goals as goal

pub crosses_threads-requires-send-S : goal.crosses_threads-requires-send-S
crosses_threads-requires-send-S g c κs within = search (sendable, boarded_send)
