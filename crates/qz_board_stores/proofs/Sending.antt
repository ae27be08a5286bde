-- A store with a board can be sent to threads where its disk and its handle can: by its fields, since the check doesn't find it by itself.
use denote.RattleType.{RattleType}
use denote.Param.Send.{IsSend, sendable}
use denote.Param.SendFields.{declared_send}
use Rattle.std.proofs.Crossing.{crosses}
use Rattle.qz_disk.specs.declared.disk.Disk.{Ghosts as Disk}
use Rattle.qz_board.proofs.board.BoardWriter.TheSendSync as writers
use Rattle.qz_shared_stores.proofs.Sending.{triggers_send}
use Rattle.qz_board_stores.specs.contracts.boarded.Boarded as Boarded

module _ (D R : RattleType) (g : Disk D.Denot) (disk : IsSend D) (handle : IsSend R) where
  pub boarded_send : IsSend (Boarded.the_row D R g)
  boarded_send = declared_send (Boarded.the_type D R g) (search (sendable, crosses, handle), (triggers_send D g disk, (search (sendable, crosses, writers.the_send) depth 20, tt)))
