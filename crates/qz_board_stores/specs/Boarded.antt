-- How a store with a board went on since it was put under its row.
use Rattle.std.proofs.Common.{◌≡◌, refl}
use Rattle.qz_disk.specs.declared.disk.Disk.{Ghosts}
use Rattle.qz_disk.specs.Disk.{IsLawful}
use Rattle.qz_board.specs.Boards.{writer_board}
use Rattle.qz_shared_stores.specs.Going.{TriggersWentOn}
use Rattle.qz_shared_stores.specs.Laws.{triggers_begun}
use Rattle.qz_board_stores.specs.declared.boarded.Boarded.{Boarded}

module _ {D R : Type 0} {g : Ghosts D} where
  -- Its store went on, and its board is the same.
  pub record BoardedWent (begun now : Boarded D R g) : Type 0 where
    pub store : TriggersWentOn begun.store.store now.store.store
    pub board : writer_board now.writer ≡ writer_board begun.writer

  -- a store that did nothing yet has kept all
  pub boarded_begun : ((disk : D) → g.honest → IsLawful (g.state disk)) → (s : Boarded D R g) → BoardedWent s s
  boarded_begun lawful s = record { store = triggers_begun lawful s.store.store; board = refl }
