use Rattle.qz_board.proofs.board.BoardReader.look.Goals as goal

pub turn_to-requires : goal.turn_to-requires
turn_to-requires g c =
    let h = c.replace_with.ensures.1.1 _ c.args.self.now.one_book in
    record { board = rw c.in-Some.is at h }
