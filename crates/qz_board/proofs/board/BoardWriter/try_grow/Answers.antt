use Rattle.std.proofs.Common.{sym, ◌∙◌, ap}
use Rattle.qz_board.specs.Posts.{post}
use Rattle.qz_board.proofs.Growing.{grow_moves}
use Rattle.qz_board.proofs.board.BoardWriter.try_grow.Goals as goal

pub compare_exchange-found-requires : goal.compare_exchange-found-requires
compare_exchange-found-requires g c =
    let w = c.args.self.now in
    let front = ap (λ s. s.book) c.again-front.ensures ∙ sym w.counts.2 in
    let offer = c.plain-offer.ensures in
    let pen = c.no_pen-pen.ensures in
    let ask = post (g.S.Shown.basis c.args.from.now) (g.S.Shown.history c.args.from.now) in (
      w.counts.0,
      front,
      pen.0 ∙ front,
      offer.0,
      rw (w.counts.1, pen.1, offer.1, offer.3, c.again-front.ensures) (grow_moves w.last.sheet.front.log ask c.args.old c.args.new w.last.begun c.requires.old c.requires.goes_on c.requires.new),
    )
