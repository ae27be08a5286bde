use Rattle.std.proofs.Common.{◌≡◌, sym, ap, ◌∙◌, subst}
use Rattle.qz_board.specs.Pages.{book_of, IsTrue}
use Rattle.qz_board.proofs.Keeping.{turns, stays}
use Rattle.qz_board.proofs.board.steps.begin.Goals as goal

pub publish_as-writer-requires : goal.publish_as-writer-requires
publish_as-writer-requires g c next is =
    let made = c.in_ok-writer.ensures in
    let now = c.in_ok-writer.writer.desk.shown.value in
    let shown : now ≡ c.args.sheet.now = made.0 ∙ c.again.ensures in
    let same : next ≡ now = stays now next _ made.1 is in
    turns g.K.Subject.glance_of _ _ now next (subst (IsTrue g.K.Subject.glance_of) (sym (same ∙ shown)) c.requires) (ap book_of same)
