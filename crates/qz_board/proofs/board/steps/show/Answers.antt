use Rattle.std.proofs.Common.{◌≡◌, sym, ap, ◌∙◌, subst}
use Rattle.qz_board.specs.Pages.{book_of, IsTrue}
use Rattle.qz_board.proofs.Keeping.{turns, follows}
use Rattle.qz_board.proofs.board.steps.show.Goals as goal

pub publish_as-writer-requires : goal.publish_as-writer-requires
publish_as-writer-requires g c next is =
    let before = c.args.writer.desk.shown.value in
    let now = c.append.new.self.desk.shown.value in
    let kept : now ≡ before = ap (λ d. d.shown.value) c.in-Ok.ensures.desk in
    let sheet = c.args.next.1 in
    let same : next ≡ sheet = follows now next sheet _ _ c.requires.idle c.in-Ok.ensures.pending is in
    turns g.K.Subject.glance_of _ _ now next (subst (IsTrue g.K.Subject.glance_of) (sym same) c.requires.shows) (ap book_of same ∙ (c.requires.book ∙ sym (ap book_of kept)))
