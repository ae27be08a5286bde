use Rattle.std.proofs.Common.{sym, subst}
use Rattle.qz_board.specs.Boards.{seen, reader_basis}
use Rattle.qz_board_looks.specs.Looks.{EndWithAll}
use Rattle.qz_board_looks.proofs.Rising.{kept_all}
use Rattle.qz_board_looks.proofs.looks.Looks.finish.Goals as goal

pub returns-clause-all : goal.returns-clause-all
returns-clause-all g c =
    let s = g.K.Subject in
    let base = g.S.Shown.basis c.args.from.now in
    let whole = g.S.Shown.history c.args.from.now in
    let looks = c.args.self in
    let now = c.look_at_all.new.reader in
    let done = c.in_ok-glance.ensures in
    subst (λ items. ∥ EndWithAll (s.glance_of base) (seen looks.first.value) items whole ∥₁) (sym c.push_reserved.ensures.items)
    (kept_all s.glance_of (seen looks.first.value) (reader_basis looks.reader) base looks.glances.items c.in_ok-glance.glance (seen looks.reader) (seen now) whole c.requires.basis.1 looks.looks done.later done.seen done.glance)
