use Rattle.std.proofs.Common.{◌≡◌, Some, refl, ap, ◌∙◌, subst}
use Rattle.std.specs.Prelude.{IfSome}
use Rattle.qz_board.specs.Boards.{seen, reader_basis}
use Rattle.qz_board_looks.proofs.Rising.{itself, prefix_trans, whole_by_count}
use Rattle.qz_board_looks.proofs.last.look_until.Goals as goal

pub loop-init : goal.loop-init
loop-init g c = record { told = c.requires.told; later = itself (seen c.args.reader.now); basis = refl; board = refl }

pub loop-preserved : goal.loop-preserved
loop-preserved g c =
    let before = c.loop.invariant in
    let looked = c.look-glance.ensures in
    record {
      told = prefix_trans _ _ _ before.told looked.later;
      later = prefix_trans _ _ _ before.later looked.later;
      basis = looked.kept.0 ∙ before.basis;
      board = looked.kept.1 ∙ before.board;
    }

pub returns-then-glance-all-clause-kept : goal.returns-then-glance-all-clause-kept
returns-then-glance-all-clause-kept g c = (c.look-glance.ensures.kept.0 ∙ c.loop.invariant.basis, c.look-glance.ensures.kept.1 ∙ c.loop.invariant.board)

pub returns-then-glance-all-clause-later : goal.returns-then-glance-all-clause-later
returns-then-glance-all-clause-later g c = prefix_trans _ _ _ c.loop.invariant.later c.look-glance.ensures.later

pub returns-then-glance-all-clause-seen : goal.returns-then-glance-all-clause-seen
returns-then-glance-all-clause-seen g c =
    let s = g.K.Subject in
    let base = g.S.Shown.basis c.args.from.now in
    let whole = g.S.Shown.history c.args.from.now in
    let now = c.look-glance.new.self in
    let basis : reader_basis now ≡ Some base = c.look-glance.ensures.kept.0 ∙ c.loop.invariant.basis ∙ c.requires.basis in
    let shows : c.look-glance.result ≡ s.glance_of base (seen now) = subst (λ o. IfSome o (λ b. c.look-glance.result ≡ s.glance_of b (seen now))) basis c.look-glance.ensures.glance in
    whole_by_count s.before s.glance_of g.K.Subject.counted base whole (seen now) c.look-glance.result (prefix_trans _ _ _ c.loop.invariant.told c.look-glance.ensures.later) shows (c.if-glance-all.true ∙ c.requires.all)

pub returns-then-glance-all-clause-glance : goal.returns-then-glance-all-clause-glance
returns-then-glance-all-clause-glance g c =
    let s = g.K.Subject in
    let base = g.S.Shown.basis c.args.from.now in
    let now = c.look-glance.new.self in
    let basis : reader_basis now ≡ Some base = c.look-glance.ensures.kept.0 ∙ c.loop.invariant.basis ∙ c.requires.basis in
    let shows : c.look-glance.result ≡ s.glance_of base (seen now) = subst (λ o. IfSome o (λ b. c.look-glance.result ≡ s.glance_of b (seen now))) basis c.look-glance.ensures.glance in
    shows ∙ ap (s.glance_of base) (whole_by_count s.before s.glance_of g.K.Subject.counted base (g.S.Shown.history c.args.from.now) (seen now) c.look-glance.result (prefix_trans _ _ _ c.loop.invariant.told c.look-glance.ensures.later) shows (c.if-glance-all.true ∙ c.requires.all))
