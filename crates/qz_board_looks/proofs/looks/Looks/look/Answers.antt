use Rattle.std.proofs.Common.{sym, subst}
use Rattle.std.specs.Prelude.{IfSome}
use Rattle.qz_board.specs.Boards.{seen, reader_basis}
use Rattle.qz_board_looks.specs.Looks.{AreLooks}
use Rattle.qz_board_looks.proofs.Rising.{kept_more}
use Rattle.qz_board_looks.proofs.looks.Looks.look.Goals as goal

pub invariant_of-self : goal.invariant_of-self
invariant_of-self g c =
    let s = g.K.Subject in
    let old = c.args.self.now in
    let now = c.look-glance.new.self in
    let looked = c.look-glance.ensures in
    record {
      looks = subst (λ items. IfSome (reader_basis now) (λ b. ∥ AreLooks (s.glance_of b) (seen old.first.value) items (seen now) ∥₁)) (sym c.push_reserved.ensures.items)
          (kept_more s.glance_of (seen old.first.value) (reader_basis old.reader) (reader_basis now) old.glances.items c.look-glance.result (seen old.reader) (seen now) looked.kept.0 old.looks looked.later looked.glance);
    }
