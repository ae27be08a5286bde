use Rattle.std.proofs.Common.{length, drop, sym, ap, ◌∙◌, subst}
use Rattle.std.proofs.Math.Logic.{∥∥₁_elim, ∥∥₁_map}
use Rattle.std.proofs.Props.{props}
use mathlib.Core.List.{IsPrefix}
use Rattle.qz_row_lock.specs.Seats.{seen as seen_by, first_value}
use Rattle.qz_board.specs.Boards.{posted, writer_board}
use Rattle.qz_trigger_store.specs.View.{view}
use Rattle.qz_shared_stores.specs.Going.{TriggersWentOn}
use Rattle.qz_board_stores.proofs.rows.close_with_board.Goals as goal

pub returns-clause-begins : goal.returns-clause-begins
returns-clause-begins g c = subst (λ s. IsPrefix (seen_by c.args.seat) (view s.store).history.entries) (sym c.into_parts-store.ensures.0) c.close_row-boarded.ensures.begins

pub returns-clause-went : goal.returns-clause-went
returns-clause-went g c = ∥∥₁_map c.close_row-boarded.ensures.went (λ w. subst (λ s. TriggersWentOn (first_value c.args.row).opened.value.store.store s.store) (sym c.into_parts-store.ensures.0) w.store)

pub returns-clause-posted : goal.returns-clause-posted
returns-clause-posted g c =
    let b = c.close_row-boarded.result in
    let begins : IsPrefix (posted b.writer) (view b.store.store).history.entries = (drop (length (posted b.writer)) (view b.store.store).history.entries, b.begins) in
    subst (λ s. IsPrefix (posted c.into_parts-store.result.1) (view s.store).history.entries) (sym c.into_parts-store.ensures.0)
    (subst (λ w. IsPrefix (posted w) (view b.store.store).history.entries) (sym c.into_parts-store.ensures.1) begins)

pub returns-clause-board : goal.returns-clause-board
returns-clause-board g c = ap writer_board c.into_parts-store.ensures.1 ∙ ∥∥₁_elim c.close_row-boarded.ensures.went (hlevel props) (λ w. w.board)
