use Rattle.std.proofs.Common.{sym, ap, ◌∙◌, subst}
use mathlib.Core.List.{IsPrefix}
use Rattle.qz_board.specs.Boards.{offered, writer_basis}
use Rattle.qz_rounds.proofs.Lists.{prefix_refl}
use Rattle.qz_trigger_store.specs.View.{view}
use Rattle.qz_board_stores.proofs.status_boards.StatusBoard.lift.Goals as goal

pub returns-clause-shows : goal.returns-clause-shows
returns-clause-shows g c =
    let whole = (view c.args.boarded.store.store).history.entries in
    let same = c.into_parts-store.ensures.1 in
    record {
      goes_on = subst (λ xs. IsPrefix xs whole) (sym (ap offered same ∙ c.args.boarded.told)) (prefix_refl whole);
      basis = ap writer_basis same ∙ c.args.boarded.based;
    }
