use Rattle.std.proofs.Common.{Some}
use Rattle.qz_board_stores.specs.StatusBoards.{looks_of, opened_with}
use Rattle.qz_trigger_store.specs.View.{view as triggers_view}
use Rattle.qz_serve.proofs.Boarding.{wrote_no_board}
use Rattle.qz_serve.proofs.telling.tell_after_board.Goals as goal

pub returns-in-Ok-clause-written : goal.returns-in-Ok-clause-written
returns-in-Ok-clause-written g c begins = record { lines = c.in-Ok.lines; are_lines = c.in-Ok.ensures; written = c.tell_run_after.ensures.written }

pub returns-in-Err-clause-written : goal.returns-in-Err-clause-written
returns-in-Err-clause-written g c begins = wrote_no_board (Some (looks_of c.args.shown)) (opened_with c.args.shown) (triggers_view c.args.triggers.now).history _ _ begins
