use Rattle.qz_top.proofs.GeneratingLaws.{answered_ok, answered_open, answered_err, entries_grow}
use Rattle.qz_run_stores.proofs.Going.{current_then}
use Rattle.qz_run_stores.proofs.Ways.{triggers_kept}
use Rattle.qz_top.proofs.filling.do_one.Goals as goal

pub returns-clause-done : goal.returns-clause-done
returns-clause-done g c = rw c.after_answer.ensures.value (answered_ok _ _ _ _ c.requires.valid c.requires.open _ (rw c.first_entry.ensures at c.submit-answer.ensures.one))

pub returns-clause-open : goal.returns-clause-open
returns-clause-open g c = rw c.after_answer.ensures.value (answered_open g.D.Disk.honest _ _ _ c.requires.valid c.requires.open _ (rw c.first_entry.ensures at c.submit-answer.ensures.one))

pub returns-clause-ended : goal.returns-clause-ended
returns-clause-ended g c = rw c.after_answer.ensures.value (answered_err _ _ _ _ c.requires.valid c.requires.open _ (rw c.first_entry.ensures at c.submit-answer.ensures.one))

pub returns-clause-grows : goal.returns-clause-grows
returns-clause-grows g c = entries_grow _ _ _ _ c.submit-answer.ensures.one

pub returns-clause-current : goal.returns-clause-current
returns-clause-current g c current = current_then _ _ _ _ current c.submit-answer.ensures.one

pub returns-clause-any_moment : goal.returns-clause-any_moment
returns-clause-any_moment g c first within kept = triggers_kept first c.args.triggers.now c.submit-answer.new.self c.first_entry.result c.submit-answer.result within c.submit-answer.ensures.one c.submit-answer.ensures.any_moment kept
