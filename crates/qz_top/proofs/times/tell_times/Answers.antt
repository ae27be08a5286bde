use Rattle.qz_top.proofs.times.tell_times.Goals as goal

pub returns-clause-done : goal.returns-clause-done
returns-clause-done g c = rw c.ran_no_script.ensures.status c.times-status.ensures.done
