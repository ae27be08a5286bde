use Rattle.qz_top.proofs.in_memory.own_script.Goals as goal

pub returns-clause-done : goal.returns-clause-done
returns-clause-done g c = rw (c.of.ensures, c.new.ensures.items) c.script_in_memory-own.ensures.done
