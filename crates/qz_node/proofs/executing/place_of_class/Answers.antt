use Rattle.std.proofs.Common.{arith}
use Rattle.std.proofs.lemmas.Iterator.Adapters.{position_from-zero}
use Rattle.qz_node.proofs.Calling.{no_job}
use Rattle.qz_node.proofs.executing.place_of_class.Goals as goal

pub loop-place-init : goal.loop-place-init
loop-place-init g c = position_from-zero _ c.args.jobs.now.items

pub returns-clause-none : goal.returns-clause-none
returns-clause-none g c =
    no_job (λ b. (goal.Job-dyn g (b.vtable, b.value)).means b.value) c.args.class.now c.args.jobs.now.items c.loop-place.place
    (grind (arith, c.loop-place-test.false, c.len-place-end.ensures)) c.loop-place.invariant
