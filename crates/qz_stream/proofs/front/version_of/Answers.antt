use Rattle.std.proofs.Common.{arith, subst, refl, length-take}
use Rattle.std.proofs.lemmas.List.{get_or-take}
use Rattle.qz_stream.specs.Front.{IsFrontByte}
use Rattle.qz_stream.proofs.front.version_of.Goals as goal

pub returns-in-None : goal.returns-in-None
returns-in-None c = (c.if-bytes-lt5.false, λ at lt there. subst (IsFrontByte at) (get_or-take 5 c.args.bytes.now at 0 lt) (c.in-None.ensures.none at (omega arith) (omega (arith, length-take 5 c.args.bytes.now))), refl)
