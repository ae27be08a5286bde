use Rattle.std.proofs.Common.{◌≡◌, rules}
use Rattle.qz_types.specs.declared.states.StateCommand.TheVariants.{Forget}
use Rattle.qz_serve.proofs.Moving.{moves_none, moves_starved, tells_moves}
use Rattle.qz_serve.proofs.Entering.{forget_of}
use Rattle.qz_serve.proofs.both_stores.BothStores.forget.Goals as goal

pub returns-in_default : goal.returns-in_default
returns-in_default g c names within = moves_none _ _ _

pub returns-in_default-clone : goal.returns-in_default-clone
returns-in_default-clone g c names within = moves_starved _ _ _

pub returns : goal.returns
returns g c names within =
    let entry : c.forgetting.result ≡ record { at = c.now.result; seat = 0; command = Forget c.in-Ok.node c.in-Some.last } = search rules in
    tells_moves _ names _ _ _ c.forgetting.result (forget_of _ names c.now.result c.now.ensures c.forgetting.result c.in-Ok.node c.args.name.now c.in-Some.last entry c.in-Ok.ensures.cases within) c.tell.ensures.once c.tell.ensures.triggers c.tell.ensures.keeps
