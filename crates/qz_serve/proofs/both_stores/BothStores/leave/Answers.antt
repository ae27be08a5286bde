use Rattle.std.proofs.Common.{◌≡◌, rules}
use Rattle.qz_types.specs.declared.commands.Actor.TheVariants.{Node}
use Rattle.qz_types.specs.declared.commands.Command.TheVariants.{Leave}
use Rattle.qz_serve.proofs.Moving.{moves_none, moves_starved, asks_moves}
use Rattle.qz_serve.proofs.Entering.{leave_of}
use Rattle.qz_serve.proofs.both_stores.BothStores.leave.Goals as goal

pub returns-in_default : goal.returns-in_default
returns-in_default g c names within = moves_none _ _ _

pub returns-in_default-clone : goal.returns-in_default-clone
returns-in_default-clone g c names within = moves_starved _ _ _

pub returns : goal.returns
returns g c names within =
    let entry : c.leaving.result ≡ record { at = c.now.result; actor = Node (record { node = c.in-Ok.node; epoch = c.in-Some.epoch }); seat = 0; command = Leave } = search rules in
    asks_moves _ names _ _ _ c.leaving.result (leave_of _ names c.now.result c.now.ensures c.leaving.result _ c.args.name.now entry c.in-Ok.ensures.cases within) c.ask.ensures.once c.ask.ensures.states c.ask.ensures.keeps
