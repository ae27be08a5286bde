use Rattle.std.proofs.Common.{◌≡◌, rules}
use Rattle.qz_types.specs.declared.commands.Actor.TheVariants.{Client}
use Rattle.qz_types.specs.declared.commands.Command.TheVariants.{Join}
use Rattle.qz_serve.proofs.Moving.{moves_starved, asks_moves}
use Rattle.qz_serve.proofs.Entering.{join_of}
use Rattle.qz_serve.proofs.both_stores.BothStores.join_at.Goals as goal

pub returns-in-Ok : goal.returns-in-Ok
returns-in-Ok g c names within =
    let entry : c.joining.result ≡ record { at = c.args.at; actor = Client; seat = 0; command = Join c.in-Ok.node } = search rules in
    asks_moves _ names _ _ _ c.joining.result (join_of _ names c.args.at c.requires.shown c.joining.result c.in-Ok.node c.args.name.now entry c.in-Ok.ensures.cases within) c.ask.ensures.once c.ask.ensures.states c.ask.ensures.keeps

pub returns-in-Err : goal.returns-in-Err
returns-in-Err g c names within = moves_starved _ _ _
