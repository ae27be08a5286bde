use Rattle.std.proofs.Common.{◌≡◌, rules}
use Rattle.std.specs.Prelude.{Ok, Err}
use Rattle.qz_types.specs.declared.states.StateCommand.TheVariants.{CheckIn}
use Rattle.qz_run.specs.declared.stores.TheConstants.{CHECK_IN_INTERVAL}
use Rattle.qz_serve.proofs.Moving.{moves_starved, moves_then, tells_moves}
use Rattle.qz_serve.proofs.Entering.{check_in_of}
use Rattle.qz_serve.proofs.both_stores.BothStores.join.Goals as goal

pub returns-in_default : goal.returns-in_default
returns-in_default g c names within = moves_starved _ _ _

pub returns-in-Ok-tell : goal.returns-in-Ok-tell
returns-in-Ok-tell g c names within =
    let entry : c.checking_in.result ≡ record { at = c.now-at.result; seat = 0; command = CheckIn c.in-Ok.node CHECK_IN_INTERVAL } = search rules in
    moves_then _ names _ _ _ _
    (tells_moves _ names (Ok tt) _ _ c.checking_in.result (check_in_of _ names c.now-at.result c.now-at.ensures c.checking_in.result c.in-Ok.node c.args.name.now entry c.in-Ok.ensures.cases within) c.in-Ok-tell.ensures.once c.tell.ensures.triggers c.tell.ensures.keeps)
    (c.join_at.ensures names within)

pub returns-in-Err : goal.returns-in-Err
returns-in-Err g c names within =
    let entry : c.checking_in.result ≡ record { at = c.now-at.result; seat = 0; command = CheckIn c.in-Ok.node CHECK_IN_INTERVAL } = search rules in
    tells_moves _ names (Err c.in-Err.why) _ _ c.checking_in.result (check_in_of _ names c.now-at.result c.now-at.ensures c.checking_in.result c.in-Ok.node c.args.name.now entry c.in-Ok.ensures.cases within) c.in-Err.ensures.once c.tell.ensures.triggers c.tell.ensures.keeps
