use Rattle.qz_seen.proofs.Effects.{does}
use Rattle.qz_seen.proofs.laws.entries_do_what_their_replies_say.Goals as goal

pub returns : goal.returns
returns c T T' n at command r small valid time later can e = does T T' n at command r small valid time later can e
