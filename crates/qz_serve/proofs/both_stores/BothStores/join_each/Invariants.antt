use Rattle.std.specs.Prelude.{Ok}
use Rattle.qz_serve.specs.Going.{Moves}
use Rattle.qz_serve.proofs.both_stores.BothStores.join_each.Given as goal

abbrev pub invariant-loop-name : goal.invariant-loop-name
invariant-loop-name g l = Moves (g.C.SharedClock.shows l.clock) l.names (Ok tt) l.fn.self l.self
