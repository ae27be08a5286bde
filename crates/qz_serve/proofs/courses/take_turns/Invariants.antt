use Rattle.std.proofs.Common.{List, map, None}
use Rattle.qz_serve.specs.Courses.{TookTurns, Turn}
use Rattle.qz_serve.specs.Going.{state_of_both}
use Rattle.qz_serve.specs.Keeping.{Proceeds}
use Rattle.qz_serve.proofs.courses.take_turns.Given as goal

abbrev pub invariant-turns : goal.invariant-turns
invariant-turns g l = record {
  turns : (turns : List Turn) × TookTurns (g.C.SharedClock.shows l.clock) l.fn.until l.ours.nodes.items l.ours.main None turns (state_of_both l.fn.stores) (state_of_both l.stores)
      (map (λ list. map (λ b. (g.dyn-1.0.entry b.vtable).1.means b.value) list.items) l.fn.jobs.items)
      (map (λ list. map (λ b. (g.dyn-1.0.entry b.vtable).1.means b.value) list.items) l.jobs.items);
  proceeds : Proceeds None l.fn.stores l.stores;
}
