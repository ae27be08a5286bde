use Rattle.std.proofs.Common.{sym, ap, ◌∙◌, Some, option_copied}
use Rattle.qz_queue.specs.Walk.{is_wanted}
use Rattle.qz_queue.proofs.Known.{known_heap}
use Rattle.qz_queue.proofs.Below.{all_under, passing_first, passing_none}
use Rattle.qz_queue.proofs.queue.DueQueue.first_of.Goals as goal

pub first_wanted-requires-clause-known : goal.first_wanted-requires-clause-known
first_wanted-requires-clause-known g c = rw c.deref.ensures.value (known_heap g.K.Ranked.stands_before g.K.Ranked.order (g.C.Compare.Knows c.args.compare.now) c.self.inside.heap.items (rw (← c.self.view_is) at c.requires.known))

pub returns-in-Some-clause-first : goal.returns-in-Some-clause-first
returns-in-Some-clause-first g c =
    let told = (rw c.in-Some.is at c.first_wanted.ensures) in
    let found = passing_first g.K.Ranked.stands_before g.K.Ranked.order (is_wanted g.K.Ranked.stands_before (g.W.Choice.wants c.args.choice.now) (option_copied c.args.due)) c.self.inside.heap.items c.self.inside.places.items c.in-Some.place c.index-pair.result.now c.self.invariant (rw c.deref.ensures.value at told.passing) (λ other l. (rw c.deref.ensures.value at told.over) other (all_under other) l) in
    rw (← c.self.view_is) (ap (λ p. Some p) c.index-pair.ensures ∙ sym found)

pub returns-in-None-clause-first : goal.returns-in-None-clause-first
returns-in-None-clause-first g c = rw (← c.self.view_is) (sym (passing_none g.K.Ranked.stands_before g.K.Ranked.order (is_wanted g.K.Ranked.stands_before (g.W.Choice.wants c.args.choice.now) (option_copied c.args.due)) c.self.inside.heap.items (λ other l. (rw c.deref.ensures.value at c.in-None.ensures.over) other (all_under other) l)))
