use Rattle.std.proofs.Common.{◌≡◌, ◌+◌, ◌*◌, ◌⊎◌, length, subst, option_copied, ⊎_elim, arith}
use Rattle.qz_queue.specs.Walk.{IsUnder, IsPassing, is_wanted}
use Rattle.qz_queue.proofs.Below.{under_split, under_within, over_under, over_chain, not_passing, some_chain}
use Rattle.qz_queue.proofs.walks.+first_wanted.Goals as goal

pub returns-then-top-heap-clause-over : goal.returns-then-top-heap-clause-over
returns-then-top-heap-clause-over g t c = λ other u l. absurd (under_within c.args.top other (length c.args.heap.now) u (omega (arith, c.if-top-heap.true)) l.within)

pub returns-then-is_wanted-clause-over : goal.returns-then-is_wanted-clause-over
returns-then-is_wanted-clause-over g t c = λ other u l. over_chain g.K.Ranked.stands_before g.K.Ranked.order c.args.heap.now c.earlier.result c.args.top other c.earlier.ensures.over (over_under g.K.Ranked.stands_before g.K.Ranked.order c.args.heap.now c.args.top other c.requires.heap l.within u)

pub returns-then-top-heap-2-clause-over : goal.returns-then-top-heap-2-clause-over
returns-then-top-heap-2-clause-over g t c = λ other u l. ⊎_elim
    (λ (e : other ≡ c.args.top). absurd (not_passing g.K.Ranked.stands_before g.K.Ranked.order (is_wanted g.K.Ranked.stands_before (g.W.Choice.wants c.args.choice.now) (option_copied c.args.due)) c.args.heap.now c.args.top c.if-is_wanted.ensures.answer (subst (IsPassing (is_wanted g.K.Ranked.stands_before (g.W.Choice.wants c.args.choice.now) (option_copied c.args.due)) c.args.heap.now) e l)))
    (λ (below : IsUnder (2 * c.args.top + 1) other ⊎ IsUnder (2 * c.args.top + 2) other). ⊎_elim
    (λ (left : IsUnder (2 * c.args.top + 1) other). absurd (under_within (2 * c.args.top + 1) other (length c.args.heap.now) left (omega (arith, c.if-top-heap-2.true)) l.within))
    (λ (right : IsUnder (2 * c.args.top + 2) other). absurd (under_within (2 * c.args.top + 2) other (length c.args.heap.now) right (omega (arith, c.if-top-heap-2.true)) l.within))
    below)
    (under_split c.args.top other u)

pub returns-clause-over : goal.returns-clause-over
returns-clause-over g t c = λ other u l. ⊎_elim
    (λ (e : other ≡ c.args.top). absurd (not_passing g.K.Ranked.stands_before g.K.Ranked.order (is_wanted g.K.Ranked.stands_before (g.W.Choice.wants c.args.choice.now) (option_copied c.args.due)) c.args.heap.now c.args.top c.if-is_wanted.ensures.answer (subst (IsPassing (is_wanted g.K.Ranked.stands_before (g.W.Choice.wants c.args.choice.now) (option_copied c.args.due)) c.args.heap.now) e l)))
    (λ (below : IsUnder (2 * c.args.top + 1) other ⊎ IsUnder (2 * c.args.top + 2) other). ⊎_elim
    (λ (left : IsUnder (2 * c.args.top + 1) other). some_chain g.K.Ranked.stands_before g.K.Ranked.order c.args.heap.now c.first_wanted-left.result c.first_wanted.result other (c.first_wanted-left.ensures.over other left l) c.first_wanted.ensures.over_found)
    (λ (right : IsUnder (2 * c.args.top + 2) other). c.first_wanted.ensures.over other right l)
    below)
    (under_split c.args.top other u)
