use Rattle.std.proofs.Common.{sym, ap, subst, ◌∙◌, filter}
use Rattle.std.specs.Prelude.{IfSome}
use Rattle.std.specs.List.{slice_get}
use Rattle.qz_types.specs.Due.{in_due_order}
use Rattle.qz_tables.specs.Due.{waits_and}
use Rattle.qz_tables.specs.DueKeys.{IsKeyOfRow, row_in}
use Rattle.qz_tables.proofs.DueFound.{AreSlotted, next_found, next_none}
use Rattle.qz_tables.proofs.DueWalk.{passing-waiting}
use Rattle.qz_tables.proofs.Steps.{step_known, key_known}
use Rattle.qz_tables.proofs.timed.Timed.next_of.Goals as goal

pub first_of-requires-clause-known : goal.first_of-requires-clause-known
first_of-requires-clause-known g c = step_known c.self.inside.rows.slots c.self.inside.queue.pairs (c.self.invariant c.if-not-self.false) c.laws-2.ensures.slots

pub first_of-requires-clause-due : goal.first_of-requires-clause-due
first_of-requires-clause-due g c = subst (λ o. IfSome o (IsKeyOfRow c.self.inside.rows.slots)) (sym (c.as_ref.ensures.value ∙ c.after_key-due.ensures)) (key_known c.self.inside.rows.slots c.args.after)

pub returns-in-Some : goal.returns-in-Some
returns-in-Some g c =
    let laws : AreSlotted c.self.inside.rows.rows c.self.inside.rows.slots = record { ascending = c.laws.ensures.sorted; whole = c.laws.ensures.whole; apart = c.laws.ensures.apart; listed = c.laws.ensures.listed } in
    rw (← c.self.view_is) (c.waiting_at.ensures ∙ next_found c.self.inside.rows.rows c.self.inside.rows.slots c.self.inside.queue.pairs laws (c.self.invariant c.if-not-self.false) c.laws-2.ensures.ascending c.laws-2.ensures.slots
    (g.T.Test.test c.args.test.now) c.args.after (rw (← c.self.view_is) at c.requires) _ (c.as_ref.ensures.value ∙ c.after_key-due.ensures) (c.in-Some.field-0-0.now, c.in-Some.next) c.in-Some.ensures.first)

pub returns : goal.returns
returns g c =
    let laws : AreSlotted c.self.inside.rows.rows c.self.inside.rows.slots = record { ascending = c.laws.ensures.sorted; whole = c.laws.ensures.whole; apart = c.laws.ensures.apart; listed = c.laws.ensures.listed } in
    rw (← c.self.view_is) (next_none c.self.inside.rows.rows c.self.inside.rows.slots c.self.inside.queue.pairs laws (c.self.invariant c.if-not-self.false) c.laws-2.ensures.ascending c.laws-2.ensures.slots
    (g.T.Test.test c.args.test.now) c.args.after (rw (← c.self.view_is) at c.requires) _ (c.as_ref.ensures.value ∙ c.after_key-due.ensures) c.in-None.ensures.first)

pub returns-then-not-self : goal.returns-then-not-self
returns-then-not-self g c = rw (← c.self.view_is)
    (c.first_waiting.ensures ∙ ap (λ o. slice_get (in_due_order (filter (waits_and o (g.T.Test.test c.args.test.now)) c.self.inside.rows.rows)) 0) c.row_in.ensures
    ∙ ap (λ rows. slice_get rows 0) (sym (passing-waiting (row_in c.self.inside.rows.slots c.args.after) (g.T.Test.test c.args.test.now) c.self.inside.rows.rows c.laws.ensures.sorted)))
