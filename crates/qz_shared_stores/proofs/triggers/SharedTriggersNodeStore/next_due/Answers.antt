use Rattle.std.proofs.Common.{◌≡◌, ℤ, int_le, false, Option, Some, None, option_copied, sym, ap, ◌∙◌, subst}
use Rattle.std.specs.Prelude.{MatchOption}
use Rattle.qz_types.specs.Tables.{SchedulerTables}
use Rattle.qz_run.specs.Stores.{IsNextDue}
use Rattle.qz_seen.specs.Seen.{some_due, seen}
use Rattle.qz_tables.specs.Due.{due_first}
use Rattle.qz_run_stores.proofs.DueFirst.{first_next, no_next}
use Rattle.qz_shared_stores.proofs.triggers.SharedTriggersNodeStore.next_due.Goals as goal

-- as a run sees it, it is what the tables say
by_tables : (T : SchedulerTables) (next : Option ℤ) → IsNextDue (seen T) next → MatchOption next ((t : ℤ) → some_due T t ≡ false) (λ m. (t : ℤ) → some_due T t ≡ int_le m t)
by_tables T None is = is
by_tables T (Some m) is = is

pub returns-in-Some : goal.returns-in-Some
returns-in-Some g c =
    let T = c.tables.result.now.tables in
    let found : due_first T.triggers ≡ Some c.in-Some.trigger.now = sym c.due_first.ensures ∙ ap option_copied c.in-Some.is in
    let next : c.in-Some.trigger.now.next ≡ c.trigger.inside.next = cc in
    by_tables _ c.trigger.inside.next (subst (λ X. IsNextDue (seen X) c.trigger.inside.next) c.tables.ensures.value
    (subst (λ o. IsNextDue (seen T) o) next (first_next T c.tables.ensures.valid c.due_order_is_sorted.ensures.sorted c.due_order_is_sorted.ensures.same c.in-Some.trigger.now found)))

pub returns-in-None : goal.returns-in-None
returns-in-None g c =
    let T = c.tables.result.now.tables in
    let none : due_first T.triggers ≡ None = sym c.due_first.ensures ∙ ap option_copied c.in-None.is in
    subst (λ X. IsNextDue (seen X) None) c.tables.ensures.value
    (no_next T c.tables.ensures.valid c.due_order_is_sorted.ensures.sorted c.due_order_is_sorted.ensures.same none)
