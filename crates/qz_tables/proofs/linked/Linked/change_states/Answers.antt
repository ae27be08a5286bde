use Rattle.std.proofs.Common.{◌≡◌, true, false, ap, subst, ◌∙◌, length, arith, add-one}
use Rattle.std.specs.Prelude.{IfSome}
use Rattle.std.specs.List.{slice_get}
use Rattle.qz_types.specs.Rows.{TriggerData}
use Rattle.qz_tables.specs.Changes.{changed, changed_first}
use Rattle.qz_tables.specs.Links.{linked}
use Rattle.qz_tables.proofs.BulkLemmas.{changed_if, first-length, more-changed, more-same, all-states}
use Rattle.qz_tables.proofs.linked.Linked.change_states.Goals as goal
use Rattle.qz_tables.proofs.linked.Linked.change_states.Goals.{then-passes_nth, else-passes_nth}

pub edit_nth-requires-clause-present : goal.edit_nth-requires-clause-present
edit_nth-requires-clause-present g c =
    let same = first-length (changed_if (changed c.args.change) (g.T.Test.test c.args.test.now)) c.args.self.now.rows c.loop-place.place in
    let rows = ap length c.loop-place.invariant.rows in
    omega (arith, c.loop-place-test.true, c.len-count.ensures, same, rows)

pub loop-place-preserved : goal.loop-place-preserved
loop-place-preserved g c = elim c.if-passes_nth.branch [
  | then-passes_nth w ↦ record {
    within = omega (arith, c.loop-place-test.true, c.len-count.ensures);
    rows = rw add-one (more-changed (changed c.args.change) (g.T.Test.test c.args.test.now) c.args.self.now.rows c.loop-place.self.rows c.if-passes_nth.self.rows c.loop-place.place (omega (arith, c.loop-place-test.true, c.len-count.ensures)) c.loop-place.invariant.rows
        (subst (λ v. IfSome (slice_get v.rows c.loop-place.place) (λ (r : TriggerData). true ≡ g.T.Test.test c.args.test.now r)) c.self-in-loop-place.view_is w.if-passes_nth.ensures)
        (ap (λ v. v.rows) w.self-is ∙ w.edit_nth.ensures.rows));
    links = λ job. ap (λ v. linked job v.links) w.self-is ∙ w.edit_nth.ensures.links job ∙ c.loop-place.invariant.links job;
    spare = let same = ap (λ v. v.spare) w.self-is in omega (arith, same, w.edit_nth.ensures.spare, c.loop-place.invariant.spare);
  }
  | else-passes_nth w ↦ record {
    within = omega (arith, c.loop-place-test.true, c.len-count.ensures);
    rows = rw add-one (ap (λ v. v.rows) w.self-is ∙ more-same (changed c.args.change) (g.T.Test.test c.args.test.now) c.args.self.now.rows c.loop-place.self.rows c.loop-place.place (omega (arith, c.loop-place-test.true, c.len-count.ensures)) c.loop-place.invariant.rows
        (subst (λ v. IfSome (slice_get v.rows c.loop-place.place) (λ (r : TriggerData). false ≡ g.T.Test.test c.args.test.now r)) c.self-in-loop-place.view_is w.if-passes_nth.ensures));
    links = λ job. ap (λ v. linked job v.links) w.self-is ∙ c.loop-place.invariant.links job;
    spare = let same = ap (λ v. v.spare) w.self-is in omega (arith, same, c.loop-place.invariant.spare);
  }
]

pub returns-clause-rows : goal.returns-clause-rows
returns-clause-rows g c =
    let at_end : c.loop-place.place ≡ length c.args.self.now.rows = omega (arith, c.loop-place-test.false, c.loop-place.invariant.within, c.len-count.ensures) in
    c.loop-place.invariant.rows ∙ ap (λ k. changed_first (changed_if (changed c.args.change) (g.T.Test.test c.args.test.now)) k c.args.self.now.rows) at_end ∙ all-states (changed c.args.change) (g.T.Test.test c.args.test.now) c.args.self.now.rows
