use Rattle.std.proofs.Common.{◌≡◌, ap, ◌∙◌, length, arith, add-one}
use Rattle.qz_tables.specs.Changes.{trigger_edited, changed_nth, changed_first}
use Rattle.qz_tables.proofs.BulkLemmas.{first-length, first-more, first-all}
use Rattle.qz_tables.proofs.linked.Linked.edit_all.Goals as goal

pub edit_nth-requires-clause-present : goal.edit_nth-requires-clause-present
edit_nth-requires-clause-present c =
    let same = first-length (trigger_edited c.args.edit.now) c.args.self.now.rows c.loop-place.place in
    let rows = ap length c.loop-place.invariant.rows in
    omega (arith, c.loop-place-test.true, c.len-count.ensures, same, rows)

pub loop-place-preserved : goal.loop-place-preserved
loop-place-preserved c = record {
  within = omega (arith, c.loop-place-test.true, c.len-count.ensures);
  rows = rw add-one (c.edit_nth.ensures.rows ∙ ap (changed_nth (trigger_edited c.args.edit.now) c.loop-place.place) c.loop-place.invariant.rows ∙ first-more (trigger_edited c.args.edit.now) c.args.self.now.rows c.loop-place.place);
  links = λ job. c.edit_nth.ensures.links job ∙ c.loop-place.invariant.links job;
  spare = omega (arith, c.edit_nth.ensures.spare, c.loop-place.invariant.spare);
}

pub returns-clause-rows : goal.returns-clause-rows
returns-clause-rows c =
    let at_end : c.loop-place.place ≡ length c.args.self.now.rows = omega (arith, c.loop-place-test.false, c.loop-place.invariant.within, c.len-count.ensures) in
    c.loop-place.invariant.rows ∙ ap (λ k. changed_first (trigger_edited c.args.edit.now) k c.args.self.now.rows) at_end ∙ first-all (trigger_edited c.args.edit.now) c.args.self.now.rows
