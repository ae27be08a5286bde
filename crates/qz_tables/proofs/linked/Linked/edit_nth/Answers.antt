use Rattle.std.proofs.Common.{ap, subst, ◌∙◌}
use Rattle.qz_tables.specs.Changes.{trigger_edited, changed_nth}
use Rattle.qz_tables.specs.Linking.{links_of}
use Rattle.qz_tables.specs.Links.{KeepsLinks}
use Rattle.qz_tables.specs.Slots.{rows_at}
use Rattle.qz_tables.proofs.LinkLemmas.{alike-edited, once-alike, by_job-alike, links-alike}
use Rattle.qz_tables.proofs.linked.Linked.edit_nth.Goals as goal

pub invariant_of-self : goal.invariant_of-self
invariant_of-self c =
    let alike = alike-edited c.args.edit.now c.self.inside.rows.slots c.edit_nth.new.self.slots c.edit_nth.ensures.slots in
    (once-alike c.self.inside.rows.slots c.edit_nth.new.self.slots c.self.inside.linked.items alike c.self.invariant.0, by_job-alike c.self.inside.rows.slots c.edit_nth.new.self.slots c.self.inside.linked.items alike c.self.invariant.1)

pub returns-clause-rows : goal.returns-clause-rows
returns-clause-rows c = c.edit_nth.ensures.rows ∙ ap (λ v. changed_nth (trigger_edited c.args.edit.now) c.args.place v.rows) c.self.view_is

pub returns-clause-links : goal.returns-clause-links
returns-clause-links c =
    let l = links-alike c.self.inside.rows.slots c.edit_nth.new.self.slots c.self.inside.linked.items (alike-edited c.args.edit.now c.self.inside.rows.slots c.edit_nth.new.self.slots c.edit_nth.ensures.slots) in
    subst (λ v. KeepsLinks v.links (links_of (rows_at c.edit_nth.new.self.slots c.self.inside.linked.items))) c.self.view_is l
