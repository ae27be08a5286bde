use Rattle.std.proofs.Common.{ap, subst, sym, ◌∙◌}
use Rattle.qz_types.specs.Sorted.{row_of}
use Rattle.qz_types.specs.Rows.{TriggerData}
use Rattle.qz_types.specs.Words.{key_cmp}
use Rattle.qz_tables.specs.Changes.{trigger_edited}
use Rattle.qz_tables.specs.Ids.{changed_at}
use Rattle.qz_tables.specs.Linking.{links_of}
use Rattle.qz_tables.specs.Links.{KeepsLinks}
use Rattle.qz_tables.specs.Slots.{rows_at}
use Rattle.qz_tables.proofs.LinkLemmas.{alike-edited, once-alike, by_job-alike, links-alike}
use Rattle.qz_tables.proofs.linked.Linked.edit.Goals as goal

pub invariant_of-self : goal.invariant_of-self
invariant_of-self c =
    let alike = alike-edited c.args.edit.now c.self.inside.rows.slots c.edit.new.self.slots c.edit.ensures.slots in
    (once-alike c.self.inside.rows.slots c.edit.new.self.slots c.self.inside.linked.items alike c.self.invariant.0, by_job-alike c.self.inside.rows.slots c.edit.new.self.slots c.self.inside.linked.items alike c.self.invariant.1)

pub returns-clause-rows : goal.returns-clause-rows
returns-clause-rows c = c.edit.ensures.rows ∙ ap (λ v. changed_at key_cmp (λ (r : TriggerData). r.spec.key) c.args.key.now (trigger_edited c.args.edit.now) v.rows) c.self.view_is

pub returns-clause-links : goal.returns-clause-links
returns-clause-links c =
    let l = links-alike c.self.inside.rows.slots c.edit.new.self.slots c.self.inside.linked.items (alike-edited c.args.edit.now c.self.inside.rows.slots c.edit.new.self.slots c.edit.ensures.slots) in
    subst (λ v. KeepsLinks v.links (links_of (rows_at c.edit.new.self.slots c.self.inside.linked.items))) c.self.view_is l

pub edit-requires : goal.edit-requires
edit-requires c = λ row e. c.requires row (ap (λ v. row_of key_cmp (λ (r : TriggerData). r.spec.key) c.args.key.now v.rows) (sym c.self.view_is) ∙ e)
