use Rattle.std.proofs.Common.{◌≡◌, Some, ap, sym, subst, ◌∙◌}
use Rattle.qz_types.specs.Rows.{TriggerData}
use Rattle.qz_types.specs.Sorted.{row_of}
use Rattle.qz_types.specs.Words.{key_cmp}
use Rattle.qz_tables.specs.Ids.{changed_at}
use Rattle.qz_tables.specs.Linking.{links_of}
use Rattle.qz_tables.specs.Links.{KeepsLinks}
use Rattle.qz_tables.specs.Slots.{rows_at}
use Rattle.qz_tables.proofs.LinkLemmas.{AreAlike, trigger_key, if_found, tie_is, alike-replaced, links-alike, once-alike, by_job-alike}
use Rattle.qz_tables.proofs.linked.Linked.replace.Goals as goal

pub returns-clause-row : goal.returns-clause-row
returns-clause-row c = c.change.ensures.row ∙ ap (λ v. row_of key_cmp (λ (r : TriggerData). r.spec.key) c.args.row.spec.key v.rows) c.self.view_is

pub returns-clause-rows : goal.returns-clause-rows
returns-clause-rows c = c.change.ensures.rows ∙ ap (λ v. changed_at key_cmp (λ (r : TriggerData). r.spec.key) c.args.row.spec.key (λ _. c.args.row) v.rows) c.self.view_is

alike : (c : goal.After-change) → AreAlike c.self.inside.rows.slots c.change.new.self.slots
alike c =
    let found : Some c.change.result ≡ row_of key_cmp (λ (r : TriggerData). r.spec.key) c.args.row.spec.key c.args.self.now.rows = c.change.ensures.row ∙ ap (λ v. row_of key_cmp (λ (r : TriggerData). r.spec.key) c.args.row.spec.key v.rows) c.self.view_is in
    let key : c.args.row.spec.key ≡ c.change.result.spec.key = trigger_key c.args.row.spec.key c.change.result c.args.self.now.rows (sym found) in
    let job : c.change.result.spec.job ≡ c.args.row.spec.job = if_found _ c.change.result (λ r. r.spec.job ≡ c.args.row.spec.job) found c.requires.job in
    alike-replaced c.change.result c.args.row c.self.inside.rows.slots c.change.new.self.slots (tie_is c.change.result c.args.row (sym job) key) c.change.ensures.slots

pub returns-clause-links : goal.returns-clause-links
returns-clause-links c =
    subst (λ v. KeepsLinks v.links (links_of (rows_at c.change.new.self.slots c.self.inside.linked.items))) c.self.view_is (links-alike c.self.inside.rows.slots c.change.new.self.slots c.self.inside.linked.items (alike c))

pub invariant_of-self : goal.invariant_of-self
invariant_of-self c = (once-alike c.self.inside.rows.slots c.change.new.self.slots c.self.inside.linked.items (alike c) c.self.invariant.0, by_job-alike c.self.inside.rows.slots c.change.new.self.slots c.self.inside.linked.items (alike c) c.self.invariant.1)
