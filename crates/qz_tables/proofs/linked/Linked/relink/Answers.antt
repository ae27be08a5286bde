use Rattle.std.proofs.Common.{◌≡◌, ◌≢◌, Some, ap, sym, ◌∙◌}
use Rattle.qz_types.specs.Rows.{TriggerData}
use Rattle.qz_types.specs.Sorted.{row_of, put}
use Rattle.qz_types.specs.Words.{key_cmp}
use Rattle.qz_tables.specs.Ids.{without}
use Rattle.qz_tables.specs.Links.{IsUnlinked}
use Rattle.qz_tables.proofs.ByIds.{absent-without, put-without}
use Rattle.qz_tables.proofs.Keys.{key_total}
use Rattle.qz_tables.proofs.LinkLemmas.{trigger_key, if_found, moved}
use Rattle.qz_tables.proofs.linked.Linked.relink.Goals as goal

pub insert-requires-clause-absent : goal.insert-requires-clause-absent
insert-requires-clause-absent c =
    let kk : c.row.inside.spec.key ≡ c.args.row.spec.key = ap (λ r. r.spec.key) c.row.view_is in
    let rows : c.remove.new.self.rows ≡ without key_cmp (λ (r : TriggerData). r.spec.key) c.args.row.spec.key c.args.self.now.rows = rw kk at c.remove.ensures.rows in
    rw rows (absent-without key_cmp (λ (r : TriggerData). r.spec.key) c.args.row.spec.key c.args.self.now.rows)

pub returns-clause-rows : goal.returns-clause-rows
returns-clause-rows c =
    let kk : c.row.inside.spec.key ≡ c.args.row.spec.key = ap (λ r. r.spec.key) c.row.view_is in
    let rows : c.remove.new.self.rows ≡ without key_cmp (λ (r : TriggerData). r.spec.key) c.args.row.spec.key c.args.self.now.rows = rw kk at c.remove.ensures.rows in
    let found : Some c.in-Some.old ≡ row_of key_cmp (λ (r : TriggerData). r.spec.key) c.args.row.spec.key c.args.self.now.rows = rw kk at c.in-Some.ensures.row in
    c.insert.ensures.rows ∙ ap (put key_cmp (λ (r : TriggerData). r.spec.key) c.args.row) rows ∙ put-without key_cmp (λ (r : TriggerData). r.spec.key) key_total c.args.row c.in-Some.old c.args.self.now.rows c.remove.ensures.sorted (sym found)

pub returns-clause-links : goal.returns-clause-links
returns-clause-links c =
    let kk : c.row.inside.spec.key ≡ c.args.row.spec.key = ap (λ r. r.spec.key) c.row.view_is in
    let found : Some c.in-Some.old ≡ row_of key_cmp (λ (r : TriggerData). r.spec.key) c.args.row.spec.key c.args.self.now.rows = rw kk at c.in-Some.ensures.row in
    let same : c.args.row.spec.key ≡ c.in-Some.old.spec.key = trigger_key c.args.row.spec.key c.in-Some.old c.args.self.now.rows (sym found) in
    let differ : c.in-Some.old.spec.job ≢ c.args.row.spec.job = if_found _ c.in-Some.old (λ r. r.spec.job ≢ c.args.row.spec.job) found c.requires.job in
    let out : IsUnlinked c.in-Some.old.spec.job c.args.row.spec.key c.args.self.now.links c.remove.new.self.links = rw same c.in-Some.ensures.links in
    moved c.in-Some.old.spec.job c.args.row.spec.job c.args.row.spec.key c.args.self.now.links c.remove.new.self.links c.insert.new.self.links differ out c.insert.ensures.links
