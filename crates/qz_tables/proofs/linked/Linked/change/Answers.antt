use Rattle.std.proofs.Common.{◌≡◌, ◌≢◌, true, false, ap}
use Rattle.std.specs.Prelude.{IfSome}
use Rattle.std.specs.Ordering.{is_eq}
use Rattle.qz_types.specs.Rows.{TriggerData}
use Rattle.qz_types.specs.Sorted.{row_of}
use Rattle.qz_types.specs.Words.{key_cmp}
use Rattle.qz_tables.proofs.LinkLemmas.{if_found, same_job, other_job}
use Rattle.qz_tables.proofs.linked.Linked.change.Goals as goal

pub replace-requires-clause-job : goal.replace-requires-clause-job
replace-requires-clause-job c =
    let e : c.row.inside.spec ≡ c.args.row.spec = ap (λ r. r.spec) c.row.view_is in
    let h : IfSome (row_of key_cmp (λ (r : TriggerData). r.spec.key) c.args.row.spec.key c.args.self.now.rows) (λ r. true ≡ is_eq (key_cmp r.spec.job c.args.row.spec.job)) = rw e at c.if-has_job.ensures in
    same_job c.args.row.spec.job _ h

pub relink-requires-clause-job : goal.relink-requires-clause-job
relink-requires-clause-job c =
    let e : c.row.inside.spec ≡ c.args.row.spec = ap (λ r. r.spec) c.row.view_is in
    let h : IfSome (row_of key_cmp (λ (r : TriggerData). r.spec.key) c.args.row.spec.key c.args.self.now.rows) (λ r. false ≡ is_eq (key_cmp r.spec.job c.args.row.spec.job)) = rw e at c.if-has_job.ensures in
    other_job c.args.row.spec.job _ h

pub returns-then-has_job-clause-moves : goal.returns-then-has_job-clause-moves
returns-then-has_job-clause-moves c differ =
    let e : c.row.inside.spec ≡ c.args.row.spec = ap (λ r. r.spec) c.row.view_is in
    let h : IfSome (row_of key_cmp (λ (r : TriggerData). r.spec.key) c.args.row.spec.key c.args.self.now.rows) (λ r. true ≡ is_eq (key_cmp r.spec.job c.args.row.spec.job)) = rw e at c.if-has_job.ensures in
    absurd (differ (if_found _ c.replace.result (λ r. r.spec.job ≡ c.args.row.spec.job) c.replace.ensures.row (same_job c.args.row.spec.job _ h)))

pub returns-else-has_job-clause-stays : goal.returns-else-has_job-clause-stays
returns-else-has_job-clause-stays c same =
    let e : c.row.inside.spec ≡ c.args.row.spec = ap (λ r. r.spec) c.row.view_is in
    let h : IfSome (row_of key_cmp (λ (r : TriggerData). r.spec.key) c.args.row.spec.key c.args.self.now.rows) (λ r. false ≡ is_eq (key_cmp r.spec.job c.args.row.spec.job)) = rw e at c.if-has_job.ensures in
    absurd (if_found _ c.relink.result (λ r. r.spec.job ≢ c.args.row.spec.job) c.relink.ensures.row (other_job c.args.row.spec.job _ h) same)
