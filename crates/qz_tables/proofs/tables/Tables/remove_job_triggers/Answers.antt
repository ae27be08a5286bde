use Rattle.std.proofs.Common.{ap, length, filter, ◌∙◌}
use Rattle.qz_types.specs.Rows.{TriggerData}
use Rattle.qz_types.specs.Words.{same_key}
use Rattle.qz_tables.proofs.BulkLemmas.{fewer, taken}
use Rattle.qz_tables.proofs.tables.Tables.remove_job_triggers.Goals as goal

pub overflow_sub-result : goal.overflow_sub-result
overflow_sub-result c = fewer (λ (t : TriggerData). same_key c.args.job.now t.spec.job) c.self.inside.triggers.rows c.len-before.result c.len-after.result c.len-before.ensures (c.len-after.ensures ∙ ap length c.remove_job.ensures.rows)

pub returns-clause-count : goal.returns-clause-count
returns-clause-count c =
    taken (λ (t : TriggerData). same_key c.args.job.now t.spec.job) c.self.inside.triggers.rows c.len-before.result c.len-after.result c.len-before.ensures (c.len-after.ensures ∙ ap length c.remove_job.ensures.rows)
    ∙ ap (λ v. length (filter (λ (t : TriggerData). same_key c.args.job.now t.spec.job) v.tables.triggers)) c.self.view_is
