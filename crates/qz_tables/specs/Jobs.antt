-- The triggers of a job.
use Rattle.std.specs.Prelude.{List, filter}
use Rattle.qz_types.specs.Rows.{TriggerData}
use Rattle.qz_types.specs.Words.{same_key}
use Rattle.qz_types.specs.declared.keys.Key.{Key}

-- in the order of their keys
unfoldable pub triggers_of : Key → List TriggerData → List TriggerData
triggers_of job triggers = filter (λ t. same_key job t.spec.job) triggers
