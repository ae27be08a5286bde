-- Triggers whose slots are kept in the order of linking.
use Rattle.std.specs.Prelude.{ℕ, List, map, filter}
use Rattle.std.specs.Ordering.{is_eq}
use Rattle.qz_types.specs.Rows.{TriggerData}
use Rattle.qz_types.specs.Words.{key_cmp}
use Rattle.qz_types.specs.declared.keys.Key.{Key}

-- what contracts see of triggers with their order of linking
pub record LinkedData : Type 0 where
  pub rows : List TriggerData
  pub links : List (Key × List Key)
  pub spare : ℕ

-- the keys of the triggers of a job
abbrev pub keys_of : Key → List TriggerData → List Key
keys_of job rows = map (λ r. r.spec.key) (filter (λ r. is_eq (key_cmp job r.spec.job)) rows)

-- each trigger's job, with the keys of its triggers
abbrev pub links_of : List TriggerData → List (Key × List Key)
links_of rows = map (λ r. (r.spec.job, keys_of r.spec.job rows)) rows
