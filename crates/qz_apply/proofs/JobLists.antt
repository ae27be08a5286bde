-- Rows that keys find, and whether a job has triggers.
use Rattle.std.proofs.Common.{◌≡◌, Bool, true, false, cond, ◌||◌, List, [], ◌∷◌, length, filter, Option, Some, None, is_some, refl, sym, ap, ◌∙◌, Bor, arith}
use Rattle.std.specs.List.{list_any}
use Rattle.std.specs.List.Sorted.{IsPermutation}
use Rattle.std.specs.Iterator.{YieldsFirstRef}
use Rattle.std.proofs.lemmas.List.Sorted.{length_permutation}
use Rattle.qz_types.specs.Rows.{JobData, TriggerData}
use Rattle.qz_types.specs.declared.keys.Key.{Key}
use Rattle.qz_types.specs.Words.{job_of, trigger_of}
use Rattle.qz_tables.specs.Jobs.{triggers_of}
use Rattle.qz_model.specs.Tests.{is_trigger_of}
use Rattle.qz_model.proofs.RowLaws.{same_key-exact, job_of-key, trigger_of-key}

pub key_of_trigger : (k : Key) (t : TriggerData) (rows : List TriggerData) → trigger_of k rows ≡ Some t → k ≡ t.spec.key
key_of_trigger k t rows found = same_key-exact k t.spec.key (trigger_of-key k t rows found)

pub key_of_job : (k : Key) (j : JobData) (rows : List JobData) → job_of k rows ≡ Some j → k ≡ j.key
key_of_job k j rows found = same_key-exact k j.key (job_of-key k j rows found)

-- there is a trigger in the list
abbrev pub is_filled : List TriggerData → Bool
is_filled [] = false
is_filled (t ∷ ts) = true

pub yields_some : (left after : List TriggerData) (o : Option (Bor TriggerData)) → YieldsFirstRef (λ s. s) left o after → is_some o ≡ is_filled left
yields_some left after None goes = sym (ap is_filled goes.0)
yields_some left after (Some t) goes = sym (ap is_filled goes)

any_is_filled : (p : TriggerData → Bool) (ts : List TriggerData) → list_any p ts ≡ is_filled (filter p ts)
any_is_filled p [] = refl
any_is_filled p (t ∷ ts) = elim (p t) as (λ b. (b || list_any p ts) ≡ is_filled (cond b (t ∷ filter p ts) (filter p ts))) [ true ↦ refl | false ↦ any_is_filled p ts ]

filled_by_length : (xs ys : List TriggerData) → length ys ≡ length xs → is_filled ys ≡ is_filled xs
filled_by_length [] [] same = refl
filled_by_length [] (y ∷ ys) same = absurd (omega arith)
filled_by_length (x ∷ xs) [] same = absurd (omega arith)
filled_by_length (x ∷ xs) (y ∷ ys) same = refl

pub any_filled : (job : Key) (ts left : List TriggerData) → IsPermutation (triggers_of job ts) left → is_filled left ≡ list_any (is_trigger_of job) ts
unfolding triggers_of
any_filled job ts left same =
    filled_by_length (filter (is_trigger_of job) ts) left (length_permutation _ left same) ∙ sym (any_is_filled (is_trigger_of job) ts)
