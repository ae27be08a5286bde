-- What a store of jobs answers.
use Rattle.std.specs.Prelude.{⊤, ◌≡◌, List, [], ◌∷◌, ◌++◌, length, nat_lt, cond, Ok, Err}
use Rattle.std.specs.declared.result.Result.{Result}
use Rattle.std.proofs.Common.{append-nil}
use Rattle.std.proofs.Props.{props}
use mathlib.Core.List.{IsPrefix}
use Rattle.qz_types.specs.declared.replies.Refusal.{Refusal}
use Rattle.qz_types.specs.declared.replies.Refusal.TheVariants as refusal
use Rattle.qz_stores.specs.Stores.{EntryKind}
use Rattle.qz_shared_tests.specs.declared.jobs.Added.{Added}

-- a job whose number was reached exists; else the entry is accepted
abbrev pub answer_of : List Added → Added → Result ⊤ Refusal
answer_of h e = cond (nat_lt e.job (length h)) (Err refusal.JobExists) (Ok tt)

abbrev pub job_kind : EntryKind (List Added) Added ⊤
job_kind = record { answer = answer_of; with_entry = λ e h. h ++ e ∷ []; size = λ e. 8; IsWritten = λ e. ⊤ }

pub lists_once : (h i : List Added) → IsProp (h ≡ i)
lists_once h i = hlevel props

pub goes_nowhere : (h : List Added) → IsPrefix h h
goes_nowhere h = ([], append-nil h)
