-- What a transaction of the tables is to their kind of store.
use Rattle.std.proofs.Common.{◌≡◌, refl, sym, ap, subst, ◌∙◌, ℕ}
use Rattle.std.specs.Prelude.{Result, Option, Some, None, Ok, Err, IsOk, IfErr, MatchOption}
use Rattle.std.specs.declared.result.Result.{Result as Answer}
use Rattle.std.proofs.lemmas.Result.{IfErr-weaker}
use Rattle.qz_types.specs.Entries.{EntryData}
use Rattle.qz_types.specs.Outcomes.{Outcome, accepted, refused, IsAccepted, IsErrorOf}
use Rattle.qz_types.specs.Tables.{SchedulerTables, empty}
use Rattle.qz_types.specs.declared.errors.StepRefused.{StepRefused}
use Rattle.qz_types.specs.declared.errors.StepRefused.TheVariants as step
use Rattle.qz_types.specs.declared.replies.Refusal.{Refusal}
use Rattle.qz_types.specs.declared.replies.Reply.{Reply}
use Rattle.qz_codec.specs.Reading.{Answers}
use Rattle.qz_codec.specs.declared.errors.ReadError.{ReadError}
use Rattle.qz_codec.specs.declared.errors.ReadError.TheVariants as errors
use Rattle.qz_model.specs.History.{tables_left}
use Rattle.qz_model.specs.Invariant.{TablesValid}
use Rattle.qz_model.specs.Transaction.{transaction}
use Rattle.qz_model.proofs.Kept.{valid-empty}
use Rattle.qz_stores.specs.Kinds.{IsRefusalOf, IsErrorOf as IsErrorOfKind}
use Rattle.qz_trigger_store.specs.Entries.{answer_of}
use Rattle.qz_trigger_store.specs.Kinds.{trigger_kind}

pub passes : (o : Outcome) → IsAccepted o → IsOk (answer_of o)
passes (accepted T r) is = refl
passes (refused x) is = absurd is

pub accepted_by : (o : Outcome) → IsOk (answer_of o) → IsAccepted o
accepted_by (accepted T r) is = tt
accepted_by (refused x) is = absurd cc

pub passes_as : (o : Outcome) (T : SchedulerTables) (r : Reply) → o ≡ accepted T r → IsOk (answer_of o)
passes_as o T r is = subst (λ (x : Outcome). IsOk (answer_of x)) (sym is) refl

pub answered : (o : Outcome) (T : SchedulerTables) (r : Reply) → o ≡ accepted T r → answer_of o ≡ Ok r
answered o T r is = ap answer_of is

pub left_as : (T U : SchedulerTables) (o : Outcome) (r : Reply) → o ≡ accepted U r → U ≡ tables_left T o
left_as T U o r is = sym (ap (tables_left T) is)

error_by : (T : SchedulerTables) (e : EntryData) (x : StepRefused) → IsErrorOf (transaction T e) x → IsErrorOfKind trigger_kind T e x
error_by T e (step.Refused r) is = ap answer_of is
error_by T e step.NoMemory is = passes (transaction T e) is

pub error_as : {A : Type 0} (T : SchedulerTables) (e : EntryData) (result : Answer A StepRefused) → IfErr result (IsErrorOf (transaction T e)) → IfErr result (IsErrorOfKind trigger_kind T e)
error_as T e result = IfErr-weaker result _ _ (error_by T e)

pub refusal_as : (T : SchedulerTables) (e : EntryData) (o : Option Refusal) → MatchOption o (IsAccepted (transaction T e)) (λ x. transaction T e ≡ refused x) → IsRefusalOf trigger_kind T e o
refusal_as T e None is = passes (transaction T e) is
refusal_as T e (Some x) is = ap answer_of is

-- why a step was refused, where it wasn't for want of memory
pub by_cause : (o : Outcome) (cause : StepRefused) (x : Refusal) → cause ≡ step.Refused x → IsErrorOf o cause → o ≡ refused x
by_cause o cause x is why = subst (IsErrorOf o) is why

-- what reads a record of an entry doesn't call the record bad
not_bad : (place : ℕ) (e : EntryData) → Answers {A = EntryData} (Err (errors.BadRecord place)) (Ok e) → ⊥
not_bad place e is = cc

pub not_read : (x : ReadError) (place : ℕ) (e : EntryData) → x ≡ errors.BadRecord place → Answers {A = EntryData} (Err x) (Ok e) → ⊥
not_read x place e why is = not_bad place e (subst (λ (y : ReadError). Answers {A = EntryData} (Err y) (Ok e)) why is)

-- the entry that a payload is the record of, and it alone, was refused
pub refused_unfit : (T : SchedulerTables) (e f : EntryData) (x : Refusal) → ◌≡◌ {A = Result EntryData ℕ} (Ok e) (Ok f) → transaction T f ≡ refused x → IsOk (answer_of (transaction T e)) → ⊥
refused_unfit T e f x same way =
    let one : e ≡ f = cc in
    λ is. subst IsAccepted (ap (transaction T) one ∙ way) (accepted_by (transaction T e) is)

pub new_valid : (version : ℕ) (T : SchedulerTables) → T ≡ empty version → ∥ TablesValid T ∥₁
new_valid version T is = subst (λ (U : SchedulerTables). ∥ TablesValid U ∥₁) (sym is) ∣ valid-empty version ∣₁
