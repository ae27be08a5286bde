-- The lists with one command more.
use Rattle.std.proofs.Common.{◌≡◌, ℕ, ◌+◌, List, [], ◌∷◌, ◌++◌, false, true, All, IsTrue, length, refl, sym, ap, ◌∙◌, subst, add-one, append_assoc, arith}
use Rattle.std.proofs.lemmas.List.{length-append}
use Rattle.std.proofs.lemmas.List.Elements.{All-append, All-cons, All-nil}
use Rattle.qz_steps.specs.Steps.{is_step}
use Rattle.qz_steps.specs.declared.steps.Step.TheVariants.{Client}
use Rattle.qz_types.specs.Rows.{JobData, is_trigger_spec}
use Rattle.qz_types.specs.declared.commands.Command.{Command}
use Rattle.qz_types.specs.declared.commands.Command.TheVariants.{AddJob, AddTrigger}
use Rattle.qz_types.specs.declared.triggers.TriggerSpec.{TriggerSpec}
use Rattle.qz_generator.specs.declared.choices.Choice.{Choice}
use Rattle.qz_generator.specs.Choices.{choice_at, after_choice}
use Rattle.qz_generator.specs.Commands.{first_jobs, first_triggers, job_of, trigger_of, state_before}

pub next_job : (old now new : List Command) (seed number state : ℕ) (choice : Choice) (job : JobData) → now ≡ old ++ first_jobs number seed → state ≡ state_before number seed → choice ≡ choice_at state → job ≡ job_of number choice → new ≡ now ++ AddJob job false ∷ [] → new ≡ old ++ first_jobs (number + 1) seed
next_job old now new seed number state choice job were before drawn made pushed = rw add-one
    (pushed ∙ ap (λ (xs : List Command). xs ++ AddJob job false ∷ []) were ∙ append_assoc old (first_jobs number seed) (AddJob job false ∷ [])
    ∙ ap (λ (j : JobData). old ++ (first_jobs number seed ++ AddJob j false ∷ [])) (made ∙ ap (job_of number) (drawn ∙ ap choice_at before)))

pub next_trigger : (old now new : List Command) (seed number state : ℕ) (choice : Choice) (spec : TriggerSpec) → now ≡ old ++ first_triggers number seed → state ≡ state_before number seed → choice ≡ choice_at state → spec ≡ trigger_of number choice → new ≡ now ++ AddTrigger spec false ∷ [] → new ≡ old ++ first_triggers (number + 1) seed
next_trigger old now new seed number state choice spec were before drawn made pushed = rw add-one
    (pushed ∙ ap (λ (xs : List Command). xs ++ AddTrigger spec false ∷ []) were ∙ append_assoc old (first_triggers number seed) (AddTrigger spec false ∷ [])
    ∙ ap (λ (s : TriggerSpec). old ++ (first_triggers number seed ++ AddTrigger s false ∷ [])) (made ∙ ap (trigger_of number) (drawn ∙ ap choice_at before)))

pub next_draws : (seed number state more : ℕ) → state ≡ state_before number seed → more ≡ after_choice state → more ≡ state_before (number + 1) seed
next_draws seed number state more before drawn = rw add-one (drawn ∙ ap after_choice before)

pub all_valid : (now new : List Command) (c : Command) → new ≡ now ++ c ∷ [] → is_step (Client c) ≡ true → All (λ c. IsTrue (is_step (Client c))) now → All (λ c. IsTrue (is_step (Client c))) new
all_valid now new c pushed valid all =
    subst (All (λ (x : Command). IsTrue (is_step (Client x)))) (sym pushed)
    (All-append (λ (x : Command). IsTrue (is_step (Client x))) now (c ∷ []) all (All-cons (λ (x : Command). IsTrue (is_step (Client x))) c [] valid (All-nil (λ (x : Command). IsTrue (is_step (Client x))))))

-- a trigger within its limits is one that a client may add
pub trigger_valid : (spec : TriggerSpec) → is_trigger_spec spec ≡ true → is_step (Client (AddTrigger spec false)) ≡ true
trigger_valid spec valid = rw valid refl

pub one_longer : (old now new : List Command) (c : Command) (n : ℕ) → new ≡ now ++ c ∷ [] → length now ≡ length old + n → length new ≡ length old + (n + 1)
one_longer old now new c n pushed long = omega (arith, ap length pushed, length-append now (c ∷ []))
