-- Recovery triggers are valid.
use Rattle.std.proofs.Common.{◌≡◌, ℕ, ◌+◌, ◌++◌, ◌<◌, ◌≤◌, ◌^◌, ◌∷◌, ℤ, true, false, ◌&&◌, List, lit<, Some, None, codes, length, length-append, refl, ap, ◌∙◌, arith}
use Rattle.std.proofs.lemmas.Bool.{and_parts}
use Rattle.std.proofs.lemmas.Bool.Decides.{nat_tests}
use Rattle.std.proofs.lemmas.Fmt.{length-decimal-le}
use Rattle.std.specs.Fmt.{decimal}
use Rattle.qz_civil.specs.Timings.{is_name, is_span}
use Rattle.qz_types.specs.Rows.{TriggerData, FiredData, is_node, is_key, is_fired, is_trigger_spec}
use Rattle.qz_types.specs.declared.triggers.TriggerSpec.{TriggerSpec}
use Rattle.qz_types.specs.States.{first_state}
use Rattle.qz_types.specs.Tables.{SchedulerTables}
use Rattle.qz_model.specs.Recovery.{recovery_trigger}
use Rattle.qz_model.specs.Triggers.{is_in_paused}

name_of_length : (s : List ℕ) (n : ℕ) → length s ≡ n → 0 < n → n ≤ 200 → is_name s ≡ true
name_of_length s n is some few = grind (arith, nat_tests)

node_length : (s : List ℕ) → is_node s ≡ true → length s ≤ 120
node_length s valid = grind (arith, nat_tests)

-- the name of a recovery trigger is short enough
recovery_name : (node : List ℕ) (n : ℕ) → is_node node ≡ true → n < 2 ^ 64 → is_name (codes "recover_" ++ node ++ 95 ∷ decimal n) ≡ true
recovery_name node n valid small =
    let all : length (codes "recover_" ++ node ++ 95 ∷ decimal n) ≡ 8 + (length node + (1 + length (decimal n))) =
    omega (arith, length-append (codes "recover_") (node ++ 95 ∷ decimal n), length-append node (95 ∷ decimal n)) in
    let digits : length (decimal n) ≤ 20 = length-decimal-le 20 n (lit< tt) (omega arith) small in
    name_of_length (codes "recover_" ++ node ++ 95 ∷ decimal n) _ all (omega arith) (omega (arith, node_length node valid))

-- the trigger of an execution is valid
pub recovery_is_spec : (groups job_groups : List (List ℕ)) (f : FiredData) → is_fired f ≡ true → f.entry < 2 ^ 64 → is_span f.scheduled ≡ true → is_trigger_spec (recovery_trigger groups job_groups f).spec ≡ true
unfolding recovery_trigger
recovery_is_spec groups job_groups f valid small span =
    let outer = and_parts (is_node f.node && is_key f.trigger) (is_key f.job) valid in
    let inner = and_parts (is_node f.node) (is_key f.trigger) outer.0 in
    rw (recovery_name f.node f.entry inner.0 small, outer.1, span) refl

-- a row that is made of its parts
pub recovery_row_is : (T : SchedulerTables) (f : FiredData) (t : TriggerData) (s : TriggerSpec) (next : ℤ) → s ≡ (recovery_trigger T.paused_groups T.paused_job_groups f).spec → next ≡ f.scheduled
    → t ≡ record { spec = s; next = Some next; prev = None; times = 0; state = first_state (is_in_paused T s) false } → t ≡ recovery_trigger T.paused_groups T.paused_job_groups f
unfolding recovery_trigger is_in_paused
recovery_row_is T f t s next spec time is =
    is ∙ ap (λ (n : ℤ). record { spec = s; next = Some n; prev = None; times = 0; state = first_state (is_in_paused T s) false }) time
    ∙ ap (λ (x : TriggerSpec). record { spec = x; next = Some f.scheduled; prev = None; times = 0; state = first_state (is_in_paused T x) false }) spec
