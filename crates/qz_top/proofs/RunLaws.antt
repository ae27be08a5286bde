-- What a run of steps tells of the stores: the disks' counts of faults, whether they are open, and a plain scheduler's
-- replies.
use Rattle.std.proofs.Common.{◌≡◌, ◌⊎◌, inl, inr, List, [], ◌∷◌, ◌++◌, length, take, Bool, true, false, refl, sym, ap, subst, ◌∙◌, arith}
use Rattle.std.specs.List.{AllByRecursion}
use Rattle.qz_civil.specs.Causes.{Rose}
use Rattle.qz_steps.specs.declared.steps.StepReply.{StepReply}
use Rattle.qz_steps.specs.declared.steps.StepReply.TheVariants as reply
use Rattle.qz_cluster.specs.Script.{TimedStep, plain_reply, plain_replies, effect_in, after_step, step_replies}
use Rattle.qz_cluster.specs.Steps.{ClusterState, is_closed, StepCase, IsStep}
use Rattle.qz_cluster.proofs.Closings.{IsReady, ready_open, step_ready, fault_rose}
use Rattle.qz_cluster.proofs.Counts.{NoneFalls, step_counts}
use Rattle.qz_cluster.proofs.Plain.{step_plain}
use Rattle.qz_cluster.proofs.SameScripts.{IsSameScript, same_replies}
use Rattle.qz_cluster.proofs.Sound.{step_sound}
use Rattle.qz_open.specs.Runs.{StepsDone}
use Rattle.qz_top.specs.Calls.{script_of, HasSoundStores, IsOnTold}
use Rattle.qz_top.specs.Trails.{last_of, is_fault, IsNoFault}

-- which replies are faults
no_fault_is : (r : StepReply) → is_fault r ≡ false → r ≡ reply.Fault → ⊥
no_fault_is r sound is = let bad : true ≡ false = sym (ap is_fault is) ∙ sound in cc

pub fault_is : (r : StepReply) → is_fault r ≡ true → r ≡ reply.Fault
fault_is reply.Fault is = refl
fault_is (reply.Ok x) is = absurd cc
fault_is (reply.Refused x) is = absurd cc
fault_is reply.Closed is = absurd cc
fault_is reply.Stopped is = absurd cc
fault_is reply.Restarted is = absurd cc
fault_is (reply.Shown s) is = absurd cc
fault_is (reply.Marked m) is = absurd cc
fault_is (reply.Room room) is = absurd cc

-- The counts of faults.

pub run_counts : (honest : Type 0) (S : ClusterState) (ts : List TimedStep) (rs : List StepReply) (states : List ClusterState) → StepsDone honest S ts rs states → NoneFalls S (last_of S states)
run_counts honest S [] [] [] p = (omega arith, omega arith)
run_counts honest S (t ∷ ts) (r ∷ rs) (S' ∷ states) p =
    let one = step_counts honest t r S S' p.0.case in
    let more = run_counts honest S' ts rs states p.1 in
    (omega (arith, one.0, more.0), omega (arith, one.1, more.1))
run_counts honest S [] (r ∷ rs) states p = absurd p
run_counts honest S [] [] (x ∷ states) p = absurd p
run_counts honest S (t ∷ ts) [] states p = absurd p
run_counts honest S (t ∷ ts) (r ∷ rs) [] p = absurd p

-- Whether the stores are open.

-- one of both counts rose
abbrev pub OneRose : ClusterState → ClusterState → Type 0
OneRose S S' = Rose S.triggers.faults S'.triggers.faults ⊎ Rose S.states.faults S'.states.faults

pub rose_then : (S S' S'' : ClusterState) → OneRose S S' → NoneFalls S' S'' → OneRose S S''
rose_then S S' S'' (inl rose) later = inl (omega (arith, rose, later.0))
rose_then S S' S'' (inr rose) later = inr (omega (arith, rose, later.1))

pub then_rose : (S S' S'' : ClusterState) → NoneFalls S S' → OneRose S' S'' → OneRose S S''
then_rose S S' S'' earlier (inl rose) = inl (omega (arith, earlier.0, rose))
then_rose S S' S'' earlier (inr rose) = inr (omega (arith, earlier.1, rose))

faulty_step : (honest : Type 0) (t : TimedStep) (r : StepReply) (S S' : ClusterState) → StepCase honest t r S S' → is_fault r ≡ true → OneRose S S'
faulty_step honest t r S S' case is = fault_rose honest t S S' (subst (λ (x : StepReply). StepCase honest t x S S') (fault_is r is) case)

closes_at : (honest : Type 0) (t : TimedStep) (r : StepReply) (S S' last : ClusterState) (b : Bool) → is_fault r ≡ b → StepCase honest t r S S' → IsReady S → NoneFalls S' last
    → (IsReady S' → OneRose S' last) → OneRose S last
closes_at honest t r S S' last true is case ready later rest = rose_then S S' last (faulty_step honest t r S S' case is) later
closes_at honest t r S S' last false is case ready later rest =
    then_rose S S' last (step_counts honest t r S S' case) (rest (step_ready honest t r S S' case ready (no_fault_is r is)))

-- Where both stores were open and one is closed, a disk failed.
pub run_closes : (honest : Type 0) (S : ClusterState) (ts : List TimedStep) (rs : List StepReply) (states : List ClusterState) → StepsDone honest S ts rs states
    → IsReady S → is_closed (last_of S states) ≡ true → OneRose S (last_of S states)
run_closes honest S [] [] [] p ready now = let bad : true ≡ false = sym now ∙ ready_open S ready in absurd cc
run_closes honest S (t ∷ ts) (r ∷ rs) (S' ∷ states) p ready now =
    closes_at honest t r S S' (last_of S' states) (is_fault r) refl p.0.case ready (run_counts honest S' ts rs states p.1) (λ then_ready. run_closes honest S' ts rs states p.1 then_ready now)
run_closes honest S [] (r ∷ rs) states p ready now = absurd p
run_closes honest S [] [] (x ∷ states) p ready now = absurd p
run_closes honest S (t ∷ ts) [] states p ready now = absurd p
run_closes honest S (t ∷ ts) (r ∷ rs) [] p ready now = absurd p

-- Stores that are open stay so without a fault.
pub run_ready : (honest : Type 0) (S : ClusterState) (ts : List TimedStep) (rs : List StepReply) (states : List ClusterState) → StepsDone honest S ts rs states
    → IsReady S → AllByRecursion IsNoFault rs → IsReady (last_of S states)
run_ready honest S [] [] [] p ready no_fault = ready
run_ready honest S (t ∷ ts) (r ∷ rs) (S' ∷ states) p ready no_fault =
    run_ready honest S' ts rs states p.1 (step_ready honest t r S S' p.0.case ready (no_fault_is r no_fault.0)) no_fault.1
run_ready honest S [] (r ∷ rs) states p ready no_fault = absurd p
run_ready honest S [] [] (x ∷ states) p ready no_fault = absurd p
run_ready honest S (t ∷ ts) [] states p ready no_fault = absurd p
run_ready honest S (t ∷ ts) (r ∷ rs) [] p ready no_fault = absurd p

-- A plain scheduler's replies.

plain_here : (honest : Type 0) (S S' : ClusterState) (t : TimedStep) (r : StepReply) → IsStep honest t r S S' → IsReady S → IsNoFault r → IsOnTold honest t
    → (plain_reply t.step r ≡ (effect_in (script_of S) t).reply) × IsSameScript (script_of S') (after_step (script_of S) t)
plain_here honest S S' t r step ready no_fault on_honest =
    let p = step_plain honest t.step t.at r S S' step.case ready (no_fault_is r no_fault) on_honest in
    (p.reply, record { tables = p.tables; rows = p.rows; held = p.held })

-- Without a fault the replies are those of a plain scheduler, but for what the disks say of themselves.
pub run_plain : (honest : Type 0) (S : ClusterState) (ts : List TimedStep) (rs : List StepReply) (states : List ClusterState) → StepsDone honest S ts rs states
    → IsReady S → AllByRecursion (IsOnTold honest) ts → AllByRecursion IsNoFault rs → plain_replies ts rs ≡ step_replies (script_of S) ts
run_plain honest S [] [] [] p ready on_honest no_fault = refl
run_plain honest S (t ∷ ts) (r ∷ rs) (S' ∷ states) p ready on_honest no_fault =
    let one = plain_here honest S S' t r p.0 ready no_fault.0 on_honest.0 in
    let more = run_plain honest S' ts rs states p.1 (step_ready honest t r S S' p.0.case ready (no_fault_is r no_fault.0)) on_honest.1 no_fault.1 in
    ap (λ x. x ∷ plain_replies ts rs) one.0 ∙ ap (λ xs. (effect_in (script_of S) t).reply ∷ xs) (more ∙ same_replies (script_of S') (after_step (script_of S) t) ts one.1)
run_plain honest S [] (r ∷ rs) states p ready on_honest no_fault = absurd p
run_plain honest S [] [] (x ∷ states) p ready on_honest no_fault = absurd p
run_plain honest S (t ∷ ts) [] states p ready on_honest no_fault = absurd p
run_plain honest S (t ∷ ts) (r ∷ rs) [] p ready on_honest no_fault = absurd p

-- Before the first fault they are.
pub run_plain_first : (honest : Type 0) (S : ClusterState) (ts : List TimedStep) (first rest : List StepReply) (states : List ClusterState) → StepsDone honest S ts (first ++ rest) states
    → IsReady S → AllByRecursion (IsOnTold honest) (take (length first) ts) → AllByRecursion IsNoFault first → plain_replies ts first ≡ take (length first) (step_replies (script_of S) ts)
run_plain_first honest S [] [] rest states p ready on_honest no_fault = refl
run_plain_first honest S (t ∷ ts) [] rest states p ready on_honest no_fault = refl
run_plain_first honest S (t ∷ ts) (r ∷ first) rest (S' ∷ states) p ready on_honest no_fault =
    let one = plain_here honest S S' t r p.0 ready no_fault.0 on_honest.0 in
    let more = run_plain_first honest S' ts first rest states p.1 (step_ready honest t r S S' p.0.case ready (no_fault_is r no_fault.0)) on_honest.1 no_fault.1 in
    ap (λ x. x ∷ plain_replies ts first) one.0 ∙ ap (λ xs. (effect_in (script_of S) t).reply ∷ xs) (more ∙ ap (take (length first)) (same_replies (script_of S') (after_step (script_of S) t) ts one.1))
run_plain_first honest S [] (r ∷ first) rest states p ready on_honest no_fault = absurd p
run_plain_first honest S (t ∷ ts) (r ∷ first) rest [] p ready on_honest no_fault = absurd p

-- Legal histories, valid tables and valid rows.

-- Each state of a run that began with sound stores has them.
pub run_sound : (honest : Type 0) (S : ClusterState) (ts : List TimedStep) (rs : List StepReply) (states : List ClusterState) → StepsDone honest S ts rs states
    → HasSoundStores S → AllByRecursion HasSoundStores states
run_sound honest S [] [] [] p sound = tt
run_sound honest S (t ∷ ts) (r ∷ rs) (S' ∷ states) p sound = let next = step_sound honest t r S S' p.0 sound in (next, run_sound honest S' ts rs states p.1 next)
run_sound honest S [] (r ∷ rs) states p sound = absurd p
run_sound honest S [] [] (x ∷ states) p sound = absurd p
run_sound honest S (t ∷ ts) [] states p sound = absurd p
run_sound honest S (t ∷ ts) (r ∷ rs) [] p sound = absurd p

pub last_sound : (S : ClusterState) (states : List ClusterState) → HasSoundStores S → AllByRecursion HasSoundStores states → HasSoundStores (last_of S states)
last_sound S [] sound all = sound
last_sound S (S' ∷ states) sound all = last_sound S' states all.0 all.1
