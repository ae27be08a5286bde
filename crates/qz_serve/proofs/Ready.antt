-- A scheduler thread can always step on.
use Rattle.std.proofs.Common.{◌≡◌, ◌+ℤ◌, ◌||◌, pos, ℕ, ℤ, Bool, true, false, List, [], ◌∷◌, if◌then◌else◌, refl, subst}
use Rattle.std.specs.Prelude.{Option, Some, None, int_le, Err}
use Rattle.std.specs.Int.{int_min}
use Rattle.qz_types.specs.declared.commands.Code.{Code}
use Rattle.qz_types.specs.declared.commands.Command.{Command}
use Rattle.qz_types.specs.declared.commands.Command.TheVariants as asks
use Rattle.qz_types.specs.declared.errors.SubmitError.{SubmitError}
use Rattle.qz_types.specs.declared.errors.SubmitError.TheVariants as submit
use Rattle.qz_types.specs.declared.replies.MovedRow.{MovedRow}
use Rattle.qz_types.specs.declared.replies.Reply.{Reply}
use Rattle.qz_types.specs.declared.replies.Reply.TheVariants as reply
use Rattle.qz_types.specs.declared.replies.Taken.{Taken}
use Rattle.qz_node.specs.declared.contexts.JobContext.{JobContext}
use Rattle.qz_node.specs.declared.turns.Held.{Held}
use Rattle.qz_node.specs.declared.turns.Idle.{Idle}
use Rattle.qz_node.specs.declared.turns.Idle.TheVariants as idle
use Rattle.qz_node.specs.declared.turns.Want.{Want}
use Rattle.qz_node.specs.declared.turns.Want.TheVariants as want
use Rattle.qz_node.specs.Turns.{TurnData, wanted, wanted_idle, wanted_with, learnt_moved, learnt_taken, learnt_reply, refused_with, ends_at_refusal, ended, is_fenced}
use Rattle.qz_node.specs.Hubs.{learnt_answer, IsReplyTo}
use Rattle.qz_serve.specs.Asking.{CanStepAt, IsReady}
use Rattle.qz_serve.specs.Entries.{IsPlain}
use Rattle.qz_serve.specs.Ran.{context_after}

-- What is wanted can be done.

idle_can : (until at : ℤ) (i : Idle) (c : Option JobContext) → CanStepAt (wanted_idle until i at) c
idle_can until at idle.Misfires c = tt
idle_can until at idle.Acquire c = tt
idle_can until at idle.Rest c = by (int_le until at) where
  by : (b : Bool) → CanStepAt (if b then want.End else want.Rest (int_min until (at +ℤ pos 1000))) c
  by true = tt
  by false = tt

with_can : (t : TurnData) (at : ℤ) (o : Option Held) (c : Option JobContext) → t.held ≡ o → IsReady t c → CanStepAt (wanted_with o t at) c
with_can t at None c is ready = idle_can t.until at t.idle c
with_can t at (Some held) c is ready = subst (λ (o : Option Held). IsReady (record t { held = o }) c) is ready

pub can_step : (t : TurnData) (at : ℤ) (c : Option JobContext) → IsReady t c → CanStepAt (wanted t at) c
can_step t at c ready = by t.fenced where
  by : (b : Bool) → CanStepAt (if b then want.End else wanted_with t.held t at) c
  by true = tt
  by false = with_can t at t.held c refl ready

-- no Complete is wanted at the head of a step
pub no_complete : (t : TurnData) (at : ℤ) (c : Option JobContext) (entry : ℕ) (code : Code) → IsReady t c → wanted t at ≡ want.Complete entry code → ⊥
no_complete t at c entry code ready is = subst (λ (w : Want). CanStepAt w c) is (can_step t at c ready)

-- what is to be executed has its context
pub has_context : (t : TurnData) (at : ℤ) (c : Option JobContext) (entry : ℕ) → IsReady t c → wanted t at ≡ want.Execute entry → c ≡ None → ⊥
has_context t at c entry ready is none = subst (λ (o : Option JobContext). CanStepAt (want.Execute entry) o) none (subst (λ (w : Want). CanStepAt w c) is (can_step t at c ready))

-- It stays so after each answer.

module _ (t : TurnData) (c : Option JobContext) where
  moved_ready : (moved : List MovedRow) → IsReady t c → IsReady (learnt_moved t moved) c
  moved_ready [] ready = ready
  moved_ready (m ∷ more) ready = ready

  taken_ready : (taken : List Taken) → IsReady t c → IsReady (learnt_taken t taken) c
  taken_ready [] ready = ready
  taken_ready (one ∷ more) ready = tt

  -- after an answer to what ends no execution
  pub plain_ready : (command : Command) (r : Reply) → IsPlain command → IsReplyTo command r → IsReady t c → IsReady (learnt_reply t r) (context_after c r)
  plain_ready asks.Misfires (reply.Misfired moved) plain fits ready = moved_ready moved ready
  plain_ready asks.Misfires other plain fits ready = absurd fits
  plain_ready (asks.Acquire no_later window max) (reply.Acquired taken) plain fits ready = taken_ready taken ready
  plain_ready (asks.Acquire no_later window max) other plain fits ready = absurd fits
  plain_ready (asks.Fire entry) (reply.Fired of scheduled fired next trigger job) plain fits ready = tt
  plain_ready (asks.Fire entry) other plain fits ready = absurd fits
  plain_ready command r plain fits ready = absurd plain

refused_ready : (t : TurnData) (c : Option JobContext) (o : Option Held) → IsReady t c → IsReady (refused_with o t) c
refused_ready t c None ready = ready
refused_ready t c (Some held) ready = by (ends_at_refusal held.last) where
  by : (b : Bool) → IsReady (if b then ended t else t) c
  by true = tt
  by false = ready

-- after an error
pub error_ready : (t : TurnData) (c : Option JobContext) (error : SubmitError) → IsReady t c → IsReady (learnt_answer t (Err error)) c
error_ready t c (submit.Refused x) ready = refused_ready (record t { fenced = is_fenced x || t.fenced }) c t.held ready
error_ready t c other ready = ready

-- after the answer to a Complete
pub completed_ready : (t : TurnData) (told : JobContext) (entry : ℕ) (code : Code) (r : Reply) → IsReplyTo (asks.Complete entry code) r → IsReady (learnt_reply t r) (context_after (Some told) r)
completed_ready t told entry code (reply.Completed of) fits = tt
completed_ready t told entry code (reply.Again of) fits = tt
completed_ready t told entry code other fits = absurd fits
