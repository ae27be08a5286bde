-- A command that is a leave.
use Rattle.std.proofs.Common.{◌≡◌, true, refl, subst}
use Rattle.std.specs.Prelude.{ℤ, IfOk, IfErr}
use Rattle.std.specs.declared.result.Result.{Result}
use Rattle.qz_types.specs.Rows.{MemberData}
use Rattle.qz_types.specs.declared.commands.Command.{Command}
use Rattle.qz_types.specs.declared.commands.Command.TheVariants as command
use Rattle.qz_types.specs.declared.commands.Actor.TheVariants as actor
use Rattle.qz_trigger_store.specs.Entries.{TriggerState, trigger_entry}
use Rattle.qz_steps.specs.declared.steps.StepReply.{StepReply}
use Rattle.qz_cluster.specs.Script.{entry_of}
use Rattle.qz_cluster.specs.Submitting.{Submitted, Unsubmitted, is_leave}
use Rattle.qz_cluster.specs.declared.errors.StepEnd.{StepEnd}

is_leaving : (c : Command) → is_leave c ≡ true → command.Leave ≡ c
is_leaving command.Leave is = refl
is_leaving (command.AddJob job replace) is = cc
is_leaving (command.DeleteJob key) is = cc
is_leaving (command.AddTrigger spec replace) is = cc
is_leaving (command.DeleteTrigger key) is = cc
is_leaving (command.PauseTrigger key) is = cc
is_leaving (command.ResumeTrigger key) is = cc
is_leaving (command.PauseGroup group) is = cc
is_leaving (command.ResumeGroup group) is = cc
is_leaving (command.AddCalendar calendar replace) is = cc
is_leaving (command.DeleteCalendar name) is = cc
is_leaving (command.AddZone zone) is = cc
is_leaving (command.DeleteZone name) is = cc
is_leaving (command.TriggerNow job) is = cc
is_leaving (command.Threshold ms) is = cc
is_leaving (command.Join node) is = cc
is_leaving (command.Acquire no_later window max) is = cc
is_leaving (command.Release entry) is = cc
is_leaving (command.Fire entry) is = cc
is_leaving (command.Complete entry code) is = cc
is_leaving command.Misfires is = cc
is_leaving (command.Recover node) is = cc
is_leaving command.Upgrade is = cc
is_leaving (command.ResetTrigger key) is = cc
is_leaving (command.PauseJobGroup group) is = cc
is_leaving (command.ResumeJobGroup group) is = cc

pub left : (me : MemberData) (c : Command) (at : ℤ) (result : Result StepReply StepEnd) (s t : TriggerState) → is_leave c ≡ true
    → IfOk result (λ r. Submitted (entry_of (actor.Node me) command.Leave at) r s t) → IfOk result (λ r. Submitted (entry_of (actor.Node me) c at) r s t)
left me c at result s t is way = subst (λ x. IfOk result (λ r. Submitted (entry_of (actor.Node me) x at) r s t)) (is_leaving c is) way

pub left_cut : (me : MemberData) (c : Command) (at : ℤ) (result : Result StepReply StepEnd) (s t : TriggerState) → is_leave c ≡ true
    → IfErr result (λ e. Unsubmitted trigger_entry (entry_of (actor.Node me) command.Leave at) e s t) → IfErr result (λ e. Unsubmitted trigger_entry (entry_of (actor.Node me) c at) e s t)
left_cut me c at result s t is way = subst (λ x. IfErr result (λ e. Unsubmitted trigger_entry (entry_of (actor.Node me) x at) e s t)) (is_leaving c is) way
