-- A reply of the trigger store fits the command that it answers.
use Rattle.std.proofs.Common.{◌≡◌, ⊎_elim, ℕ, ◌≤◌, ◌+◌, ◌+ℤ◌, ℤ, List, [], ◌∷◌, length, refl, sym, ap, ◌∙◌, subst, arith, Option, Some, None}
use Rattle.std.specs.Prelude.{Ok}
use Rattle.qz_types.specs.Entries.{EntryData}
use Rattle.qz_types.specs.Outcomes.{Outcome, accepted, refused}
use Rattle.qz_types.specs.Rows.{MemberData, TriggerData}
use Rattle.qz_types.specs.Tables.{SchedulerTables, recorded_moment}
use Rattle.qz_types.specs.declared.commands.Actor.{Actor}
use Rattle.qz_types.specs.declared.commands.Actor.TheVariants.{Client, Node}
use Rattle.qz_types.specs.declared.commands.Code.{Code}
use Rattle.qz_types.specs.declared.commands.Command.{Command}
use Rattle.qz_types.specs.declared.commands.Command.TheVariants as asks
use Rattle.qz_types.specs.declared.replies.Refusal.{Refusal}
use Rattle.qz_types.specs.declared.replies.Reply.{Reply}
use Rattle.qz_types.specs.declared.replies.Reply.TheVariants as reply
use Rattle.qz_model.specs.Acquiring.{acquire_refusal, chosen, taken_from, acquire_each, acquire}
use Rattle.qz_model.specs.Completing.{complete}
use Rattle.qz_model.specs.Firing.{fire}
use Rattle.qz_model.specs.History.{History, replay}
use Rattle.qz_model.specs.Membership.{node_refusal}
use Rattle.qz_model.specs.Misfires.{misfires}
use Rattle.qz_model.specs.Tests.{or_refusal}
use Rattle.qz_model.specs.Transaction.{as_node, by_command, transaction}
use Rattle.qz_model.specs.Upgrading.{version_refusal}
use Rattle.qz_model.proofs.Changes.{passes}
use Rattle.qz_model.proofs.KeptAcquiring.{few_chosen}
use Rattle.qz_node.specs.Hubs.{IsReplyTo}
use Rattle.qz_seen.proofs.Completing.{GoesOn, Ended, completes}
use Rattle.qz_seen.proofs.Firing.{fires}
use Rattle.qz_seen.proofs.Misfiring.{misfires-reply}
use Rattle.qz_stores.specs.Kinds.{unless_refused}
use Rattle.qz_trigger_store.specs.Entries.{answer_of, trigger_entry}

-- as many are listed as were taken
taken_length : (entry : ℕ) (ts : List TriggerData) → length (taken_from entry ts) ≡ length ts
taken_length entry [] = refl
taken_length entry (t ∷ ts) = let more = taken_length (entry + 1) ts in omega arith

module _ (T U : SchedulerTables) (m : ℤ) (r : Reply) where
  acquired_fits : (me : MemberData) (no_later window : ℤ) (max : ℕ) → acquire T m me no_later window max ≡ accepted U r → IsReplyTo (asks.Acquire no_later window max) r
  acquired_fits me no_later window max e =
      let ts : List TriggerData = chosen T m (no_later +ℤ window) max in
      let way : acquire_each T m me ts ≡ accepted U r = (passes (or_refusal (node_refusal T me) (acquire_refusal T max)) (acquire_each T m me ts) U r e).outcome in
      let is : reply.Acquired (taken_from T.next_entry ts) ≡ r = cc in
      let few : length (taken_from T.next_entry ts) ≤ max = omega (arith, taken_length T.next_entry ts, few_chosen T m (no_later +ℤ window) max) in
      subst (IsReplyTo (asks.Acquire no_later window max)) is few

  completed_fits : (me : MemberData) (entry : ℕ) (code : Code) → complete T m me entry code ≡ accepted U r → IsReplyTo (asks.Complete entry code) r
  completed_fits me entry code e =
      ⊎_elim
      (λ (goes : GoesOn entry code T U m r). subst (IsReplyTo (asks.Complete entry code)) (sym goes.reply) (refl, goes.asked))
      (λ (ended : Ended me entry code T U m r). subst (IsReplyTo (asks.Complete entry code)) (sym ended.reply) refl)
      (completes T U m me entry r code e)

  -- what only a node may ask
  node_fits : (actor : Actor) (command : Command) (does : MemberData → Outcome) → ((me : MemberData) → does me ≡ accepted U r → IsReplyTo command r) → as_node actor does ≡ accepted U r → IsReplyTo command r
  node_fits Client command does fits e = absurd (cc)
  node_fits (Node me) command does fits e = fits me e

  command_fits : (actor : Actor) (command : Command) → by_command T m actor command ≡ accepted U r → IsReplyTo command r
  command_fits actor asks.Misfires e = node_fits actor asks.Misfires (λ me. misfires T m me) (λ me is. subst (IsReplyTo asks.Misfires) (sym (misfires-reply T U m me r is)) tt) e
  command_fits actor (asks.Acquire no_later window max) e =
      node_fits actor (asks.Acquire no_later window max) (λ me. acquire T m me no_later window max) (λ me is. acquired_fits me no_later window max is) e
  command_fits actor (asks.Fire entry) e =
      node_fits actor (asks.Fire entry) (λ me. fire T m me entry) (λ me is. subst (IsReplyTo (asks.Fire entry)) (sym (fires T U m me entry r is).reply) refl) e
  command_fits actor (asks.Complete entry code) e = node_fits actor (asks.Complete entry code) (λ me. complete T m me entry code) (λ me is. completed_fits me entry code is) e
  command_fits actor (asks.AddJob job replace) e = tt
  command_fits actor (asks.DeleteJob key) e = tt
  command_fits actor (asks.AddTrigger spec replace) e = tt
  command_fits actor (asks.DeleteTrigger key) e = tt
  command_fits actor (asks.PauseTrigger key) e = tt
  command_fits actor (asks.ResumeTrigger key) e = tt
  command_fits actor (asks.PauseGroup group) e = tt
  command_fits actor (asks.ResumeGroup group) e = tt
  command_fits actor (asks.AddCalendar calendar replace) e = tt
  command_fits actor (asks.DeleteCalendar name) e = tt
  command_fits actor (asks.AddZone zone) e = tt
  command_fits actor (asks.DeleteZone name) e = tt
  command_fits actor (asks.TriggerNow job) e = tt
  command_fits actor (asks.Threshold ms) e = tt
  command_fits actor (asks.Join node) e = tt
  command_fits actor asks.Leave e = tt
  command_fits actor (asks.Release entry) e = tt
  command_fits actor (asks.Recover evidence) e = tt
  command_fits actor asks.Upgrade e = tt
  command_fits actor (asks.ResetTrigger key) e = tt
  command_fits actor (asks.PauseJobGroup group) e = tt
  command_fits actor (asks.ResumeJobGroup group) e = tt

outcome_fits : (T : SchedulerTables) (e : EntryData) (r : Reply) (o : Outcome) → transaction T e ≡ o → answer_of o ≡ Ok r → IsReplyTo e.command r
outcome_fits T e r (accepted U s) is answered = let same : s ≡ r = cc in command_fits T U (recorded_moment T e.at) r e.actor e.command (is ∙ ap (accepted U) same)
outcome_fits T e r (refused x) is answered = absurd (cc)

answer_fits : (T : SchedulerTables) (e : EntryData) (r : Reply) (o : Option Refusal) → unless_refused o (answer_of (transaction T e)) ≡ Ok r → IsReplyTo e.command r
answer_fits T e r None is = outcome_fits T e r (transaction T e) refl is
answer_fits T e r (Some x) is = absurd (cc)

pub reply_fits : (h : History) (e : EntryData) (r : Reply) → trigger_entry.answer h e ≡ Ok r → IsReplyTo e.command r
reply_fits h e r is = answer_fits (replay h) e r (version_refusal (replay h) e.command) is
