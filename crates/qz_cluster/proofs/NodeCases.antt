-- The case of a step of a node, by what a store made of its entry.
use Rattle.std.proofs.Common.{◌≡◌, ◌||◌, ◌&&◌, inl, inr, true, false, not, refl, sym, ap, subst}
use Rattle.std.specs.Prelude.{Bool, ℕ, ℤ, List, Option, Some, None, is_none, is_some, if◌then◌else◌, Ok, Err, IfOk, IfErr, OnErr}
use Rattle.std.specs.declared.result.Result.{Result}
use Rattle.qz_types.specs.Entries.{EntryData}
use Rattle.qz_types.specs.Rows.{MemberData}
use Rattle.qz_types.specs.Tables.{SchedulerTables}
use Rattle.qz_types.specs.Words.{member_of, without_member}
use Rattle.qz_types.specs.declared.commands.Actor.TheVariants as actor
use Rattle.qz_types.specs.declared.commands.Command.{Command}
use Rattle.qz_types.specs.declared.commands.Command.TheVariants as command
use Rattle.qz_types.specs.declared.replies.Refusal.TheVariants.{StillMember}
use Rattle.qz_model.specs.History.{replay}
use Rattle.qz_stores.specs.Stores.{Same, Appends}
use Rattle.qz_steps.specs.declared.steps.Step.TheVariants.{Join, Node, Forget}
use Rattle.qz_steps.specs.declared.steps.StepReply.{StepReply}
use Rattle.qz_steps.specs.declared.steps.StepReply.TheVariants as reply
use Rattle.qz_trigger_store.specs.Entries.{trigger_entry}
use Rattle.qz_checkin.specs.Entries.{of_states}
use Rattle.qz_cluster.specs.Script.{TimedStep, entry_of, check_in_entry, forget_entry, held_after_join, held_after_command, member_refusal}
use Rattle.qz_cluster.specs.Steps.{ClusterState, is_closed, is_recover, command_refusal, entry_of_step, entry_of_member, rows_of, Submits, StepCase, EndCase, TriggersDone}
use Rattle.qz_cluster.specs.Submitting.{Submitted, StatesSubmitted, Unsubmitted, held_by}
use Rattle.qz_cluster.specs.declared.errors.StepEnd.{StepEnd}
use Rattle.qz_cluster.specs.declared.errors.StepEnd.TheVariants as ends
use Rattle.qz_cluster.proofs.StepCases.{not_closed, declined, states_ended, second_open, join_submits}

first_open : (a b : Bool) → not a || b ≡ false → a ≡ true
first_open true b is = refl
first_open false b is = cc

-- A command of a member.

module _ (honest : Type 0) (node : List ℕ) (c : Command) (at : ℤ) (epoch : ℕ) (S new : ClusterState)
    (ready : not S.triggers.is_open || (is_recover c && not S.states.is_open) ≡ false) (holds : member_of node S.held ≡ Some (record { node = node; epoch = epoch }))
    (passes : command_refusal S node c at ≡ None) (states : Same S.states new.states) where
  abbrev member : MemberData
  member = record { node = node; epoch = epoch }

  abbrev entry : EntryData
  entry = entry_of (actor.Node member) c at

  submits : Submits (record { step = Node node c; at = at }) S
  submits = record { allowed = record { needs_open = ready; is_held = ap is_none holds; works = refl; acts = refl }; unrefused = passes }

  asked : entry_of_step S.held (Node node c) at ≡ Some entry
  asked = ap (λ (m : Option MemberData). entry_of_member m c at) holds

  came : (r : StepReply) → Submitted entry r S.triggers new.triggers → new.held ≡ held_by r (λ x. held_after_command node c S.held) S.held S.held → StepCase honest (record { step = Node node c; at = at }) r S new
  came (reply.Ok r) way held = record { submits = submits; states = states; triggers = subst (λ o. TriggersDone o r S.triggers new.triggers) (sym asked) way; held = held }
  came (reply.Refused refusal) way held =
      inr (record { submits = submits; which = inr (record { states = states; entry = entry; asked = asked; triggers = way; held_is = held }) })
  came reply.Fault way held = inl (record { submits = submits; which = inr (record { states = states; entry = entry; asked = asked; triggers = way; held_is = held }) })
  came reply.Closed way held = not_closed S.triggers.is_open (first_open S.triggers.is_open _ ready) way.was_closed
  came reply.Stopped way held = absurd way
  came reply.Restarted way held = absurd way
  came (reply.Shown shown) way held = absurd way
  came (reply.Marked marked) way held = absurd way
  came (reply.Room room) way held = absurd way

  pub obeyed : (result : Result StepReply StepEnd) → IfOk result (λ r. Submitted entry r S.triggers new.triggers)
      → IfOk result (λ r. new.held ≡ held_by r (λ x. held_after_command node c S.held) S.held S.held) → IfOk result (λ r. StepCase honest (record { step = Node node c; at = at }) r S new)
  obeyed (Ok r) way held = came r way held
  obeyed (Err end) way held = tt

  pub obeyed_not : {P : Type 0} → (P → new.held ≡ S.held) → (result : Result StepReply StepEnd) → IfErr result (λ e. Unsubmitted trigger_entry entry e S.triggers new.triggers) → OnErr result P
      → IfErr result (λ e. EndCase honest (record { step = Node node c; at = at }) e S new)
  obeyed_not same (Ok r) way held = tt
  obeyed_not same (Err (ends.JournalFull need room)) way held = record { submits = submits; which = inr (record { states = states; entry = entry; asked = asked; triggers = way; held_is = same held }) }
  obeyed_not same (Err (ends.NotAStore store)) way held = absurd way
  obeyed_not same (Err (ends.Damaged store place)) way held = absurd way
  obeyed_not same (Err ends.NoMemory) way held = inl (record { submits = submits; which = inr (record { states = states; entry = entry; asked = asked; triggers = way; held_is = same held }) })

-- A node that checked in and joins.

module _ (honest : Type 0) (node : List ℕ) (interval at : ℤ) (S new : ClusterState) (ready : is_closed S ≡ false)
    (checked : Appends of_states (check_in_entry node interval at) tt S.states new.states) where
  joins : (r : StepReply) → Submitted (entry_of actor.Client (command.Join node) at) r S.triggers new.triggers
      → new.held ≡ held_by r (λ x. held_after_join node S.held x) (without_member node S.held) S.held → StepCase honest (record { step = Join node interval; at = at }) r S new
  joins (reply.Ok r) way held = record { submits = join_submits node interval at S ready; states = checked; triggers = way; held = held }
  joins (reply.Refused refusal) way held =
      inr (record { submits = join_submits node interval at S ready; which = inr (record { states = checked; entry = entry_of actor.Client (command.Join node) at; asked = refl; triggers = way; held_is = held }) })
  joins reply.Fault way held =
      inl (record { submits = join_submits node interval at S ready; which = inr (record { states = checked; entry = entry_of actor.Client (command.Join node) at; asked = refl; triggers = way; held_is = held }) })
  joins reply.Closed way held = not_closed S.triggers.is_open (first_open S.triggers.is_open _ ready) way.was_closed
  joins reply.Stopped way held = absurd way
  joins reply.Restarted way held = absurd way
  joins (reply.Shown shown) way held = absurd way
  joins (reply.Marked marked) way held = absurd way
  joins (reply.Room room) way held = absurd way

  pub joined : (result : Result StepReply StepEnd) → IfOk result (λ r. Submitted (entry_of actor.Client (command.Join node) at) r S.triggers new.triggers)
      → IfOk result (λ r. new.held ≡ held_by r (λ x. held_after_join node S.held x) (without_member node S.held) S.held) → IfOk result (λ r. StepCase honest (record { step = Join node interval; at = at }) r S new)
  joined (Ok r) way held = joins r way held
  joined (Err end) way held = tt

  pub joined_not : (result : Result StepReply StepEnd) → IfErr result (λ e. Unsubmitted trigger_entry (entry_of actor.Client (command.Join node) at) e S.triggers new.triggers)
      → OnErr result (new.held ≡ S.held) → IfErr result (λ e. EndCase honest (record { step = Join node interval; at = at }) e S new)
  joined_not (Ok r) way held = tt
  joined_not (Err (ends.JournalFull need room)) way held =
      record { submits = join_submits node interval at S ready; which = inr (record { states = checked; entry = entry_of actor.Client (command.Join node) at; asked = refl; triggers = way; held_is = held }) }
  joined_not (Err (ends.NotAStore store)) way held = absurd way
  joined_not (Err (ends.Damaged store place)) way held = absurd way
  joined_not (Err ends.NoMemory) way held =
      inl (record { submits = join_submits node interval at S ready; which = inr (record { states = checked; entry = entry_of actor.Client (command.Join node) at; asked = refl; triggers = way; held_is = held }) })

-- A member that forgets a node that is none.

pub not_member : (T : SchedulerTables) (failed : List ℕ) → is_some (member_of failed T.members) ≡ false → member_refusal T failed ≡ None
unfolding member_refusal
not_member T failed is = ap (λ (b : Bool). if b then Some StillMember else None) is

module _ (honest : Type 0) (node failed : List ℕ) (at : ℤ) (S new : ClusterState) (ready : is_closed S ≡ false) (holds : is_none (member_of node S.held) ≡ false)
    (passes : member_refusal (replay S.triggers.history) failed ≡ None) (triggers : Same S.triggers new.triggers) (held : new.held ≡ S.held) where
  abbrev forgetting : TimedStep
  forgetting = record { step = Forget node failed; at = at }

  may_forget : Submits forgetting S
  may_forget = record { allowed = record { needs_open = ready; is_held = holds; works = refl; acts = refl }; unrefused = passes }

  is_open : S.states.is_open ≡ true
  is_open = second_open S.triggers.is_open S.states.is_open ready

  pub forgot : (result : Result StepReply StepEnd) → IfOk result (λ r. StatesSubmitted (forget_entry (rows_of S) failed at) r S.states new.states) → IfOk result (λ r. StepCase honest forgetting r S new)
  forgot (Ok (reply.Ok r)) way = record { submits = may_forget; states = way.0; triggers = (triggers, way.1); held = held }
  forgot (Ok (reply.Refused refusal)) way = declined honest forgetting (forget_entry (rows_of S) failed at) (reply.Refused refusal) S new may_forget refl is_open way triggers held
  forgot (Ok reply.Fault) way = declined honest forgetting (forget_entry (rows_of S) failed at) reply.Fault S new may_forget refl is_open way triggers held
  forgot (Ok reply.Closed) way = not_closed S.states.is_open is_open way.was_closed
  forgot (Ok reply.Stopped) way = absurd way
  forgot (Ok reply.Restarted) way = absurd way
  forgot (Ok (reply.Shown shown)) way = absurd way
  forgot (Ok (reply.Marked marked)) way = absurd way
  forgot (Ok (reply.Room room)) way = absurd way
  forgot (Err end) way = tt

  pub forgot_not : (result : Result StepReply StepEnd) → IfErr result (λ e. Unsubmitted of_states (forget_entry (rows_of S) failed at) e S.states new.states) → IfErr result (λ e. EndCase honest forgetting e S new)
  forgot_not result way = states_ended honest forgetting (forget_entry (rows_of S) failed at) result S new may_forget refl way triggers held
