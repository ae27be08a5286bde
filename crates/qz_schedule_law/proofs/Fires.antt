-- A trigger that fires goes on to the time that comes after the one for which it was acquired.
use Rattle.std.proofs.Common.{◌≡◌, ℕ, ℤ, pos, Bool, true, false, List, [], ◌∷◌, Option, Some, None, IsSomeAnd, option_map, unwrap_or, refl, sym, ap, ◌∙◌, subst, if◌then◌else◌}
use Rattle.std.proofs.lemmas.Bool.{false_from_ne_true}
use Rattle.qz_types.specs.Rows.{JobData, TriggerData, MemberData, FiredData}
use Rattle.qz_types.specs.declared.keys.Key.{Key}
use Rattle.qz_types.specs.declared.commands.Command.{Command}
use Rattle.qz_types.specs.declared.replies.Reply.{Reply}
use Rattle.qz_types.specs.declared.replies.Reply.TheVariants as reply
use Rattle.qz_types.specs.Changes.{after_fire}
use Rattle.qz_types.specs.States.{is_acquired, blocked}
use Rattle.qz_types.specs.Tables.{SchedulerTables}
use Rattle.qz_types.specs.Outcomes.{accepted}
use Rattle.qz_types.specs.Words.{same_key, trigger_of, with_trigger, fired_of}
use Rattle.qz_model.specs.Acquiring.{next_time, acquired_refusal}
use Rattle.qz_model.specs.Firing.{early, next_of, fire_refusal, fired_state, with_blocked, with_begun, time_after, following, fire_row, fire}
use Rattle.qz_model.specs.Invariant.{IsRowOf, TablesValid}
use Rattle.qz_model.specs.Membership.{node_refusal}
use Rattle.qz_model.specs.Plan.{next_after}
use Rattle.qz_model.specs.Tests.{is_trigger_of, stored_job}
use Rattle.qz_model.proofs.Changes.{HasItsTrigger, passes}
use Rattle.qz_model.proofs.KeptFiring.{clear_both, acquired_clear}
use Rattle.qz_model.proofs.RowLaws.{same_key-exact, trigger_of-with_trigger, All-with_trigger, All-fired_of, fired_of-entry}
use Rattle.qz_model.proofs.StateLaws.{trigger_of-with_states}
use Rattle.qz_schedule_law.specs.Turns.{AreInTurn}
use Rattle.qz_schedule_law.proofs.Stays.{IsFrom, IsAsBefore, HasTurned, TurnFacts, same_plan, stays_turned, accepted_facts, as_before, before-with_blocked}

-- what comes after the time for which the row's trigger was acquired
following_after : (T : SchedulerTables) (f : FiredData) (t : TriggerData) → trigger_of f.trigger T.triggers ≡ Some t → t.next ≡ Some f.scheduled → next_after T t.spec f.scheduled ≡ following T f
unfolding following next_time
following_after T f t found next =
    let at : unwrap_or t.next (pos 0) ≡ f.scheduled = ap (λ (o : Option ℤ). unwrap_or o (pos 0)) next in
    ap (next_after T t.spec) (sym at) ∙ sym (ap (time_after T) found)

module _ (T : SchedulerTables) (key : Key) (m : ℤ) (f : FiredData) (t : TriggerData) (job : JobData) (found : trigger_of f.trigger T.triggers ≡ Some t) (next : t.next ≡ Some f.scheduled) where
  abbrev fires : Reply
  fires = reply.Fired f.entry f.scheduled m (following T f) f.trigger job

  one_turn : (u : TriggerData) → IsAsBefore T key u → same_key f.trigger u.spec.key ≡ true → HasTurned T key fires (after_fire (following T f) (fired_state (following T f) job.no_concurrent) u)
  one_turn u was at same s stored =
      let one : f.trigger ≡ u.spec.key = same_key-exact f.trigger u.spec.key at in
      let own : key ≡ f.trigger = same_key-exact key u.spec.key same ∙ sym one in
      let is : same_key key f.trigger ≡ true = subst (λ (k : Key). same_key key k ≡ true) (sym one) same in
      let again : trigger_of key T.triggers ≡ Some t = subst (λ (k : Key). trigger_of k T.triggers ≡ Some t) (sym own) found in
      let row : t ≡ s = cc in (
        (subst (λ (o : Option TriggerData). IsFrom T o u) stored (was same)).0,
        subst (λ b. AreInTurn (next_after T s.spec) s.next (if b then f.scheduled ∷ [] else []) (following T f)) (sym is)
            (subst (λ (x : TriggerData). x.next ≡ Some f.scheduled) row next, subst (λ (x : TriggerData). next_after T x.spec f.scheduled ≡ following T f) row (following_after T f t found next)),
      )

  no_turn : (u : TriggerData) → IsAsBefore T key u → same_key f.trigger u.spec.key ≡ false → HasTurned T key fires u
  no_turn u was differ same s stored =
      let other : same_key key f.trigger ≡ false = false_from_ne_true (same_key key f.trigger) (λ is. let own : key ≡ f.trigger = same_key-exact key f.trigger is in let wrong : same_key f.trigger u.spec.key ≡ true = subst (λ (k : Key). same_key k u.spec.key ≡ true) own same in absurd (cc)) in
      stays_turned T key fires u (ap (λ b. if b then f.scheduled ∷ [] else []) other) was same s stored

  -- no trigger is stored
  none_new : (b : Bool) (j : Key) → trigger_of key T.triggers ≡ None → trigger_of key (with_blocked b j T.triggers) ≡ None
  none_new true j absent = trigger_of-with_states blocked (is_trigger_of j) key T.triggers ∙ ap (option_map _) absent
  none_new false j absent = absent

  fired_none : (change : TriggerData → TriggerData) → ((u : TriggerData) → (change u).spec.key ≡ u.spec.key) → (rows : List TriggerData) → trigger_of key rows ≡ None → trigger_of key (with_trigger f.trigger change rows) ≡ None
  fired_none change keeps rows absent = trigger_of-with_trigger key f.trigger change rows keeps ∙ ap (option_map _) absent

  facts-begun : (c : Command) → TablesValid T → TurnFacts T key c fires (with_begun T m f job (following T f))
  unfolding with_begun
  facts-begun c valid = record {
    triggers = All-with_trigger (IsAsBefore T key) (HasTurned T key fires) f.trigger (after_fire (following T f) (fired_state (following T f) job.no_concurrent)) (with_blocked job.no_concurrent f.job T.triggers)
        (before-with_blocked T key job.no_concurrent f.job T.triggers (as_before T key valid))
        (λ u at was. one_turn u was at)
        (λ u differ was. no_turn u was differ);
    plan = λ s stored alone a. same_plan T _ s.spec a refl refl refl;
    new = λ absent u stored.
        let none = fired_none (after_fire (following T f) (fired_state (following T f) job.no_concurrent)) (λ x. refl) (with_blocked job.no_concurrent f.job T.triggers) (none_new job.no_concurrent f.job absent) in
        absurd (cc);
  }

facts-fire_of : (T : SchedulerTables) (key : Key) (c : Command) (m : ℤ) (f : FiredData) (o : Option TriggerData) (job : JobData) → TablesValid T → trigger_of f.trigger T.triggers ≡ o → IsSomeAnd o (IsRowOf f)
    → TurnFacts T key c (reply.Fired f.entry f.scheduled m (following T f) f.trigger job) (with_begun T m f job (following T f))
facts-fire_of T key c m f None job valid found row = absurd row
facts-fire_of T key c m f (Some t) job valid found row = facts-begun T key m f t job found row.next c valid

row_acquired : (T : SchedulerTables) (m : ℤ) (me : MemberData) (f : FiredData) → fire_refusal T m me f ≡ None → is_acquired f.state ≡ true
unfolding fire_refusal
row_acquired T m me f clear = acquired_clear me f (clear_both (acquired_refusal me f) (early m (next_of f.trigger T.triggers)) clear).0

facts-fire_row : (T T' : SchedulerTables) (key : Key) (c : Command) (m : ℤ) (me : MemberData) (entry : ℕ) (o : Option FiredData) (r : Reply) → TablesValid T → fired_of entry T.fired ≡ o → fire_row T m me o ≡ accepted T' r → TurnFacts T key c r T'
facts-fire_row T T' key c m me entry None r valid found e = absurd (cc)
facts-fire_row T T' key c m me entry (Some f) r valid found e =
    let row = subst (λ n. fired_of n T.fired ≡ Some f) (fired_of-entry entry f T.fired found) found in
    let way = passes (fire_refusal T m me f) _ T' r e in
    accepted_facts T _ T' key c _ r way.outcome
    (facts-fire_of T key c m f (trigger_of f.trigger T.triggers) (stored_job f.job T.jobs) valid refl
    (All-fired_of (HasItsTrigger T.triggers) f.entry f T.fired valid.acquired_match.a_trigger row (row_acquired T m me f way.clear)))

pub facts-fire : (T T' : SchedulerTables) (key : Key) (c : Command) (m : ℤ) (me : MemberData) (entry : ℕ) (r : Reply) → TablesValid T → fire T m me entry ≡ accepted T' r → TurnFacts T key c r T'
facts-fire T T' key c m me entry r valid e = facts-fire_row T T' key c m me entry (fired_of entry T.fired) r valid refl (passes (node_refusal T me) _ T' r e).outcome
