-- A member gives back what it acquired, and the tables stay valid: its acquired rows go, and their triggers wait again.
use Rattle.std.proofs.Common.{◌≡◌, Bool, true, false, ◌&&◌, List, count_by, Option, Some, None, IsSomeAnd, option_map, refl, sym, ap, ◌∙◌, subst, ◌==◌, if◌then◌else◌}
use Rattle.std.specs.List.{AllByRecursion}
use Rattle.std.proofs.lemmas.Bool.{and_parts, and_from, false_from_ne_true}
use Rattle.qz_types.specs.Rows.{TriggerData, MemberData, FiredData}
use Rattle.qz_types.specs.declared.triggers.TriggerState.{TriggerState}
use Rattle.qz_types.specs.declared.triggers.TriggerState.TheVariants as state
use Rattle.qz_types.specs.Changes.{with_state, with_states, without_acquired}
use Rattle.qz_types.specs.States.{is_acquired, is_acquired_for}
use Rattle.qz_types.specs.Tables.{SchedulerTables}
use Rattle.qz_types.specs.Words.{same_key, trigger_of, fired_of}
use Rattle.qz_model.specs.Executions.{is_busy}
use Rattle.qz_model.specs.Invariant.{IsRowOf, is_blocked_or_done, is_live_state, TablesValid}
use Rattle.qz_model.specs.Recovery.{has_acquired, freed_by}
use Rattle.qz_model.specs.Tests.{is_of}
use Rattle.qz_model.proofs.Changes.{HasOneRow, HasItsTrigger, HasNextTime, StaysBlocked, IsBlockedBy, HasRowTimes, each_next, have_next}
use Rattle.qz_model.proofs.RowLaws.{same_key_laws, All-trigger_of, trigger_of-key, trigger_of-alike, each_trigger, each_fired, only_fired, one_fired}
use Rattle.qz_model.proofs.RowPoints.{All-weaker, All-both, All-none, any_none}
use Rattle.qz_model.proofs.StateChanges.{after_states, references-with_states, concurrency-without_acquired, one-without_acquired, members-without_acquired, stays-with_states, blocked_by-with_states, fresh-with_states}
use Rattle.qz_model.proofs.StateLaws.{All-with_states, trigger_of-with_states, All-without_acquired, count_by-without_acquired}

-- it waits again
abbrev waits : TriggerState → TriggerState
waits s = state.Waiting

abbrev is_taken : TriggerState → Bool
is_taken state.Acquired = true
is_taken s = false

taken_state : (s : TriggerState) → is_taken s ≡ true → s ≡ state.Acquired
taken_state state.Waiting e = absurd (cc)
taken_state state.Acquired e = refl
taken_state state.Complete e = absurd (cc)
taken_state state.Blocked e = absurd (cc)
taken_state state.Paused e = absurd (cc)
taken_state state.PausedBlocked e = absurd (cc)
taken_state state.Error e = absurd (cc)

-- the trigger of an acquired row is acquired
row_is_taken : (f : FiredData) (t : TriggerData) (o : Option TriggerData) → o ≡ Some t → IsSomeAnd o (IsRowOf f) → is_taken t.state ≡ true
row_is_taken f t None found is = absurd is
row_is_taken f t (Some u) found is = let same : u ≡ t = cc in ap (λ x. is_taken x.state) (sym same) ∙ ap is_taken is.state

module _ (T : SchedulerTables) (me : MemberData) (valid : TablesValid T) where
  abbrev passes : TriggerData → Bool
  passes t = has_acquired me T.fired t.spec.key

  abbrev triggers_then : List TriggerData
  triggers_then = with_states waits passes T.triggers

  abbrev fired_then : List FiredData
  fired_then = without_acquired (is_of me) T.fired

  -- a row of the trigger shows that it is acquired
  no_row_of_another : (t : TriggerData) → is_taken t.state ≡ false → trigger_of t.spec.key T.triggers ≡ Some t → (f : FiredData) → HasItsTrigger T.triggers f
      → (is_of me f && is_acquired_for t.spec.key f) ≡ false
  unfolding is_acquired_for
  no_row_of_another t free found f has = false_from_ne_true (is_of me f && is_acquired_for t.spec.key f) (λ is.
      let parts = and_parts (is_acquired f.state) (same_key t.spec.key f.trigger) (and_parts (is_of me f) (is_acquired_for t.spec.key f) is).1 in
      let at : trigger_of f.trigger T.triggers ≡ Some t = sym (trigger_of-alike t.spec.key f.trigger T.triggers parts.1) ∙ found in
      let taken = row_is_taken f t (trigger_of f.trigger T.triggers) at (has parts.0) in
      absurd (cc))

  taken_where_passes : (t : TriggerData) → trigger_of t.spec.key T.triggers ≡ Some t → passes t ≡ true → t.state ≡ state.Acquired
  taken_where_passes t found is = elim (is_taken t.state) as (λ b. is_taken t.state ≡ b → t.state ≡ state.Acquired) [
    | true ↦ λ taken. taken_state t.state taken
    | false ↦ λ free.
        let none : passes t ≡ false = any_none (λ f. is_of me f && is_acquired_for t.spec.key f) T.fired
        (All-weaker (HasItsTrigger T.triggers) (λ f. (is_of me f && is_acquired_for t.spec.key f) ≡ false) T.fired (no_row_of_another t free found) valid.acquired_match.a_trigger) in
        absurd (cc)
  ] refl

  abbrev IsTakenWhere : TriggerData → Type 0
  IsTakenWhere t = passes t ≡ true → t.state ≡ state.Acquired

  all_taken : AllByRecursion IsTakenWhere T.triggers
  all_taken = All-weaker (λ t. trigger_of t.spec.key T.triggers ≡ Some t) IsTakenWhere T.triggers taken_where_passes (each_trigger T.triggers valid.references_and_limits.ordered.triggers)

  with_taken : (P : TriggerData → Type 0) → AllByRecursion P T.triggers → AllByRecursion (λ t. P t × IsTakenWhere t) T.triggers
  with_taken P all = All-both P IsTakenWhere (λ t. P t × IsTakenWhere t) T.triggers (λ t is taken. (is, taken)) all all_taken

  -- a trigger that stays acquired keeps its row
  own_stays : (t : TriggerData) → passes t ≡ false → (f : FiredData) → (is_of me f && is_acquired_for t.spec.key f) ≡ false → (is_acquired f.state && is_of me f) ≡ true → is_acquired_for t.spec.key f ≡ false
  own_stays t out f none goes = false_from_ne_true (is_acquired_for t.spec.key f) (λ is.
      let both = and_from (is_of me f) (is_acquired_for t.spec.key f) (and_parts (is_acquired f.state) (is_of me f) goes).1 is in absurd (cc))

  one_row_then : AllByRecursion (HasOneRow fired_then) triggers_then
  one_row_then =
      All-with_states waits passes (HasOneRow T.fired) (HasOneRow fired_then) T.triggers valid.acquired_match.one_row
      (λ t is one taken. absurd (cc))
      (λ t out one taken. count_by-without_acquired (is_of me) (is_acquired_for t.spec.key) T.fired
      (All-weaker (λ f. (is_of me f && is_acquired_for t.spec.key f) ≡ false) (λ f. (is_acquired f.state && is_of me f) ≡ true → is_acquired_for t.spec.key f ≡ false) T.fired
      (own_stays t out) (All-none (λ f. is_of me f && is_acquired_for t.spec.key f) T.fired out)) ∙ one taken)

  -- the one row of a trigger isn't the member's
  not_mine : (t : TriggerData) (f : FiredData) → fired_of f.entry T.fired ≡ Some f → is_acquired_for t.spec.key f ≡ true → is_of me f ≡ false → count_by (is_acquired_for t.spec.key) T.fired ≡ 1
      → passes t ≡ false
  not_mine t f found its other one =
      any_none (λ g. is_of me g && is_acquired_for t.spec.key g) T.fired
      (All-both (λ g. is_acquired_for t.spec.key g ≡ true → (f.entry == g.entry) ≡ true) (λ g. (f.entry == g.entry) ≡ true → g ≡ f) (λ g. (is_of me g && is_acquired_for t.spec.key g) ≡ false) T.fired
      (λ g at same. false_from_ne_true (is_of me g && is_acquired_for t.spec.key g) (λ is.
      let parts = and_parts (is_of me g) (is_acquired_for t.spec.key g) is in
      let mine : is_of me f ≡ true = ap (is_of me) (sym (same (at parts.1))) ∙ parts.0 in
      absurd (cc)))
      (one_fired (is_acquired_for t.spec.key) f.entry f T.fired found its one)
      (only_fired f.entry f T.fired valid.references_and_limits.ordered.fired found))

  found_then : (f : FiredData) (o : Option TriggerData) → fired_of f.entry T.fired ≡ Some f → is_acquired f.state ≡ true → is_of me f ≡ false → trigger_of f.trigger T.triggers ≡ o
      → IsSomeAnd o (IsRowOf f) → IsSomeAnd (option_map (λ t. if passes t then with_state waits t else t) o) (IsRowOf f)
  unfolding is_acquired_for
  found_then f None row taken other found is = absurd is
  found_then f (Some t) row taken other found is =
      let key : same_key f.trigger t.spec.key ≡ true = trigger_of-key f.trigger t T.triggers found in
      let its : is_acquired_for t.spec.key f ≡ true = and_from (is_acquired f.state) (same_key t.spec.key f.trigger) taken (same_key_laws.symm t.spec.key f.trigger ∙ key) in
      let one : count_by (is_acquired_for t.spec.key) T.fired ≡ 1 = All-trigger_of (HasOneRow T.fired) f.trigger t T.triggers valid.acquired_match.one_row found is.state in
      subst (λ b. IsRowOf f (if b then with_state waits t else t)) (sym (not_mine t f row its other one)) is

  abbrev IsFound : FiredData → Type 0
  IsFound f = fired_of f.entry T.fired ≡ Some f

  a_trigger_then : AllByRecursion (HasItsTrigger triggers_then) fired_then
  a_trigger_then =
      All-without_acquired (is_of me) (λ f. HasItsTrigger T.triggers f × IsFound f) (HasItsTrigger triggers_then) T.fired
      (All-both (HasItsTrigger T.triggers) IsFound (λ f. HasItsTrigger T.triggers f × IsFound f) T.fired (λ f has row. (has, row))
      valid.acquired_match.a_trigger (each_fired T.fired valid.references_and_limits.ordered.fired))
      (λ f stays is taken.
      let other : is_of me f ≡ false = subst (λ b. (b && is_of me f) ≡ false) taken stays in
      subst (λ o. IsSomeAnd o (IsRowOf f)) (sym (trigger_of-with_states waits passes f.trigger T.triggers))
      (found_then f (trigger_of f.trigger T.triggers) is.1 taken other refl (is.0 taken)))

  -- an acquired trigger is of no job that is busy
  free_of : (t : TriggerData) → StaysBlocked T.fired t → t.state ≡ state.Acquired → is_busy t.spec.job T.fired ≡ true → is_blocked_or_done (waits t.state) ≡ true
  free_of t stays taken busy =
      let free : is_blocked_or_done t.state ≡ false = ap is_blocked_or_done taken in
      let blocked : is_blocked_or_done t.state ≡ true = stays busy in
      absurd (cc)

  valid_states : TablesValid (after_states T waits passes (is_of me))
  valid_states = record {
    references_and_limits = references-with_states T waits passes (is_of me) valid.references_and_limits;
    acquired_match = record { one_row = one_row_then; a_trigger = a_trigger_then };
    concurrency_agrees = concurrency-without_acquired (is_of me) T.fired T.jobs valid.concurrency_agrees;
    one_exclusive = record {
      one = one-without_acquired (is_of me) T.fired valid.one_exclusive.one;
      blocked = stays-with_states waits passes (is_of me) T.triggers T.fired (λ t. StaysBlocked T.fired t × IsTakenWhere t) (with_taken (StaysBlocked T.fired) valid.one_exclusive.blocked)
          (λ t is has. free_of t has.0 (has.1 is)) (λ t out has. has.0);
    };
    blocked_are_busy = record {
      busy = blocked_by-with_states waits passes (is_of me) T.triggers T.fired (IsBlockedBy T.fired) valid.blocked_are_busy.busy (λ t is has blocked. absurd (cc)) (λ t out has. has);
    };
    rows_of_members = members-without_acquired (is_of me) T.fired T.members T.next_epoch valid.rows_of_members;
    next_times = have_next T.horizon T.last_moment triggers_then
        (All-with_states waits passes (λ t. HasNextTime T.horizon t × IsTakenWhere t) (HasNextTime T.horizon) T.triggers (with_taken (HasNextTime T.horizon) (each_next T valid))
        (λ t is has. (λ live. has.0.0 (ap is_live_state (has.1 is)), has.0.1)) (λ t out has. has.0)) valid.next_times.moment;
    fresh = fresh-with_states T waits passes (is_of me) valid.fresh;
    row_times = record { rows = All-without_acquired (is_of me) (HasRowTimes T.horizon) (HasRowTimes T.horizon) T.fired valid.row_times.rows (λ f away is. is) };
  }

  pub valid-given_back : TablesValid (record T { triggers = freed_by me T.fired T.triggers; fired = without_acquired (is_of me) T.fired })
  unfolding freed_by with_states
  valid-given_back = valid_states
