-- What a Complete leaves.
use Rattle.std.proofs.Common.{◌≡◌, ◌≢◌, ◌⊎◌, inl, inr, ◌==◌, ℤ, ℕ, List, [], ◌∷◌, true, false, Option, Some, None, refl, sym, ap, ◌∙◌}
use Rattle.std.specs.List.{AllByRecursion}
use Rattle.std.proofs.lemmas.Bool.{eq-eqb, false_from_ne_true}
use Rattle.qz_types.specs.Rows.{TriggerData, MemberData, FiredData}
use Rattle.qz_types.specs.declared.commands.Code.{Code}
use Rattle.qz_types.specs.declared.commands.Code.TheVariants.{Noop, ReExecuteJob, SetTriggerComplete, DeleteTrigger, SetAllJobTriggersComplete, SetTriggerError, SetAllJobTriggersError}
use Rattle.qz_types.specs.declared.replies.Reply.{Reply}
use Rattle.qz_types.specs.declared.replies.Reply.TheVariants as reply
use Rattle.qz_types.specs.Tables.{SchedulerTables}
use Rattle.qz_types.specs.Outcomes.{accepted}
use Rattle.qz_types.specs.Words.{same_text, trigger_of, fired_of}
use Rattle.qz_model.specs.Completing.{finished, with_trigger_ended, with_job_ended, with_code, without_execution, without_finished, completed, complete_refusal, complete_one, complete_row, complete}
use Rattle.qz_model.specs.Membership.{node_refusal}
use Rattle.qz_model.specs.Tests.{is_row_of_trigger, is_row_of_job}
use Rattle.qz_model.specs.Triggers.{without_trigger_and_orphan}
use Rattle.qz_model.proofs.Changes.{passes}
use Rattle.qz_model.proofs.RowLaws.{All-without_fired, fired_of-entry}
use Rattle.qz_model.proofs.StateLaws.{All-without_acquired}
use Rattle.qz_run.specs.Stores.{Row}
use Rattle.qz_seen.specs.Seen.{rows_of}
use Rattle.qz_seen.proofs.NodeRows.{IsOthers, IsSeenAs, each-row, rows-none, others-of}
use Rattle.qz_seen.proofs.Still.{IsStill}

-- the members are as they were
orphan-members : (T : SchedulerTables) (o : Option TriggerData) → (without_trigger_and_orphan T o).members ≡ T.members
unfolding without_trigger_and_orphan
orphan-members T None = refl
orphan-members T (Some t) = refl

code-members : (code : Code) (T : SchedulerTables) (f : FiredData) → (with_code code T f).members ≡ T.members
unfolding with_trigger_ended with_job_ended
code-members Noop T f = refl
code-members ReExecuteJob T f = refl
code-members SetTriggerComplete T f = refl
code-members DeleteTrigger T f = orphan-members T (trigger_of f.trigger T.triggers)
code-members SetAllJobTriggersComplete T f = refl
code-members SetTriggerError T f = refl
code-members SetAllJobTriggersError T f = refl

execution-members : (T : SchedulerTables) (f : FiredData) → (without_execution T f).members ≡ T.members
unfolding without_execution
execution-members T f = refl

finished-members : (code : Code) (T : SchedulerTables) (f : FiredData) → (without_finished code T f.trigger).members ≡ T.members
finished-members Noop T f = orphan-members T (finished T.fired (trigger_of f.trigger T.triggers))
finished-members ReExecuteJob T f = refl
finished-members SetTriggerComplete T f = refl
finished-members DeleteTrigger T f = refl
finished-members SetAllJobTriggersComplete T f = refl
finished-members SetTriggerError T f = refl
finished-members SetAllJobTriggersError T f = refl

completed-members : (T : SchedulerTables) (f : FiredData) (code : Code) → (completed T f code).members ≡ T.members
completed-members T f code = finished-members code (without_execution (with_code code T f) f) f ∙ execution-members (with_code code T f) f ∙ code-members code T f

-- what holds of all rows holds of those that are left
module _ (P : FiredData → Type 0) where
  orphan-all : (T : SchedulerTables) (o : Option TriggerData) → AllByRecursion P T.fired → AllByRecursion P (without_trigger_and_orphan T o).fired
  unfolding without_trigger_and_orphan
  orphan-all T None all = all
  orphan-all T (Some t) all = All-without_acquired (is_row_of_trigger t.spec.key) P P T.fired all (λ f stays is. is)

  code-all : (code : Code) (T : SchedulerTables) (f : FiredData) → AllByRecursion P T.fired → AllByRecursion P (with_code code T f).fired
  unfolding with_trigger_ended with_job_ended
  code-all Noop T f all = all
  code-all ReExecuteJob T f all = all
  code-all SetTriggerComplete T f all = All-without_acquired (is_row_of_trigger f.trigger) P P T.fired all (λ g stays is. is)
  code-all DeleteTrigger T f all = orphan-all T (trigger_of f.trigger T.triggers) all
  code-all SetAllJobTriggersComplete T f all = All-without_acquired (is_row_of_job f.job) P P T.fired all (λ g stays is. is)
  code-all SetTriggerError T f all = All-without_acquired (is_row_of_trigger f.trigger) P P T.fired all (λ g stays is. is)
  code-all SetAllJobTriggersError T f all = All-without_acquired (is_row_of_job f.job) P P T.fired all (λ g stays is. is)

  finished-all : (code : Code) (T : SchedulerTables) (f : FiredData) → AllByRecursion P T.fired → AllByRecursion P (without_finished code T f.trigger).fired
  finished-all Noop T f all = orphan-all T (finished T.fired (trigger_of f.trigger T.triggers)) all
  finished-all ReExecuteJob T f all = all
  finished-all SetTriggerComplete T f all = all
  finished-all DeleteTrigger T f all = all
  finished-all SetAllJobTriggersComplete T f all = all
  finished-all SetTriggerError T f all = all
  finished-all SetAllJobTriggersError T f all = all

  -- and of those with other entry numbers
  execution-all : (Q : FiredData → Type 0) (T : SchedulerTables) (f : FiredData) → AllByRecursion P T.fired → ((g : FiredData) → (f.entry == g.entry) ≡ false → P g → Q g) → AllByRecursion Q (without_execution T f).fired
  unfolding without_execution
  execution-all Q T f all left = All-without_fired P Q f.entry T.fired all left

completed-all : (P Q : FiredData → Type 0) (T : SchedulerTables) (f : FiredData) (code : Code) → AllByRecursion P T.fired → ((g : FiredData) → (f.entry == g.entry) ≡ false → P g → Q g)
    → AllByRecursion Q (completed T f code).fired
completed-all P Q T f code all left = finished-all Q code (without_execution (with_code code T f) f) f (execution-all P Q (with_code code T f) f (code-all P code T f all) left)

-- the execution goes on
pub record GoesOn (entry : ℕ) (code : Code) (T T' : SchedulerTables) (m : ℤ) (r : Reply) : Type 0 where
  pub reply : r ≡ reply.Again entry
  pub asked : code ≡ ReExecuteJob
  pub still : IsStill T T' m

-- it has ended
pub record Ended (me : MemberData) (entry : ℕ) (code : Code) (T T' : SchedulerTables) (m : ℤ) (r : Reply) : Type 0 where
  pub reply : r ≡ reply.Completed entry
  pub final : code ≢ ReExecuteJob
  pub last : T'.last_moment ≡ m
  pub members : T'.members ≡ T.members
  pub free : (at : ℤ) → rows_of me.node T.fired ≡ record { entry = entry; executing = true; scheduled = at } ∷ [] → rows_of me.node T'.fired ≡ []
  pub others_free : (k : List ℕ) → rows_of k T.fired ≡ [] → rows_of k T'.fired ≡ []

module _ (T T' : SchedulerTables) (m : ℤ) (me : MemberData) (entry : ℕ) (r : Reply) where
  ended : (code : Code) (f : FiredData) → code ≢ ReExecuteJob → fired_of entry T.fired ≡ Some f → accepted (record (completed T f code) { last_moment = m }) (reply.Completed f.entry) ≡ accepted T' r
      → Ended me entry code T T' m r
  ended code f final found way =
      let own : entry ≡ f.entry = fired_of-entry entry f T.fired found in
      let is : record (completed T f code) { last_moment = m } ≡ T' = cc in
      let fired : T'.fired ≡ (completed T f code).fired = ap (λ x. x.fired) (sym is) in
      let members : T'.members ≡ (completed T f code).members = ap (λ x. x.members) (sym is) in
      record {
        reply = cc;
        final = final;
        last = ap (λ x. x.last_moment) (sym is);
        members = members ∙ completed-members T f code;
        free = λ at one.
            let row : Row = record { entry = entry; executing = true; scheduled = at } in
            ap (rows_of me.node) fired ∙ rows-none me.node (completed T f code).fired
            (completed-all (IsSeenAs me.node row) (IsOthers me.node) T f code (each-row me.node row T.fired one)
            (λ g other was. false_from_ne_true (same_text me.node g.node) (λ same.
            let its : g.entry ≡ entry = ap (λ x. x.entry) (was same) in
            let equal : (f.entry == g.entry) ≡ true = eq-eqb f.entry g.entry (sym own ∙ sym its) in
            cc)));
        others_free = λ k none. ap (rows_of k) fired ∙ rows-none k (completed T f code).fired (completed-all (IsOthers k) (IsOthers k) T f code (others-of k T.fired none) (λ g other is. is));
      }

  by_code : (code : Code) (f : FiredData) → fired_of entry T.fired ≡ Some f → complete_one T m f code ≡ accepted T' r → GoesOn entry code T T' m r ⊎ Ended me entry code T T' m r
  by_code ReExecuteJob f found e =
      let own : entry ≡ f.entry = fired_of-entry entry f T.fired found in
      let same : accepted (record T { last_moment = m }) (reply.Again f.entry) ≡ accepted T' r = e in
      inl (record { reply = cc; asked = refl; still = cc })
  by_code Noop f found e = inr (ended Noop f (λ is. cc) found e)
  by_code SetTriggerComplete f found e = inr (ended SetTriggerComplete f (λ is. cc) found e)
  by_code DeleteTrigger f found e = inr (ended DeleteTrigger f (λ is. cc) found e)
  by_code SetAllJobTriggersComplete f found e = inr (ended SetAllJobTriggersComplete f (λ is. cc) found e)
  by_code SetTriggerError f found e = inr (ended SetTriggerError f (λ is. cc) found e)
  by_code SetAllJobTriggersError f found e = inr (ended SetAllJobTriggersError f (λ is. cc) found e)

  by_row : (code : Code) (o : Option FiredData) → fired_of entry T.fired ≡ o → complete_row T m me o code ≡ accepted T' r → GoesOn entry code T T' m r ⊎ Ended me entry code T T' m r
  by_row code None found e = absurd (cc)
  by_row code (Some f) found e = by_code code f found (passes (complete_refusal me f) _ T' r e).outcome

  pub completes : (code : Code) → complete T m me entry code ≡ accepted T' r → GoesOn entry code T T' m r ⊎ Ended me entry code T T' m r
  completes code e = by_row code (fired_of entry T.fired) refl (passes (node_refusal T me) _ T' r e).outcome
