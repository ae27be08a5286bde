-- What the commands of nodes do to executions, and a join.
use Rattle.std.proofs.Common.{◌≡◌, ◌⊎◌, inl, inr, ℕ, ◌==◌, ◌≤◌, ℤ, ◌+ℤ◌, Bool, true, false, not, ◌&&◌, List, [], ◌∷◌, fold, length, nat_lt, Option, Some, None, refl, sym, ap, ◌∙◌, subst, IsSomeAnd}
use Rattle.std.proofs.lemmas.Bool.{eqb-true, eq-eqb, and_parts, and_from, false_from_ne_true, ltb-false, not-false}
use Rattle.qz_types.specs.Rows.{JobData, TriggerData, MemberData, FiredData}
use Rattle.qz_types.specs.Changes.{begun}
use Rattle.qz_types.specs.States.{is_acquired}
use Rattle.qz_types.specs.Tables.{SchedulerTables}
use Rattle.qz_types.specs.Outcomes.{accepted, unless}
use Rattle.qz_types.specs.Words.{same_text, job_of, trigger_of, member_of, fired_of, with_fired}
use Rattle.qz_types.specs.declared.keys.Key.{Key}
use Rattle.qz_types.specs.declared.commands.Actor.{Actor}
use Rattle.qz_types.specs.declared.commands.Actor.TheVariants.{Node}
use Rattle.qz_types.specs.declared.commands.Code.{Code}
use Rattle.qz_types.specs.declared.commands.Code.TheVariants.{Noop, ReExecuteJob, SetTriggerComplete, DeleteTrigger, SetAllJobTriggersComplete, SetTriggerError, SetAllJobTriggersError}
use Rattle.qz_types.specs.declared.commands.Command.{Command}
use Rattle.qz_types.specs.declared.commands.Command.TheVariants.{Join, Complete, Recover}
use Rattle.qz_types.specs.declared.replies.Reply.{Reply}
use Rattle.qz_types.specs.declared.replies.Reply.TheVariants as reply
use Rattle.qz_types.specs.declared.replies.Refusal.TheVariants.{InUse}
use Rattle.qz_model.specs.Acquiring.{acquire_refusal, acquired_row, with_acquired, chosen, acquire, owner_refusal, acquired_refusal, release_row, release}
use Rattle.qz_model.specs.Completing.{finished, with_trigger_ended, with_job_ended, with_code, without_execution, without_finished, completed, complete_refusal, complete_one, complete_row, complete}
use Rattle.qz_model.specs.Firing.{early, next_of, fire_refusal, without_siblings, with_begun, following, fire_row, fire}
use Rattle.qz_model.specs.Invariant.{TablesValid}
use Rattle.qz_model.specs.Membership.{node_refusal}
use Rattle.qz_model.specs.Misfires.{misfires}
use Rattle.qz_model.specs.Recovery.{lost_of, rows_of_others, recovered, recovery_refusal, recover_member, recover, with_new_member, join_refusal, joined, join, leave_refusal, leave}
use Rattle.qz_model.specs.Tests.{or_refusal, is_of, is_row_of_job, is_row_of_trigger, stored_job}
use Rattle.qz_model.proofs.Changes.{passes}
use Rattle.qz_model.proofs.KeptAcquiring.{member_of_actor}
use Rattle.qz_model.proofs.KeptFiring.{acquired_clear}
use Rattle.qz_model.proofs.NamedRows.{same_text_laws}
use Rattle.qz_model.proofs.Refusals.{not_refused, no_first}
use Rattle.qz_model.proofs.RowLaws.{fired_of-entry, member_of-alike, member_of-node}
use Rattle.qz_model.proofs.RowPoints.{none-filtered}
use Rattle.qz_laws.proofs.QuietNodes.{stored_key}
use Rattle.qz_open.proofs.Lists.{Has, of_all, in_filter}
use Rattle.qz_open.proofs.Facts.{Ends, completes, recovers, joins, Begins, ExecutionFacts, is_begun, none_begins, steady, accepted_facts}
use Rattle.qz_open.proofs.Rows.{in_put_fired, in_with_fired, changed_with_fired, in_without_fired, in_without_acquired, of_fired, same_row, other_row}
use Rattle.qz_open.proofs.Clients.{in_without_trigger}

-- Acquire, Release and Misfires.

in_with_acquired : (me : MemberData) (T : SchedulerTables) (t : TriggerData) (f : FiredData) → Has f T.fired → Has f (with_acquired me T t).fired
unfolding with_acquired
in_with_acquired me T t f has = in_put_fired (acquired_row T.next_entry me t (stored_job t.spec.job T.jobs)) T.fired f has

in_acquire_each : (me : MemberData) (T : SchedulerTables) (ts : List TriggerData) (f : FiredData) → Has f T.fired → Has f (fold (with_acquired me) T ts).fired
in_acquire_each me T [] f has = has
in_acquire_each me T (t ∷ ts) f has = in_acquire_each me (with_acquired me T t) ts f (in_with_acquired me T t f has)

module _ (T T' : SchedulerTables) (who : Actor) (c : Command) (m : ℤ) (me : MemberData) (r : Reply) where
  pub facts-acquire : (no_later window : ℤ) (max : ℕ) → acquire T m me no_later window max ≡ accepted T' r → ExecutionFacts T who c r T'
  facts-acquire no_later window max e =
      accepted_facts T _ T' who c _ r (passes (or_refusal (node_refusal T me) (acquire_refusal T max)) _ T' r e).outcome
      (steady T who c _ _ refl (λ f has executes. in_acquire_each me T (chosen T m (no_later +ℤ window) max) f has))

  facts-release_row : (entry : ℕ) (o : Option FiredData) → TablesValid T → fired_of entry T.fired ≡ o → release_row T m me o ≡ accepted T' r → ExecutionFacts T who c r T'
  facts-release_row entry None valid found e = absurd (cc)
  facts-release_row entry (Some f) valid found e =
      let way = passes (acquired_refusal me f) _ T' r e in
      accepted_facts T _ T' who c _ r way.outcome
      (steady T who c _ _ refl (λ g has executes. in_without_fired f.entry T.fired g has (other_row T entry f g valid found (acquired_clear me f way.clear) has executes)))

  pub facts-release : (entry : ℕ) → TablesValid T → release T m me entry ≡ accepted T' r → ExecutionFacts T who c r T'
  facts-release entry valid e = facts-release_row entry (fired_of entry T.fired) valid refl (passes (node_refusal T me) _ T' r e).outcome

  pub facts-misfires : misfires T m me ≡ accepted T' r → ExecutionFacts T who c r T'
  facts-misfires e = accepted_facts T _ T' who c _ r (passes (node_refusal T me) _ T' r e).outcome (steady T who c _ _ refl (λ f has executes. has))

-- Fire.

in_without_siblings : (b : Bool) (job : Key) (rows : List FiredData) (f : FiredData) → Has f rows → is_acquired f.state ≡ false → Has f (without_siblings b job rows)
in_without_siblings true job rows f has executes = in_without_acquired (is_row_of_job job) rows f has executes
in_without_siblings false job rows f has executes = has

-- a member's own row has its name
own_row : (me : MemberData) (f : FiredData) → owner_refusal me f ≡ None → is_of me f ≡ true
unfolding owner_refusal
own_row me f clear = not-false (is_of me f) (not_refused (not (is_of me f)) _ None clear).0

own_name : (me : MemberData) (f : FiredData) → is_of me f ≡ true → same_text me.node f.node ≡ true
unfolding is_of
own_name me f own = (and_parts (same_text me.node f.node) (me.epoch == f.epoch) own).0

own_acquired : (me : MemberData) (f : FiredData) → acquired_refusal me f ≡ None → same_text me.node f.node ≡ true
unfolding acquired_refusal
own_acquired me f clear = own_name me f (own_row me f (no_first (owner_refusal me f) _ clear).0)

fire_clear : (T : SchedulerTables) (m : ℤ) (me : MemberData) (f : FiredData) → fire_refusal T m me f ≡ None → acquired_refusal me f ≡ None
unfolding fire_refusal
fire_clear T m me f clear = (no_first (acquired_refusal me f) (early m (next_of f.trigger T.triggers)) clear).0

module _ (T : SchedulerTables) (c : Command) (m : ℤ) (me : MemberData) (f : FiredData) (job : JobData) (next : Option ℤ) (valid : TablesValid T) (found : fired_of f.entry T.fired ≡ Some f)
    (taken : is_acquired f.state ≡ true) (own : same_text me.node f.node ≡ true) (key : job.key ≡ f.job) where
  abbrev begun_row : FiredData
  begun_row = begun m job.no_concurrent job.requests_recovery f

  abbrev fired_reply : Reply
  fired_reply = reply.Fired f.entry f.scheduled m next f.trigger job

  in_with_begun : (g : FiredData) → Has g T.fired → is_acquired g.state ≡ false → Has g (with_begun T m f job next).fired
  unfolding with_begun
  in_with_begun g has executes =
      in_without_siblings job.no_concurrent f.job (with_fired f.entry (begun m job.no_concurrent job.requests_recovery) T.fired) g
      (in_with_fired f.entry (begun m job.no_concurrent job.requests_recovery) T.fired g has (other_row T f.entry f g valid found taken has executes)) executes

  begun_stands : Has begun_row (with_begun T m f job next).fired
  unfolding with_begun
  begun_stands =
      in_without_siblings job.no_concurrent f.job (with_fired f.entry (begun m job.no_concurrent job.requests_recovery) T.fired) begun_row
      (changed_with_fired f.entry (begun m job.no_concurrent job.requests_recovery) T.fired f (of_fired f.entry T.fired f found) (eq-eqb f.entry f.entry refl)) refl

  begins_here : Begins T (Node me) f.entry job (with_begun T m f job next)
  begins_here = record {
    me = me;
    by = refl;
    row = begun_row;
    stands = begun_stands;
    entry = refl;
    node = own;
    job = sym key;
    executes = refl;
    no_concurrent = refl;
    is_new = λ g has same. ap (λ (h : FiredData). is_acquired h.state) (same_row T f.entry f g valid found has same) ∙ taken;
  }

  facts-with_begun : ExecutionFacts T (Node me) c fired_reply (with_begun T m f job next)
  facts-with_begun = record {
    stays = λ g has executes. inl (in_with_begun g has executes);
    begins = λ x scheduled at then trigger j is.
        let same : fired_reply ≡ reply.Fired x scheduled at then trigger j = is in
        let entry : f.entry ≡ x = cc in
        let one : job ≡ j = cc in
        subst (λ (i : JobData). Begins T (Node me) x i (with_begun T m f job next)) one (subst (λ (n : ℕ). Begins T (Node me) n job (with_begun T m f job next)) entry begins_here);
  }

facts-fire_row : (T T' : SchedulerTables) (c : Command) (m : ℤ) (me : MemberData) (entry : ℕ) (o : Option FiredData) (r : Reply) → TablesValid T → fired_of entry T.fired ≡ o → fire_row T m me o ≡ accepted T' r → ExecutionFacts T (Node me) c r T'
facts-fire_row T T' c m me entry None r valid found e = absurd (cc)
facts-fire_row T T' c m me entry (Some f) r valid found e =
    let way = passes (fire_refusal T m me f) _ T' r e in
    let clear = fire_clear T m me f way.clear in
    let row = subst (λ n. fired_of n T.fired ≡ Some f) (fired_of-entry entry f T.fired found) found in
    accepted_facts T _ T' (Node me) c _ r way.outcome
    (facts-with_begun T c m me f (stored_job f.job T.jobs) (following T f) valid row (acquired_clear me f clear) (own_acquired me f clear) (stored_key f.job T.jobs (job_of f.job T.jobs) refl))

pub facts-fire : (T T' : SchedulerTables) (c : Command) (m : ℤ) (me : MemberData) (entry : ℕ) (r : Reply) → TablesValid T → fire T m me entry ≡ accepted T' r → ExecutionFacts T (Node me) c r T'
facts-fire T T' c m me entry r valid e = facts-fire_row T T' c m me entry (fired_of entry T.fired) r valid refl (passes (node_refusal T me) _ T' r e).outcome

-- Complete.

in_trigger_ended : (T : SchedulerTables) (key : Key) (s : _) (f : FiredData) → Has f T.fired → is_acquired f.state ≡ false → Has f (with_trigger_ended T key s).fired
unfolding with_trigger_ended
in_trigger_ended T key s f has executes = in_without_acquired (is_row_of_trigger key) T.fired f has executes

in_job_ended : (T : SchedulerTables) (job : Key) (s : _) (f : FiredData) → Has f T.fired → is_acquired f.state ≡ false → Has f (with_job_ended T job s).fired
unfolding with_job_ended
in_job_ended T job s f has executes = in_without_acquired (is_row_of_job job) T.fired f has executes

in_with_code : (code : Code) (T : SchedulerTables) (g f : FiredData) → Has f T.fired → is_acquired f.state ≡ false → Has f (with_code code T g).fired
in_with_code Noop T g f has executes = has
in_with_code ReExecuteJob T g f has executes = has
in_with_code SetTriggerComplete T g f has executes = in_trigger_ended T g.trigger _ f has executes
in_with_code DeleteTrigger T g f has executes = in_without_trigger T (trigger_of g.trigger T.triggers) f has executes
in_with_code SetAllJobTriggersComplete T g f has executes = in_job_ended T g.job _ f has executes
in_with_code SetTriggerError T g f has executes = in_trigger_ended T g.trigger _ f has executes
in_with_code SetAllJobTriggersError T g f has executes = in_job_ended T g.job _ f has executes

in_without_execution : (T : SchedulerTables) (g f : FiredData) → Has f T.fired → (g.entry == f.entry) ≡ false → Has f (without_execution T g).fired
unfolding without_execution
in_without_execution T g f has differ = in_without_fired g.entry T.fired f has differ

in_without_finished : (code : Code) (T : SchedulerTables) (key : Key) (f : FiredData) → Has f T.fired → is_acquired f.state ≡ false → Has f (without_finished code T key).fired
in_without_finished Noop T key f has executes = in_without_trigger T (finished T.fired (trigger_of key T.triggers)) f has executes
in_without_finished code T key f has executes = has

in_completed : (T : SchedulerTables) (g : FiredData) (code : Code) (f : FiredData) → Has f T.fired → is_acquired f.state ≡ false → (g.entry == f.entry) ≡ false → Has f (completed T g code).fired
in_completed T g code f has executes differ =
    in_without_finished code (without_execution (with_code code T g) g) g.trigger f (in_without_execution (with_code code T g) g f (in_with_code code T g f has executes) differ) executes

module _ (T T' : SchedulerTables) (m : ℤ) (me : MemberData) (entry : ℕ) (given : Code) (r : Reply) where
  abbrev c : Command
  c = Complete entry given

  facts-completed : (f : FiredData) (code : Code) → accepted (record (completed T f code) { last_moment = m }) (reply.Completed f.entry) ≡ accepted T' r → ExecutionFacts T (Node me) c r T'
  facts-completed f code e = accepted_facts T _ T' (Node me) c _ r e (record {
    stays = λ g has executes. elim (f.entry == g.entry) as (λ b. (f.entry == g.entry) ≡ b → Has g (completed T f code).fired ⊎ Ends (Node me) c (reply.Completed f.entry) g) [
      | true ↦ λ same. inr (completes me entry given refl refl (ap reply.Completed (eqb-true f.entry g.entry same)))
      | false ↦ λ differ. inl (in_completed T f code g has executes differ)
    ] refl;
    begins = none_begins T (record (completed T f code) { last_moment = m }) (Node me) (reply.Completed f.entry) refl;
  })

  facts-complete_one : (f : FiredData) (code : Code) → complete_one T m f code ≡ accepted T' r → ExecutionFacts T (Node me) c r T'
  facts-complete_one f ReExecuteJob e = accepted_facts T _ T' (Node me) c _ r e (steady T (Node me) c _ _ refl (λ g has executes. has))
  facts-complete_one f code e = facts-completed f code e

  facts-complete_row : (o : Option FiredData) → complete_row T m me o given ≡ accepted T' r → ExecutionFacts T (Node me) c r T'
  facts-complete_row None e = absurd (cc)
  facts-complete_row (Some f) e = facts-complete_one f given (passes (complete_refusal me f) _ T' r e).outcome

  pub facts-complete : complete T m me entry given ≡ accepted T' r → ExecutionFacts T (Node me) c r T'
  facts-complete e = facts-complete_row (fired_of entry T.fired) (passes (node_refusal T me) _ T' r e).outcome

-- Leave.

none_lost : (T : SchedulerTables) (me : MemberData) → leave_refusal T me ≡ None → length (lost_of me T.fired) ≤ 0
unfolding leave_refusal
none_lost T me clear = ltb-false 0 (length (lost_of me T.fired)) (not_refused (nat_lt 0 (length (lost_of me T.fired))) (InUse (length (lost_of me T.fired))) None clear).0

-- where a member has no execution, each row of an execution is another's
not_own : (me : MemberData) (rows : List FiredData) (f : FiredData) → length (lost_of me rows) ≤ 0 → Has f rows → is_acquired f.state ≡ false → is_of me f ≡ false
unfolding lost_of
not_own me rows f none has executes =
    ap (λ b. not b && is_of me f) (sym executes) ∙ of_all (λ g. (not (is_acquired g.state) && is_of me g) ≡ false) rows f (none-filtered (λ g. not (is_acquired g.state) && is_of me g) rows none) has

in_others : (me : MemberData) (rows : List FiredData) (f : FiredData) → Has f rows → is_of me f ≡ false → Has f (rows_of_others me rows)
unfolding rows_of_others
in_others me rows f has other = in_filter (λ g. not (is_of me g)) rows f has (ap not other)

pub facts-leave : (T T' : SchedulerTables) (who : Actor) (c : Command) (m : ℤ) (me : MemberData) (r : Reply) → leave T m me ≡ accepted T' r → ExecutionFacts T who c r T'
facts-leave T T' who c m me r e =
    let way = passes (or_refusal (node_refusal T me) (leave_refusal T me)) _ T' r e in
    let none = none_lost T me (no_first (node_refusal T me) (leave_refusal T me) way.clear).1 in
    accepted_facts T _ T' who c _ r way.outcome (steady T who c _ _ refl (λ f has executes. in_others me T.fired f has (not_own me T.fired f none has executes)))

-- such a row hasn't its name either: in valid tables each row of a member's name is its own
same_epoch : (o : Option MemberData) (x y : ℕ) → IsSomeAnd o (λ m. m.epoch ≡ x) → IsSomeAnd o (λ m. m.epoch ≡ y) → x ≡ y
same_epoch None x y one two = absurd one
same_epoch (Some member) x y one two = sym one ∙ two

own_by_name : (T : SchedulerTables) (me : MemberData) (f : FiredData) → TablesValid T → IsSomeAnd (member_of me.node T.members) (λ m. m.epoch ≡ me.epoch) → Has f T.fired → same_text me.node f.node ≡ true → is_of me f ≡ true
unfolding is_of
own_by_name T me f valid live has named =
    let other = of_all (λ g. IsSomeAnd (member_of g.node T.members) (λ m. m.epoch ≡ g.epoch)) T.fired f valid.rows_of_members.rows has in
    let here = subst (λ (o : Option MemberData). IsSomeAnd o (λ m. m.epoch ≡ f.epoch)) (sym (member_of-alike me.node f.node T.members named)) other in
    and_from (same_text me.node f.node) (me.epoch == f.epoch) named (eq-eqb me.epoch f.epoch (same_epoch (member_of me.node T.members) me.epoch f.epoch live here))

pub none_of_leaver : (T T' : SchedulerTables) (m : ℤ) (me : MemberData) (r : Reply) → TablesValid T → leave T m me ≡ accepted T' r → (f : FiredData) → Has f T.fired → is_acquired f.state ≡ false → same_text me.node f.node ≡ false
none_of_leaver T T' m me r valid e f has executes =
    let clear = no_first (node_refusal T me) (leave_refusal T me) (passes (or_refusal (node_refusal T me) (leave_refusal T me)) _ T' r e).clear in
    false_from_ne_true (same_text me.node f.node) (λ named.
    let own = own_by_name T me f valid (member_of_actor T me clear.0) has named in
    let other = not_own me T.fired f (none_lost T me clear.1) has executes in
    absurd (cc))

pub leave_reply : (T T' : SchedulerTables) (m : ℤ) (me : MemberData) (r : Reply) → leave T m me ≡ accepted T' r → r ≡ reply.Done
leave_reply T T' m me r e = let way = (passes (or_refusal (node_refusal T me) (leave_refusal T me)) _ T' r e).outcome in cc

-- Recover and Join.

pub text_trans : (a b c : List ℕ) → same_text a b ≡ true → same_text b c ≡ true → same_text a c ≡ true
text_trans a b c first second = same_text_laws.congr a b c first ∙ second

-- where the rows of a member go
facts-recovered : (T U : SchedulerTables) (who : Actor) (c : Command) (r : Reply) (node : List ℕ) (member : MemberData) → member_of node T.members ≡ Some member → U.fired ≡ rows_of_others member T.fired → is_begun r ≡ false
    → ((f : FiredData) → same_text node f.node ≡ true → Ends who c r f) → ExecutionFacts T who c r U
facts-recovered T U who c r node member found rows none ends = record {
  stays = λ g has executes. elim (is_of member g) as (λ b. is_of member g ≡ b → Has g U.fired ⊎ Ends who c r g) [
    | true ↦ λ own. inr (ends g (text_trans node member.node g.node (member_of-node node member T.members found) (own_name member g own)))
    | false ↦ λ other. inl (subst (Has g) (sym rows) (in_others member T.fired g has other))
  ] refl;
  begins = none_begins T U who r none;
}

rows-recovered : (T : SchedulerTables) (member : MemberData) → (recovered T member).fired ≡ rows_of_others member T.fired
unfolding recovered
rows-recovered T member = refl

rows-joined : (T : SchedulerTables) (node : List ℕ) → (with_new_member T node).fired ≡ T.fired
unfolding with_new_member
rows-joined T node = refl

facts-recover_member : (T T' : SchedulerTables) (m : ℤ) (me : MemberData) (node : List ℕ) (o : Option MemberData) (r : Reply) → member_of node T.members ≡ o → recover_member T m o ≡ accepted T' r → ExecutionFacts T (Node me) (Recover node) r T'
facts-recover_member T T' m me node None r found e = absurd (cc)
facts-recover_member T T' m me node (Some member) r found e =
    accepted_facts T _ T' (Node me) (Recover node) _ r (passes (recovery_refusal T member) _ T' r e).outcome
    (facts-recovered T _ (Node me) (Recover node) _ node member found (rows-recovered T member) refl (λ f same. recovers me node refl refl same))

pub facts-recover : (T T' : SchedulerTables) (m : ℤ) (me : MemberData) (node : List ℕ) (r : Reply) → recover T m me node ≡ accepted T' r → ExecutionFacts T (Node me) (Recover node) r T'
facts-recover T T' m me node r e = facts-recover_member T T' m me node (member_of node T.members) r refl (passes (node_refusal T me) _ T' r e).outcome

facts-join_at : (T T' : SchedulerTables) (who : Actor) (m : ℤ) (node : List ℕ) (o : Option MemberData) (r : Reply) → member_of node T.members ≡ o → unless (join_refusal T o) (joined T m node o) ≡ accepted T' r → ExecutionFacts T who (Join node) r T'
facts-join_at T T' who m node None r found e =
    accepted_facts T _ T' who (Join node) _ r (passes (join_refusal T None) _ T' r e).outcome (steady T who (Join node) _ _ refl (λ f has executes. subst (Has f) (sym (rows-joined T node)) has))
facts-join_at T T' who m node (Some member) r found e =
    accepted_facts T _ T' who (Join node) _ r (passes (join_refusal T (Some member)) _ T' r e).outcome
    (facts-recovered T _ who (Join node) _ node member found (rows-joined (recovered T member) node ∙ rows-recovered T member) refl (λ f same. joins node refl same))

pub facts-join : (T T' : SchedulerTables) (who : Actor) (m : ℤ) (node : List ℕ) (r : Reply) → join T m node ≡ accepted T' r → ExecutionFacts T who (Join node) r T'
facts-join T T' who m node r e = facts-join_at T T' who m node (member_of node T.members) r refl e
