-- A member is recovered: its executions are lost, and no row of theirs is left.
use Rattle.std.proofs.Common.{◌≡◌, ℕ, ◌<◌, ◌≤◌, ◌==◌, ℤ, true, false, not, ◌&&◌, List, map, filter, count_by, Option, Some, None, refl, sym, ap, ◌∙◌, subst, arith}
use Rattle.std.specs.List.{AllByRecursion}
use Rattle.std.proofs.lemmas.Bool.{and_parts, false_from_ne_true}
use Rattle.qz_types.specs.Rows.{MemberData, FiredData}
use Rattle.qz_types.specs.declared.commands.Command.{Command}
use Rattle.qz_types.specs.declared.commands.Command.TheVariants.{Join, Recover}
use Rattle.qz_types.specs.declared.fired.FiredState.{FiredState}
use Rattle.qz_types.specs.declared.fired.FiredState.TheVariants.{Acquired, Executing}
use Rattle.qz_types.specs.declared.replies.Reply.{Reply}
use Rattle.qz_types.specs.States.{is_acquired}
use Rattle.qz_types.specs.Tables.{SchedulerTables}
use Rattle.qz_types.specs.Outcomes.{accepted, unless}
use Rattle.qz_types.specs.Words.{fired_of, member_of, without_member}
use Rattle.qz_model.specs.Invariant.{TablesValid}
use Rattle.qz_model.specs.Membership.{node_refusal}
use Rattle.qz_model.specs.Recovery.{lost_of, rows_of_others, triggers_left, recovered, recovery_refusal, recover_member, recover, with_new_member, join_refusal, joined, join}
use Rattle.qz_model.specs.Tests.{is_of}
use Rattle.qz_model.proofs.Changes.{passes}
use Rattle.qz_model.proofs.RowLaws.{All-fired_of, each_fired, only_fired, fired_of-none, All-put_member, All-without_member}
use Rattle.qz_model.proofs.RowPoints.{All-from, All-weaker, All-filter, All-left, filter-alike}
use Rattle.qz_laws.specs.Losses.{is_recovery, added, IsFor, AreForIt, is_executing, is_held_by, executions_of, lost_as, lost_in}
use Rattle.qz_laws.proofs.Counts.{All-mapped}
use Rattle.qz_laws.proofs.Facts.{asked_for, IsNot, Origin, EntryFacts}
use Rattle.qz_laws.proofs.Quiet.{all_stood, quiet_facts}
use Rattle.qz_laws.proofs.QuietChanges.{stood-others}
use Rattle.qz_laws.proofs.QuietNodes.{new_is_not, quiet-join}
use Rattle.qz_laws.proofs.Recoveries.{recoveries_added, added_are_for}

begun_or_not : (s : FiredState) → is_executing s ≡ not (is_acquired s)
begun_or_not Acquired = refl
begun_or_not Executing = refl

-- the member's executions, as the law and the model see them
same_executions : (member : MemberData) (fired : List FiredData) → executions_of (Some member) fired ≡ lost_of member fired
unfolding lost_of is_held_by is_of
same_executions member fired =
    filter-alike (λ f. is_executing f.state && is_held_by member f) (λ f. not (is_acquired f.state) && is_of member f) fired
    (All-from (λ f. (is_executing f.state && is_held_by member f) ≡ (not (is_acquired f.state) && is_of member f)) fired (λ f. ap (λ b. b && is_of member f) (begun_or_not f.state)))

module _ (T : SchedulerTables) (member : MemberData) (valid : TablesValid T) where
  lost_found : AllByRecursion (λ f. fired_of f.entry T.fired ≡ Some f) (lost_of member T.fired)
  unfolding lost_of
  lost_found =
      All-filter (λ f. fired_of f.entry T.fired ≡ Some f) (λ f. not (is_acquired f.state) && is_of member f) T.fired
      (All-weaker (λ f. fired_of f.entry T.fired ≡ Some f) (λ f. (not (is_acquired f.state) && is_of member f) ≡ true → fired_of f.entry T.fired ≡ Some f) T.fired (λ f found is. found)
      (each_fired T.fired valid.references_and_limits.ordered.fired))

  row_gone : (f : FiredData) → fired_of f.entry T.fired ≡ Some f → is_of member f ≡ true → fired_of f.entry (rows_of_others member T.fired) ≡ None
  unfolding rows_of_others
  row_gone f found mine =
      fired_of-none f.entry (filter (λ g. not (is_of member g)) T.fired)
      (All-left (λ g. (f.entry == g.entry) ≡ true → g ≡ f) (λ g. (f.entry == g.entry) ≡ false) (is_of member) T.fired (only_fired f.entry f T.fired valid.references_and_limits.ordered.fired found)
      (λ g away only. false_from_ne_true (f.entry == g.entry) (λ at. let own : is_of member g ≡ true = ap (is_of member) (only at) ∙ mine in absurd (cc))))

  lost_gone : AllByRecursion (λ f. fired_of f.entry (rows_of_others member T.fired) ≡ None) (lost_of member T.fired)
  unfolding lost_of
  lost_gone =
      All-filter (λ f. fired_of f.entry (rows_of_others member T.fired) ≡ None) (λ f. not (is_acquired f.state) && is_of member f) T.fired
      (All-weaker (λ f. fired_of f.entry T.fired ≡ Some f) (λ f. (not (is_acquired f.state) && is_of member f) ≡ true → fired_of f.entry (rows_of_others member T.fired) ≡ None) T.fired
      (λ f found is. row_gone f found (and_parts (not (is_acquired f.state)) (is_of member f) is).1)
      (each_fired T.fired valid.references_and_limits.ordered.fired))

  for_it : (U : SchedulerTables) → U.triggers ≡ triggers_left T member → (f : FiredData) → fired_of f.entry T.fired ≡ Some f → AllByRecursion (λ t. is_recovery f.entry t ≡ true → IsFor f t) (added T U)
  for_it U triggers f found =
      let below : f.entry < T.next_entry = All-fired_of (λ g. g.entry < T.next_entry) f.entry f T.fired valid.fresh.fired found in
      added_are_for T member valid f.entry (omega (arith, valid.references_and_limits.limits.next_entry)) U triggers lost_found f refl found

  losing_facts : (c : Command) (r : Reply) (U : SchedulerTables) → lost_in T c ≡ map (lost_as T) (executions_of (Some member) T.fired) → U.next_entry ≡ T.next_entry → U.fired ≡ rows_of_others member T.fired
      → U.triggers ≡ triggers_left T member → T.next_epoch ≤ U.next_epoch → ((me : MemberData) → me.epoch < T.next_epoch → AllByRecursion (IsNot me) T.members → AllByRecursion (IsNot me) U.members)
      → EntryFacts T c r U
  losing_facts c r U losses entry rows triggers epoch members =
      let all : lost_in T c ≡ map (lost_as T) (lost_of member T.fired) = losses ∙ ap (map (lost_as T)) (same_executions member T.fired) in record {
        next_entry = omega (arith, entry);
        origins = subst (AllByRecursion (Origin T r)) (sym rows) (stood-others T r member T.fired (all_stood T r valid));
        gone = subst (AllByRecursion (λ l. fired_of l.row.entry U.fired ≡ None)) (sym all)
            (All-mapped (λ l. fired_of l.row.entry U.fired ≡ None) (lost_as T) (lost_of member T.fired)
            (subst (λ (fs : List FiredData). AllByRecursion (λ f. fired_of f.entry fs ≡ None) (lost_of member T.fired)) (sym rows) lost_gone));
        recovers = λ number small. recoveries_added T member valid number small U triggers lost_found ∙ ap (count_by (asked_for number)) (sym all);
        faithful = subst (AllByRecursion (AreForIt T U)) (sym all)
            (All-mapped (AreForIt T U) (lost_as T) (lost_of member T.fired)
            (All-weaker (λ f. fired_of f.entry T.fired ≡ Some f) (λ f. AllByRecursion (λ t. is_recovery f.entry t ≡ true → IsFor f t) (added T U)) (lost_of member T.fired) (for_it U triggers) lost_found));
        next_epoch = epoch;
        members = members;
      }

-- Recover.

accepted_facts : (T U T' : SchedulerTables) (c : Command) (s r : Reply) → accepted U s ≡ accepted T' r → EntryFacts T c s U → EntryFacts T c r T'
accepted_facts T U T' c s r is facts =
    let tables : U ≡ T' = cc in
    let reply : s ≡ r = cc in
    subst (λ (q : Reply). EntryFacts T c q T') reply (subst (λ (V : SchedulerTables). EntryFacts T c s V) tables facts)

facts-recovered : (T : SchedulerTables) (r : Reply) (m : ℤ) (node : List ℕ) (member : MemberData) → TablesValid T → member_of node T.members ≡ Some member
    → EntryFacts T (Recover node) r (record (recovered T member) { last_moment = m })
unfolding recovered
facts-recovered T r m node member valid found =
    losing_facts T member valid (Recover node) r _ (ap (λ (o : Option MemberData). map (lost_as T) (executions_of o T.fired)) found) refl refl refl (omega arith)
    (λ me below none. All-without_member (IsNot me) (IsNot me) member.node T.members none (λ n differ is. is))

facts-recover_member : (T T' : SchedulerTables) (m : ℤ) (node : List ℕ) (o : Option MemberData) (r : Reply) → TablesValid T → member_of node T.members ≡ o → recover_member T m o ≡ accepted T' r → EntryFacts T (Recover node) r T'
facts-recover_member T T' m node None r valid found e = absurd (cc)
facts-recover_member T T' m node (Some member) r valid found e = accepted_facts T _ T' (Recover node) _ r (passes (recovery_refusal T member) _ T' r e).outcome (facts-recovered T _ m node member valid found)

pub facts-recover : (T T' : SchedulerTables) (m : ℤ) (me : MemberData) (node : List ℕ) (r : Reply) → TablesValid T → recover T m me node ≡ accepted T' r → EntryFacts T (Recover node) r T'
facts-recover T T' m me node r valid e = facts-recover_member T T' m node (member_of node T.members) r valid refl (passes (node_refusal T me) _ T' r e).outcome

-- Join.

facts-rejoined : (T : SchedulerTables) (r : Reply) (m : ℤ) (node : List ℕ) (member : MemberData) → TablesValid T → member_of node T.members ≡ Some member
    → EntryFacts T (Join node) r (record (with_new_member (recovered T member) node) { last_moment = m })
unfolding recovered with_new_member
facts-rejoined T r m node member valid found =
    losing_facts T member valid (Join node) r _ (ap (λ (o : Option MemberData). map (lost_as T) (executions_of o T.fired)) found) refl refl refl (omega arith)
    (λ me below none. All-put_member (IsNot me) (record { node = node; epoch = T.next_epoch }) (without_member member.node T.members) (new_is_not T node me below)
    (All-without_member (IsNot me) (IsNot me) member.node T.members none (λ n differ is. is)))

facts-join_at : (T T' : SchedulerTables) (m : ℤ) (node : List ℕ) (o : Option MemberData) (r : Reply) → TablesValid T → member_of node T.members ≡ o → unless (join_refusal T o) (joined T m node o) ≡ accepted T' r
    → EntryFacts T (Join node) r T'
facts-join_at T T' m node None r valid found e =
    quiet_facts T r T' (Join node) (ap (λ (o : Option MemberData). map (lost_as T) (executions_of o T.fired)) found) (quiet-join T T' m node r valid (passes (join_refusal T None) _ T' r e).outcome)
facts-join_at T T' m node (Some member) r valid found e = accepted_facts T _ T' (Join node) _ r (passes (join_refusal T (Some member)) _ T' r e).outcome (facts-rejoined T _ m node member valid found)

pub facts-join : (T T' : SchedulerTables) (m : ℤ) (node : List ℕ) (r : Reply) → TablesValid T → join T m node ≡ accepted T' r → EntryFacts T (Join node) r T'
facts-join T T' m node r valid e = facts-join_at T T' m node (member_of node T.members) r valid refl e
