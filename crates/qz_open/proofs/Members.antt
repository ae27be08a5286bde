-- The same of what a member submits.
use Rattle.std.proofs.Common.{◌≡◌, ℕ, ℤ, ◌≤◌, ◌+◌, ◌==◌, true, false, cond, List, ◌∷◌, count_by, Option, Some, is_some, IsTrue, refl, sym, ap, ◌∙◌, subst, arith}
use Rattle.std.proofs.lemmas.Bool.{eqb-true, eq-eqb, false_from_ne_true}
use Rattle.qz_types.specs.Entries.{EntryData, is_entry}
use Rattle.qz_types.specs.Rows.{JobData, MemberData}
use Rattle.qz_types.specs.States.{is_acquired}
use Rattle.qz_types.specs.Tables.{recorded_moment}
use Rattle.qz_types.specs.Words.{same_text, member_of, without_member}
use Rattle.qz_types.specs.declared.keys.Key.{Key}
use Rattle.qz_types.specs.declared.commands.Actor.TheVariants as actor
use Rattle.qz_types.specs.declared.commands.Command.{Command}
use Rattle.qz_types.specs.declared.commands.Command.TheVariants as command
use Rattle.qz_types.specs.declared.replies.Reply.{Reply}
use Rattle.qz_types.specs.declared.replies.Reply.TheVariants as reply
use Rattle.qz_model.specs.History.{replay}
use Rattle.qz_model.proofs.NamedRows.{same_text_laws}
use Rattle.qz_model.proofs.RowLaws.{member_of-node, member_of-without_member}
use Rattle.qz_model.proofs.RowPoints.{All-weaker, count_by-cons, count_by-none}
use Rattle.qz_stores.specs.Stores.{Appends}
use Rattle.qz_trigger_store.specs.Entries.{trigger_entry}
use Rattle.qz_cluster.specs.Script.{entry_of, held_after_command}
use Rattle.qz_cluster.specs.Steps.{ClusterState}
use Rattle.qz_open.specs.Opened.{Execution, without_entry, without_node, open_after_reply, open_after_command}
use Rattle.qz_open.proofs.Facts.{Ends, completes, recovers, joins, Begins}
use Rattle.qz_open.proofs.Nodes.{text_trans, none_of_leaver, leave_reply}
use Rattle.qz_open.proofs.Steps.{way, Stands, Holds, true_is_false, apart_without, left_out, entry_facts, valid_then, goes_on}

module _ (S S' : ClusterState) (os : List Execution) (node : List ℕ) (c : Command) (at : ℤ) (me : MemberData) (r : Reply) (good : IsTrue (is_entry (entry_of (actor.Node me) c at)))
    (no_join : (name : List ℕ) → c ≡ command.Join name → ⊥) (no_recovery : (name : List ℕ) → c ≡ command.Recover name → ⊥) (on : Appends trigger_entry (entry_of (actor.Node me) c at) r S.triggers S'.triggers) (h : Holds S os) where
  abbrev e : EntryData
  e = entry_of (actor.Node me) c at

  ends_none : (o : Execution) → ((entry : ℕ) (code : _) → c ≡ command.Complete entry code → r ≡ reply.Completed o.entry → ⊥) → (was : Stands S o) → Ends (actor.Node me) c r was.row → ⊥
  ends_none o completes_not was (completes other entry code by is replied) = completes_not entry code is (replied ∙ ap reply.Completed was.entry)
  ends_none o completes_not was (recovers other failed by is same) = no_recovery failed is
  ends_none o completes_not was (joins name is same) = no_join name is

  stays : (o : Execution) → ((entry : ℕ) (code : _) → c ≡ command.Complete entry code → r ≡ reply.Completed o.entry → ⊥) → member_of o.node S'.held ≡ member_of o.node S.held → Stands S o → Stands S' o
  stays o completes_not keeps was = goes_on S S' os e r good on h o (ends_none o completes_not) keeps was

  module _ (mine : member_of node S.held ≡ Some me) (held : S'.held ≡ S.held) where
    holds_else : ((x : ℕ) → r ≡ reply.Completed x → ⊥) → Holds S' os
    holds_else completes_not = record {
      valid = valid_then S S' os e r good on h;
      stands = All-weaker (Stands S) (Stands S') os (λ o was. stays o (λ entry code is replied. completes_not o.entry replied) (ap (member_of o.node) held) was) h.stands;
      apart = h.apart;
    }

    holds_completed : (x : ℕ) → r ≡ reply.Completed x → Holds S' (without_entry x os)
    holds_completed x is = record {
      valid = valid_then S S' os e r good on h;
      stands = left_out S S' (λ o. x == o.entry) os
          (λ o other was. stays o (λ entry code c_is replied. let same : x ≡ o.entry = cc in true_is_false (x == o.entry) (eq-eqb x o.entry same) other) (ap (member_of o.node) held) was) h.stands;
      apart = apart_without (λ o. x == o.entry) os h.apart;
    }

    module _ (x : ℕ) (scheduled fired : ℤ) (next : Option ℤ) (trigger : Key) (j : JobData) (is : r ≡ reply.Fired x scheduled fired next trigger j) where
      abbrev new : Execution
      new = record { entry = x; node = node; job = j.key; no_concurrent = j.no_concurrent }

      begins : Begins (replay S.triggers.history) (actor.Node me) x j (replay S'.triggers.history)
      begins = (entry_facts S S' os e r good on h).begins x scheduled fired next trigger j is

      new_stands : Stands S' new
      new_stands =
          let b = begins in
          let own : b.me ≡ me = let by = b.by in cc in
          record {
            row = b.row;
            has = b.stands;
            entry = b.entry;
            node = same_text_laws.congr node me.node b.row.node (member_of-node node me S.held mine) ∙ subst (λ (m : MemberData). same_text m.node b.row.node ≡ true) own b.node;
            job = b.job;
            executes = b.executes;
            no_concurrent = b.no_concurrent;
            held = λ now. ap (λ (l : List MemberData). is_some (member_of node l)) held ∙ ap is_some mine;
          }

      -- none that is open has its entry number
      none_has_it : (k : ℕ) → k ≡ x → count_by (λ o. k == o.entry) os ≡ 0
      none_has_it k same =
          count_by-none (λ o. k == o.entry) os
          (All-weaker (Stands S) (λ o. (k == o.entry) ≡ false) os
          (λ o was. false_from_ne_true (k == o.entry) (λ also.
          true_is_false (is_acquired was.row.state) (begins.is_new was.row was.has (sym same ∙ eqb-true k o.entry also ∙ sym was.entry)) was.executes)) h.stands)

      new_apart : (k : ℕ) → count_by (λ o. k == o.entry) (new ∷ os) ≤ 1
      new_apart k =
          rw (count_by-cons (λ (o : Execution). k == o.entry) new os)
          (elim (k == x) as (λ b. (k == x) ≡ b → cond b 1 0 + count_by (λ o. k == o.entry) os ≤ 1) [
            | true ↦ λ same. omega (arith, none_has_it k (eqb-true k x same))
            | false ↦ λ differ. omega (arith, h.apart k)
          ] refl)

      holds_fired : Holds S' (new ∷ os)
      holds_fired = record {
        valid = valid_then S S' os e r good on h;
        stands = (new_stands, All-weaker (Stands S) (Stands S') os (λ o was. stays o (λ entry code c_is replied. absurd (cc)) (ap (member_of o.node) held) was) h.stands);
        apart = new_apart;
      }

-- A member that leaves has no execution.

none_left_behind : (S S' : ClusterState) (os : List Execution) (node : List ℕ) (at : ℤ) (me : MemberData) (r : Reply) → IsTrue (is_entry (entry_of (actor.Node me) command.Leave at))
    → Appends trigger_entry (entry_of (actor.Node me) command.Leave at) r S.triggers S'.triggers → Holds S os → member_of node S.held ≡ Some me → (o : Execution) → Stands S o → same_text node o.node ≡ false
none_left_behind S S' os node at me r good on h mine o was =
    let T = replay S.triggers.history in
    let left = way S S' os (entry_of (actor.Node me) command.Leave at) r good on h in
    false_from_ne_true (same_text node o.node) (λ same.
    let own : same_text me.node node ≡ true = same_text_laws.symm me.node node ∙ member_of-node node me S.held mine in
    let named : same_text me.node was.row.node ≡ true = text_trans me.node o.node was.row.node (text_trans me.node node o.node own same) was.node in
    true_is_false (same_text me.node was.row.node) named (none_of_leaver T (replay S'.triggers.history) (recorded_moment T at) me r h.valid left was.row was.has was.executes))

holds_left : (S S' : ClusterState) (os : List Execution) (node : List ℕ) (at : ℤ) (me : MemberData) (r : Reply) → IsTrue (is_entry (entry_of (actor.Node me) command.Leave at))
    → Appends trigger_entry (entry_of (actor.Node me) command.Leave at) r S.triggers S'.triggers → Holds S os → member_of node S.held ≡ Some me → S'.held ≡ without_member node S.held → Holds S' (open_after_reply os node r)
holds_left S S' os node at me r good on h mine held =
    let T = replay S.triggers.history in
    let e = entry_of (actor.Node me) command.Leave at in
    let replied = leave_reply T (replay S'.triggers.history) (recorded_moment T at) me r (way S S' os e r good on h) in
    subst (λ (q : Reply). Holds S' (open_after_reply os node q)) (sym replied) (record {
      valid = valid_then S S' os e r good on h;
      stands = All-weaker (Stands S) (Stands S') os
          (λ o was. stays S S' os node command.Leave at me r good (λ name is. absurd (cc)) (λ name is. absurd (cc)) on h o (λ entry code is done. absurd (cc))
          (ap (member_of o.node) held ∙ member_of-without_member node o.node S.held (none_left_behind S S' os node at me r good on h mine o was)) was) h.stands;
      apart = h.apart;
    })

-- Whoever is recovered has no execution then.

recovery_ends_own : (S : ClusterState) (me : MemberData) (failed : List ℕ) (r : Reply) (o : Execution) → same_text failed o.node ≡ false → (was : Stands S o) → Ends (actor.Node me) (command.Recover failed) r was.row → ⊥
recovery_ends_own S me failed r o other was (completes one entry code by is replied) = absurd (cc)
recovery_ends_own S me failed r o other was (recovers one name by is same) =
    let recovered : command.Recover failed ≡ command.Recover name = is in
    let one_name : name ≡ failed = cc in
    let own : same_text failed was.row.node ≡ true = subst (λ (n : List ℕ). same_text n was.row.node ≡ true) one_name same in
    true_is_false (same_text failed o.node) (same_text_laws.congr failed was.row.node o.node own ∙ same_text_laws.symm was.row.node o.node ∙ was.node) other
recovery_ends_own S me failed r o other was (joins name is same) = absurd (cc)

holds_recovered : (S S' : ClusterState) (os : List Execution) (failed : List ℕ) (at : ℤ) (me : MemberData) (r : Reply) → IsTrue (is_entry (entry_of (actor.Node me) (command.Recover failed) at))
    → Appends trigger_entry (entry_of (actor.Node me) (command.Recover failed) at) r S.triggers S'.triggers → Holds S os → S'.held ≡ S.held → Holds S' (without_node failed os)
holds_recovered S S' os failed at me r good on h held =
    let e = entry_of (actor.Node me) (command.Recover failed) at in
    record {
      valid = valid_then S S' os e r good on h;
      stands = left_out S S' (λ o. same_text failed o.node) os
          (λ o other was. goes_on S S' os e r good on h o (recovery_ends_own S me failed r o other) (ap (member_of o.node) held) was) h.stands;
      apart = apart_without (λ o. same_text failed o.node) os h.apart;
    }

-- by what it was replied
holds_reply : (S S' : ClusterState) (os : List Execution) (node : List ℕ) (c : Command) (at : ℤ) (me : MemberData) (r : Reply) → IsTrue (is_entry (entry_of (actor.Node me) c at)) → ((name : List ℕ) → c ≡ command.Join name → ⊥)
    → ((name : List ℕ) → c ≡ command.Recover name → ⊥) → Appends trigger_entry (entry_of (actor.Node me) c at) r S.triggers S'.triggers → Holds S os → member_of node S.held ≡ Some me → S'.held ≡ S.held → Holds S' (open_after_reply os node r)
holds_reply S S' os node c at me (reply.Fired x scheduled fired next trigger j) good no_join no_recovery on h mine held =
    holds_fired S S' os node c at me (reply.Fired x scheduled fired next trigger j) good no_join no_recovery on h mine held x scheduled fired next trigger j refl
holds_reply S S' os node c at me (reply.Completed x) good no_join no_recovery on h mine held = holds_completed S S' os node c at me (reply.Completed x) good no_join no_recovery on h mine held x refl
holds_reply S S' os node c at me r good no_join no_recovery on h mine held = holds_else S S' os node c at me r good no_join no_recovery on h mine held (λ x is. absurd (cc))

pub holds_command : (S S' : ClusterState) (os : List Execution) (node : List ℕ) (c : Command) (at : ℤ) (me : MemberData) (r : Reply) → IsTrue (is_entry (entry_of (actor.Node me) c at)) → ((name : List ℕ) → c ≡ command.Join name → ⊥)
    → Appends trigger_entry (entry_of (actor.Node me) c at) r S.triggers S'.triggers → Holds S os → member_of node S.held ≡ Some me → S'.held ≡ held_after_command node c S.held
    → Holds S' (open_after_command os node c r)
holds_command S S' os node command.Leave at me r good no_join on h mine held = holds_left S S' os node at me r good on h mine held
holds_command S S' os node (command.Recover failed) at me r good no_join on h mine held = holds_recovered S S' os failed at me r good on h held
holds_command S S' os node c at me r good no_join on h mine held = holds_reply S S' os node c at me r good no_join (λ name is. absurd (cc)) on h mine held
