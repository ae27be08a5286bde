-- What the law keeps from step to step: each open execution is a row that executes, and its node holds an epoch.
use Rattle.std.proofs.Common.{◌≡◌, ⊎_elim, ℕ, ℤ, ◌≤◌, ◌==◌, Bool, true, false, not, List, [], ◌∷◌, [], filter, count_by, Option, None, is_some, IsTrue, sym, ap, ◌∙◌, subst, arith}
use Rattle.std.specs.Prelude.{Ok}
use Rattle.std.specs.List.{AllByRecursion}
use Rattle.std.proofs.lemmas.Bool.{not-true}
use Rattle.qz_types.specs.Entries.{EntryData, is_entry}
use Rattle.qz_types.specs.Rows.{MemberData, FiredData}
use Rattle.qz_types.specs.States.{is_acquired}
use Rattle.qz_types.specs.Tables.{SchedulerTables}
use Rattle.qz_types.specs.Outcomes.{Outcome, accepted, refused}
use Rattle.qz_types.specs.Words.{same_text, member_of}
use Rattle.qz_types.specs.declared.commands.Actor.TheVariants as actor
use Rattle.qz_types.specs.declared.commands.Command.{Command}
use Rattle.qz_types.specs.declared.commands.Command.TheVariants as command
use Rattle.qz_types.specs.declared.replies.Reply.{Reply}
use Rattle.qz_model.specs.Transaction.{transaction}
use Rattle.qz_model.specs.History.{History, replay, tables_left}
use Rattle.qz_model.specs.Invariant.{TablesValid}
use Rattle.qz_model.proofs.Histories.{replay_from-append}
use Rattle.qz_model.proofs.Kept.{kept}
use Rattle.qz_model.proofs.NamedRows.{same_text_laws}
use Rattle.qz_model.proofs.RowPoints.{All-weaker, All-filter, count_by-left_le}
use Rattle.qz_stores.specs.Checkpoints.{Marks}
use Rattle.qz_stores.specs.Stores.{Same, Appends}
use Rattle.qz_trigger_store.specs.Entries.{answer_of, trigger_entry}
use Rattle.qz_trigger_store.proofs.Horizons.{accepted_anyway}
use Rattle.qz_cluster.specs.Asking.{held_after_resume}
use Rattle.qz_cluster.specs.Script.{entry_of, held_after_join}
use Rattle.qz_cluster.specs.Steps.{ClusterState}
use Rattle.qz_open.specs.Opened.{Execution, without_node}
use Rattle.qz_open.proofs.Lists.{Has}
use Rattle.qz_open.proofs.Facts.{Ends, completes, recovers, joins, ExecutionFacts}
use Rattle.qz_open.proofs.Entries.{facts}
use Rattle.qz_open.proofs.Held.{join-other, resume-some}

-- An open execution is a row that executes. While the store is open, its node holds an epoch; of a closed one nothing is
-- said, since only a restart opens it again.
pub record Stands (S : ClusterState) (o : Execution) : Type 0 where
  pub row : FiredData
  pub has : Has row (replay S.triggers.history).fired
  pub entry : row.entry ≡ o.entry
  pub node : same_text o.node row.node ≡ true
  pub job : row.job ≡ o.job
  pub executes : is_acquired row.state ≡ false
  pub no_concurrent : row.no_concurrent ≡ o.no_concurrent
  pub held : S.triggers.is_open ≡ true → is_some (member_of o.node S.held) ≡ true

-- no two open ones have one entry number
pub record Holds (S : ClusterState) (os : List Execution) : Type 0 where
  pub valid : TablesValid (replay S.triggers.history)
  pub stands : AllByRecursion (Stands S) os
  pub apart : (k : ℕ) → count_by (λ o. k == o.entry) os ≤ 1

pub some_is_none : {A G : Type 0} (o : Option A) → is_some o ≡ true → o ≡ None → G
some_is_none o some none = let wrong : true ≡ false = sym some ∙ ap is_some none in absurd (cc)

pub true_is_false : {G : Type 0} (b : Bool) → b ≡ true → b ≡ false → G
true_is_false b is not_so = absurd (cc)

-- where none is open
pub holds_none : (S : ClusterState) → TablesValid (replay S.triggers.history) → Holds S []
holds_none S valid = record { valid = valid; stands = tt; apart = λ k. omega arith }

-- where the history stays
pub stands_as : (S S' : ClusterState) (o : Execution) → S'.triggers.history ≡ S.triggers.history
    → (S'.triggers.is_open ≡ true → is_some (member_of o.node S'.held) ≡ true) → Stands S o → Stands S' o
stands_as S S' o same held was = record {
  row = was.row;
  has = subst (λ (h : History). Has was.row (replay h).fired) (sym same) was.has;
  entry = was.entry;
  node = was.node;
  job = was.job;
  executes = was.executes;
  no_concurrent = was.no_concurrent;
  held = held;
}

abbrev pub Keeps : ClusterState → ClusterState → Execution → Type 0
Keeps S S' o = member_of o.node S'.held ≡ member_of o.node S.held

still_held : (S S' : ClusterState) (o : Execution) → Same S.triggers S'.triggers → Keeps S S' o → Stands S o → S'.triggers.is_open ≡ true → is_some (member_of o.node S'.held) ≡ true
still_held S S' o same keeps was now = ap is_some keeps ∙ was.held (sym same.is_open ∙ now)

valid_as : (S S' : ClusterState) → S'.triggers.history ≡ S.triggers.history → TablesValid (replay S.triggers.history) → TablesValid (replay S'.triggers.history)
valid_as S S' same valid = subst (λ (h : History). TablesValid (replay h)) (sym same) valid

-- nothing was done
pub holds_same : (S S' : ClusterState) (os : List Execution) → Same S.triggers S'.triggers → S'.held ≡ S.held → Holds S os → Holds S' os
holds_same S S' os same held h = record {
  valid = valid_as S S' same.history h.valid;
  stands = All-weaker (Stands S) (Stands S') os (λ o was. stands_as S S' o same.history (still_held S S' o same (ap (member_of o.node) held) was) was) h.stands;
  apart = h.apart;
}

-- a snapshot was made
pub holds_marked : (S S' : ClusterState) (os : List Execution) → Marks S.triggers S'.triggers → S'.held ≡ S.held → Holds S os → Holds S' os
holds_marked S S' os marks held h = record {
  valid = valid_as S S' marks.history h.valid;
  stands = All-weaker (Stands S) (Stands S') os (λ o was. stands_as S S' o marks.history (λ now. ap is_some (ap (member_of o.node) held) ∙ was.held marks.was_open) was) h.stands;
  apart = h.apart;
}

-- the store was closed
pub holds_closed : (S S' : ClusterState) (os : List Execution) → S'.triggers.history ≡ S.triggers.history → S'.triggers.is_open ≡ false → Holds S os → Holds S' os
holds_closed S S' os same shut h = record {
  valid = valid_as S S' same h.valid;
  stands = All-weaker (Stands S) (Stands S') os (λ o was. stands_as S S' o same (λ now. true_is_false S'.triggers.is_open now shut) was) h.stands;
  apart = h.apart;
}

pub apart_without : (q : Execution → Bool) (os : List Execution) → ((k : ℕ) → count_by (λ o. k == o.entry) os ≤ 1) → (k : ℕ) → count_by (λ o. k == o.entry) (filter (λ o. not (q o)) os) ≤ 1
apart_without q os apart k = omega (arith, apart k, count_by-left_le (λ (o : Execution). k == o.entry) q os)

-- those that are left out where a node's go
pub left_out : (S S' : ClusterState) (q : Execution → Bool) (os : List Execution) → ((o : Execution) → q o ≡ false → Stands S o → Stands S' o) → AllByRecursion (Stands S) os → AllByRecursion (Stands S') (filter (λ o. not (q o)) os)
left_out S S' q os stay all =
    All-filter (Stands S') (λ o. not (q o)) os (All-weaker (Stands S) (λ o. not (q o) ≡ true → Stands S' o) os (λ o was other. stay o (not-true (q o) other) was) all)

-- a node holds no epoch any more, and nothing else was done
pub holds_without : (S S' : ClusterState) (os : List Execution) (node : List ℕ) → Same S.triggers S'.triggers
    → ((o : Execution) → same_text node o.node ≡ false → Keeps S S' o) → Holds S os → Holds S' (without_node node os)
holds_without S S' os node same keeps h = record {
  valid = valid_as S S' same.history h.valid;
  stands = left_out S S' (λ o. same_text node o.node) os (λ o other was. stands_as S S' o same.history (still_held S S' o same (keeps o other) was) was) h.stands;
  apart = apart_without (λ o. same_text node o.node) os h.apart;
}

-- a node that held no epoch holds one, and nothing else was done
pub holds_resumed : (S S' : ClusterState) (os : List Execution) (node : List ℕ) (epoch : ℕ) → Same S.triggers S'.triggers → member_of node S.held ≡ None
    → S'.held ≡ held_after_resume node epoch S.held → Holds S os → Holds S' os
holds_resumed S S' os node epoch same none held h = record {
  valid = valid_as S S' same.history h.valid;
  stands = All-weaker (Stands S) (Stands S') os
      (λ o was. stands_as S S' o same.history
      (λ now. ap (λ (l : List MemberData). is_some (member_of o.node l)) held ∙ resume-some node o.node epoch S.held none (was.held (sym same.is_open ∙ now))) was) h.stands;
  apart = h.apart;
}

-- An entry was appended.

accepted_as : (T : SchedulerTables) (o : Outcome) (r : Reply) → answer_of o ≡ Ok r → o ≡ accepted (tables_left T o) r
accepted_as T (accepted U x) r is = cc
accepted_as T (refused x) r is = absurd (cc)

module _ (S S' : ClusterState) (os : List Execution) (e : EntryData) (r : Reply) (good : IsTrue (is_entry e)) (on : Appends trigger_entry e r S.triggers S'.triggers) (h : Holds S os) where
  abbrev before : SchedulerTables
  before = replay S.triggers.history

  abbrev after : SchedulerTables
  after = replay S'.triggers.history

  pub way : transaction before e ≡ accepted after r
  way =
      let tables : after ≡ tables_left before (transaction before e) = ap replay on.history ∙ replay_from-append S.triggers.history.base S.triggers.history.entries (e ∷ []) in
      subst (λ (T : SchedulerTables). transaction before e ≡ accepted T r) (sym tables) (accepted_as before (transaction before e) r (accepted_anyway before e r on.accepted_as))

  pub entry_facts : ExecutionFacts before e.actor e.command r after
  entry_facts = facts before after e r h.valid way

  pub valid_then : TablesValid after
  valid_then = kept before after e r good h.valid way

  -- an open execution that doesn't end stands on, where its node's epoch stays
  pub goes_on : (o : Execution) → ((was : Stands S o) → Ends e.actor e.command r was.row → ⊥) → Keeps S S' o → Stands S o → Stands S' o
  goes_on o on_and_on keeps was = record {
    row = was.row;
    has = ⊎_elim (λ stays. stays) (λ ends. absurd (on_and_on was ends)) (entry_facts.stays was.row was.has was.executes);
    entry = was.entry;
    node = was.node;
    job = was.job;
    executes = was.executes;
    no_concurrent = was.no_concurrent;
    held = λ now. ap is_some keeps ∙ was.held on.was_open;
  }

-- by a client, but for a join
client_ends_none : (S : ClusterState) (c : Command) (at : ℤ) (r : Reply) → ((node : List ℕ) → c ≡ command.Join node → ⊥) → (o : Execution) (was : Stands S o) → Ends actor.Client c r was.row → ⊥
client_ends_none S c at r no_join o was (completes me entry code by is replied) = absurd (cc)
client_ends_none S c at r no_join o was (recovers me node by is same) = absurd (cc)
client_ends_none S c at r no_join o was (joins node is same) = no_join node is

pub holds_client : (S S' : ClusterState) (os : List Execution) (c : Command) (at : ℤ) (r : Reply) → IsTrue (is_entry (entry_of actor.Client c at)) → ((node : List ℕ) → c ≡ command.Join node → ⊥)
    → Appends trigger_entry (entry_of actor.Client c at) r S.triggers S'.triggers → S'.held ≡ S.held → Holds S os → Holds S' os
holds_client S S' os c at r good no_join on held h =
    let e = entry_of actor.Client c at in
    record {
      valid = valid_then S S' os e r good on h;
      stands = All-weaker (Stands S) (Stands S') os (λ o was. goes_on S S' os e r good on h o (client_ends_none S c at r no_join o) (ap (member_of o.node) held) was) h.stands;
      apart = h.apart;
    }

-- by a join
join_ends_own : (S : ClusterState) (node : List ℕ) (r : Reply) (o : Execution) → same_text node o.node ≡ false → (was : Stands S o) → Ends actor.Client (command.Join node) r was.row → ⊥
join_ends_own S node r o other was (completes me entry code by is replied) = absurd (cc)
join_ends_own S node r o other was (recovers me failed by is same) = absurd (cc)
join_ends_own S node r o other was (joins name is same) =
    let joined : command.Join node ≡ command.Join name = is in
    let one : name ≡ node = cc in
    let own : same_text node was.row.node ≡ true = subst (λ (n : List ℕ). same_text n was.row.node ≡ true) one same in
    true_is_false (same_text node o.node) (same_text_laws.congr node was.row.node o.node own ∙ same_text_laws.symm was.row.node o.node ∙ was.node) other

pub holds_join : (S S' : ClusterState) (os : List Execution) (node : List ℕ) (at : ℤ) (r : Reply) → IsTrue (is_entry (entry_of actor.Client (command.Join node) at))
    → Appends trigger_entry (entry_of actor.Client (command.Join node) at) r S.triggers S'.triggers → S'.held ≡ held_after_join node S.held r → Holds S os → Holds S' (without_node node os)
holds_join S S' os node at r good on held h =
    let e = entry_of actor.Client (command.Join node) at in
    record {
      valid = valid_then S S' os e r good on h;
      stands = left_out S S' (λ o. same_text node o.node) os
          (λ o other was. goes_on S S' os e r good on h o (join_ends_own S node r o other) (ap (member_of o.node) held ∙ join-other node o.node S.held r other) was) h.stands;
      apart = apart_without (λ o. same_text node o.node) os h.apart;
    }
