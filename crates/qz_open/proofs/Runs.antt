-- The law over runs.
use Rattle.std.proofs.Common.{◌≡◌, inl, inr, ⊎_elim, ℕ, ℤ, ◌==◌, true, false, not, ◌&&◌, List, [], ◌∷◌, Option, Some, None, is_none, IsTrue, refl, sym, ap, subst, ◌∙◌, arith}
use Rattle.std.proofs.Math.Logic.{∥∥₁_elim, ∥∥₁_map}
use Rattle.std.proofs.Props.{props}
use Rattle.std.specs.List.{AllByRecursion, AllByRecursion-prop}
use Rattle.std.proofs.lemmas.Bool.{and_parts, and_from, not-true, eq-eqb, false_from_ne_true}
use Rattle.qz_types.specs.Entries.{is_command, is_of_node}
use Rattle.qz_types.specs.Rows.{MemberData, FiredData, is_node}
use Rattle.qz_types.specs.States.{is_acquired}
use Rattle.qz_types.specs.Words.{same_text, same_key, member_of}
use Rattle.qz_types.specs.declared.keys.Key.{Key}
use Rattle.qz_types.specs.declared.commands.Actor.TheVariants as actor
use Rattle.qz_types.specs.declared.commands.Command.{Command}
use Rattle.qz_types.specs.declared.commands.Command.TheVariants as command
use Rattle.qz_types.specs.declared.replies.Reply.{Reply}
use Rattle.qz_steps.specs.Steps.{is_join, is_step}
use Rattle.qz_steps.specs.declared.rooms.Marked.TheVariants.{Made, NoRoom}
use Rattle.qz_steps.specs.declared.steps.Step.{Step}
use Rattle.qz_steps.specs.declared.steps.Step.TheVariants.{Client, Join, CheckIn, Node, Forget, Stop, Restart, Resume, Show, Checkpoint, ShowRoom}
use Rattle.qz_steps.specs.declared.steps.StepReply.{StepReply}
use Rattle.qz_steps.specs.declared.steps.StepReply.TheVariants as answer
use Rattle.qz_model.specs.Executions.{is_exclusive_of}
use Rattle.qz_model.specs.History.{replay}
use Rattle.qz_model.specs.Invariant.{HasFlag, TablesValid}
use Rattle.qz_model.proofs.RowLaws.{same_key_laws, member_of-alike, member_of-without_member}
use Rattle.qz_model.proofs.RowPoints.{All-weaker}
use Rattle.qz_cluster.specs.Script.{TimedStep, entry_of}
use Rattle.qz_cluster.specs.Steps.{ClusterState, held_after, is_unheld, is_restart, first_refusal, entry_of_member, entry_of_step, TriggersDone, StepCase}
use Rattle.qz_cluster.proofs.Sound.{valid_entry}
use Rattle.qz_open.specs.Opened.{Execution, IsAlone, AreAlone, AreAlwaysAlone, open_after_command, open_after_done, open_after_fault, open_after}
use Rattle.qz_open.specs.Runs.{IsStart, StepsDone, SparesDone, SparesOthers, AlwaysSparesOthers}
use Rattle.qz_open.proofs.Lists.{of_all, only_one, fewer}
use Rattle.qz_open.proofs.Steps.{Stands, Holds, some_is_none, true_is_false, holds_none, holds_same, holds_marked, holds_closed, holds_without, holds_resumed, holds_client, holds_join}
use Rattle.qz_open.proofs.Held.{resume-none}
use Rattle.qz_open.proofs.Members.{holds_command}

-- One step.

node_joins_not : (c : Command) → is_of_node c ≡ true → (name : List ℕ) → c ≡ command.Join name → ⊥
node_joins_not c own name is = true_is_false (is_of_node c) own (ap is_of_node is)

holds_member : (S S' : ClusterState) (os : List Execution) (node : List ℕ) (c : Command) (at : ℤ) (r : Reply) (o : Option MemberData) → member_of node S.held ≡ o → is_none o ≡ false → IsTrue (is_step (Node node c))
    → TriggersDone (entry_of_member o c at) r S.triggers S'.triggers → S'.held ≡ held_after (Node node c) S.held r → Holds S os → Holds S' (open_after_command os node c r)
holds_member S S' os node c at r None mine is_held valid on held h = absurd (cc)
holds_member S S' os node c at r (Some me) mine is_held valid on held h =
    let good = valid_entry (Node node c) S.held at (entry_of (actor.Node me) c at) valid (ap (λ (o : Option MemberData). entry_of_member o c at) mine) in
    holds_command S S' os node c at me r good (node_joins_not c (and_parts (is_node node && is_command c) (is_of_node c) valid).1) on h mine held

client_joins_not : (c : Command) → IsTrue (is_step (Client c)) → (name : List ℕ) → c ≡ command.Join name → ⊥
client_joins_not c valid name is = true_is_false (is_join c) (ap is_join is) (not-true (is_join c) (and_parts (is_command c && not (is_of_node c)) (not (is_join c)) valid).1)

holds_done : (S S' : ClusterState) (os : List Execution) (x : Step) (at : ℤ) (r : Reply) → IsTrue (is_step x) → is_unheld x S.held ≡ false → first_refusal S x at ≡ None → is_restart x ≡ false → TriggersDone (entry_of_step S.held x at) r S.triggers S'.triggers
    → S'.held ≡ held_after x S.held r → Holds S os → Holds S' (open_after_done os x r)
holds_done S S' os (Client c) at r valid is_held unrefused works on held h =
    holds_client S S' os c at r (valid_entry (Client c) S.held at (entry_of actor.Client c at) valid refl) (client_joins_not c valid) on held h
holds_done S S' os (Join node interval) at r valid is_held unrefused works on held h =
    holds_join S S' os node at r (valid_entry (Join node interval) S.held at (entry_of actor.Client (command.Join node) at) valid refl) on held h
holds_done S S' os (CheckIn node interval) at r valid is_held unrefused works on held h = holds_same S S' os on.0 held h
holds_done S S' os (Node node c) at r valid is_held unrefused works on held h = holds_member S S' os node c at r (member_of node S.held) refl is_held valid on held h
holds_done S S' os (Forget node failed) at r valid is_held unrefused works on held h = holds_same S S' os on.0 held h
holds_done S S' os (Stop node) at r valid is_held unrefused works on held h =
    holds_without S S' os node on.0 (λ o other. ap (member_of o.node) held ∙ member_of-without_member node o.node S.held other) h
holds_done S S' os Restart at r valid is_held unrefused works on held h = absurd (cc)
holds_done S S' os (Resume node epoch) at r valid is_held unrefused works on held h =
    holds_resumed S S' os node epoch on.0 (resume-none (replay S.triggers.history) S.held node epoch unrefused) held h
holds_done S S' os (Show question) at r valid is_held unrefused works on held h = holds_same S S' os on.0 held h
holds_done S S' os Checkpoint at r valid is_held unrefused works on held h = holds_same S S' os on.0 held h
holds_done S S' os ShowRoom at r valid is_held unrefused works on held h = holds_same S S' os on.0 held h

-- a restart takes all
holds_fault : (S : ClusterState) (os : List Execution) (x : Step) → Holds S os → Holds S (open_after_fault os x)
holds_fault S os Restart h = holds_none S h.valid
holds_fault S os x h = h

holds_case : (honest : Type 0) (t : TimedStep) (a : StepReply) (S S' : ClusterState) (os : List Execution) → IsTrue (is_step t.step) → StepCase honest t a S S' → Holds S os → ∥ Holds S' (open_after os t.step a) ∥₁
holds_case honest t answer.Closed S S' os valid case h = ∣ holds_same S S' os case.stays.stores.triggers case.stays.held h ∣₁
holds_case honest t answer.Stopped S S' os valid case h = ∣ holds_same S S' os case.stays.stores.triggers case.stays.held h ∣₁
holds_case honest t (answer.Refused y) S S' os valid (inl case) h = ∣ holds_same S S' os case.stays.stores.triggers case.stays.held h ∣₁
holds_case honest t (answer.Refused y) S S' os valid (inr case) h = ∣ ⊎_elim (λ at. holds_same S S' os at.triggers at.held h) (λ at. holds_same S S' os at.triggers.same at.held_is h) case.which ∣₁
holds_case honest t (answer.Ok r) S S' os valid case h =
    ∣ holds_done S S' os t.step t.at r valid case.submits.allowed.is_held case.submits.unrefused case.submits.allowed.works case.triggers case.held h ∣₁
holds_case honest t answer.Fault S S' os valid (inl case) h =
    ∣ holds_fault S' os t.step (⊎_elim (λ at. holds_same S S' os at.triggers at.held h) (λ at. holds_closed S S' os at.triggers.history at.triggers.is_open h) case.which) ∣₁
holds_case honest t answer.Fault S S' os valid (inr (inr case)) h = ∣ holds_fault S' os t.step (holds_closed S S' os case.breaks.history case.breaks.is_open h) ∣₁
holds_case honest t answer.Fault S S' os valid (inr (inl case)) h = ∣ holds_fault S' os t.step (holds_closed S S' os case.shut.triggers.history case.shut.triggers.is_open h) ∣₁
holds_case honest t (answer.Shown s) S S' os valid case h = ∣ holds_same S S' os case.stays.stores.triggers case.stays.held h ∣₁
holds_case honest t (answer.Marked Made) S S' os valid case h = ∣ holds_marked S S' os case.marked.0 case.held h ∣₁
holds_case honest t (answer.Marked NoRoom) S S' os valid case h = ∣ holds_same S S' os case.marked.0.same case.held h ∣₁
holds_case honest t (answer.Room room) S S' os valid case h = ∣ subst (λ (T : ClusterState). Holds T os) (sym case.same) h ∣₁
holds_case honest t answer.Restarted S S' os valid case h = ∥∥₁_map case.are_triggers.sound.state (holds_none S')

-- All steps.

is_exclusive : (key : Key) (f : FiredData) → is_acquired f.state ≡ false → f.no_concurrent ≡ true → same_key key f.job ≡ true → is_exclusive_of key f ≡ true
unfolding is_exclusive_of
is_exclusive key f executes excludes same =
    and_from (not (is_acquired f.state) && f.no_concurrent) (same_key key f.job) (and_from (not (is_acquired f.state)) f.no_concurrent (ap not executes) excludes) same

-- an open execution that excludes others of its job is the only one of its job
one_entry : (S : ClusterState) (o p : Execution) → TablesValid (replay S.triggers.history) → Stands S o → Stands S p → o.no_concurrent ≡ true → same_key o.job p.job ≡ true → o.entry ≡ p.entry
one_entry S o p valid one other excludes same =
    let rows = (replay S.triggers.history).fired in
    let keys : same_key one.row.job other.row.job ≡ true = ap (λ k. same_key k other.row.job) one.job ∙ ap (same_key o.job) other.job ∙ same in
    let flag : one.row.no_concurrent ≡ true = one.no_concurrent ∙ excludes in
    let flags = of_all (λ f. is_acquired f.state ≡ false → AllByRecursion (HasFlag f.job f.no_concurrent) rows) rows one.row valid.concurrency_agrees.with_rows one.has one.executes in
    let also : other.row.no_concurrent ≡ true = of_all (HasFlag one.row.job one.row.no_concurrent) rows other.row flags other.has other.executes keys ∙ flag in
    let row : one.row ≡ other.row =
    only_one (is_exclusive_of one.row.job) rows one.row other.row (valid.one_exclusive.one one.row.job) one.has other.has
    (is_exclusive one.row.job one.row one.executes flag (same_key_laws.refl one.row.job)) (is_exclusive one.row.job other.row other.executes also keys) in
    sym one.entry ∙ ap (λ (f : FiredData). f.entry) row ∙ other.entry

alone : (S : ClusterState) (os : List Execution) → Holds S os → AreAlone os
alone S os h =
    All-weaker (Stands S) (IsAlone os) os
    (λ o one excludes. omega (
      arith,
      h.apart o.entry,
      fewer (λ (p : Execution). same_key o.job p.job) (λ p. o.entry == p.entry) os
          (All-weaker (Stands S) (λ p. same_key o.job p.job ≡ true → (o.entry == p.entry) ≡ true) os (λ p other same. eq-eqb o.entry p.entry (one_entry S o p h.valid one other excludes same)) h.stands),
    )) h.stands

AreAlone-prop : (os : List Execution) → IsProp (AreAlone os)
AreAlone-prop os = AllByRecursion-prop (IsAlone os) (λ o. hlevel props) os

always-prop : (os : List Execution) (ts : List TimedStep) (answers : List StepReply) → IsProp (AreAlwaysAlone os ts answers)
always-prop os [] answers = AreAlone-prop os
always-prop os (t ∷ ts) [] = AreAlone-prop os
always-prop os (t ∷ ts) (a ∷ answers) = hlevel (AreAlone-prop os, always-prop (open_after os t.step a) ts answers)

alone_from : (honest : Type 0) (S : ClusterState) (os : List Execution) (ts : List TimedStep) (answers : List StepReply) (states : List ClusterState) → StepsDone honest S ts answers states → Holds S os → AreAlwaysAlone os ts answers
alone_from honest S os [] answers states done h = alone S os h
alone_from honest S os (t ∷ ts) [] states done h = alone S os h
alone_from honest S os (t ∷ ts) (a ∷ answers) [] done h = absurd done
alone_from honest S os (t ∷ ts) (a ∷ answers) (S' ∷ states) done h = (
  alone S os h,
  ∥∥₁_elim (holds_case honest t a S S' os done.0.valid done.0.case h) (always-prop (open_after os t.step a) ts answers) (λ now. alone_from honest S' (open_after os t.step a) ts answers states done.1 now),
)

pub always_alone : (honest : Type 0) (S : ClusterState) (ts : List TimedStep) (answers : List StepReply) (states : List ClusterState) → IsStart S → StepsDone honest S ts answers states → AreAlwaysAlone [] ts answers
always_alone honest S ts answers states start done =
    ∥∥₁_elim start.opened.sound.state (always-prop [] ts answers) (λ valid. alone_from honest S [] ts answers states done (holds_none S valid))

-- A recovery of a node that holds no epoch ends no open execution.

-- while the store is open, each open execution is of a node that holds an epoch
none_of_unheld : (S : ClusterState) (os : List Execution) (failed : List ℕ) → S.triggers.is_open ≡ true → member_of failed S.held ≡ None → AllByRecursion (Stands S) os → AllByRecursion (λ o. same_text failed o.node ≡ false) os
none_of_unheld S os failed now none all =
    All-weaker (Stands S) (λ o. same_text failed o.node ≡ false) os (λ o was. false_from_ne_true (same_text failed o.node) (λ same.
    some_is_none (member_of o.node S.held) (was.held now) (sym (member_of-alike failed o.node S.held same) ∙ none))) all

spares_member : (S S' : ClusterState) (os : List Execution) (failed : List ℕ) (at : ℤ) (r : Reply) (o : Option MemberData) → is_none o ≡ false
    → TriggersDone (entry_of_member o (command.Recover failed) at) r S.triggers S'.triggers → Holds S os → member_of failed S.held ≡ None → AllByRecursion (λ (o : Execution). same_text failed o.node ≡ false) os
spares_member S S' os failed at r None is_held on h none = absurd (cc)
spares_member S S' os failed at r (Some me) is_held on h none = none_of_unheld S os failed on.was_open none h.stands

spares_command : (S S' : ClusterState) (os : List Execution) (node : List ℕ) (c : Command) (at : ℤ) (r : Reply) → is_unheld (Node node c) S.held ≡ false
    → TriggersDone (entry_of_step S.held (Node node c) at) r S.triggers S'.triggers → Holds S os → SparesDone S.held os (Node node c)
spares_command S S' os node (command.Recover failed) at r is_held on h = spares_member S S' os failed at r (member_of node S.held) is_held on h
spares_command S S' os node c at r is_held on h = tt

spares_done : (S S' : ClusterState) (os : List Execution) (x : Step) (at : ℤ) (r : Reply) → is_unheld x S.held ≡ false
    → TriggersDone (entry_of_step S.held x at) r S.triggers S'.triggers → Holds S os → SparesDone S.held os x
spares_done S S' os (Node node c) at r is_held on h = spares_command S S' os node c at r is_held on h
spares_done S S' os x at r is_held on h = tt

spares_case : (honest : Type 0) (t : TimedStep) (a : StepReply) (S S' : ClusterState) (os : List Execution) → StepCase honest t a S S' → Holds S os → SparesOthers S.held os t.step a
spares_case honest t (answer.Ok r) S S' os case h = spares_done S S' os t.step t.at r case.submits.allowed.is_held case.triggers h
spares_case honest t a S S' os case h = tt

SparesDone-prop : (held : List MemberData) (os : List Execution) (x : Step) → IsProp (SparesDone held os x)
SparesDone-prop held os (Node node (command.Recover failed)) = hlevel (props, AllByRecursion-prop (λ (o : Execution). same_text failed o.node ≡ false) (λ o. hlevel props) os)
SparesDone-prop held os x = hlevel props

SparesOthers-prop : (held : List MemberData) (os : List Execution) (x : Step) (a : StepReply) → IsProp (SparesOthers held os x a)
SparesOthers-prop held os x (answer.Ok r) = SparesDone-prop held os x
SparesOthers-prop held os x a = hlevel props

always_spares-prop : (S : ClusterState) (os : List Execution) (ts : List TimedStep) (answers : List StepReply) (states : List ClusterState) → IsProp (AlwaysSparesOthers S os ts answers states)
always_spares-prop S os (t ∷ ts) (a ∷ answers) (S' ∷ states) = hlevel (SparesOthers-prop S.held os t.step a, always_spares-prop S' (open_after os t.step a) ts answers states)
always_spares-prop S os [] answers states = hlevel props
always_spares-prop S os (t ∷ ts) [] states = hlevel props
always_spares-prop S os (t ∷ ts) (a ∷ answers) [] = hlevel props

spares_from : (honest : Type 0) (S : ClusterState) (os : List Execution) (ts : List TimedStep) (answers : List StepReply) (states : List ClusterState) → StepsDone honest S ts answers states → Holds S os → AlwaysSparesOthers S os ts answers states
spares_from honest S os [] answers states done h = tt
spares_from honest S os (t ∷ ts) [] states done h = tt
spares_from honest S os (t ∷ ts) (a ∷ answers) [] done h = tt
spares_from honest S os (t ∷ ts) (a ∷ answers) (S' ∷ states) done h = (
  spares_case honest t a S S' os done.0.case h,
  ∥∥₁_elim (holds_case honest t a S S' os done.0.valid done.0.case h) (always_spares-prop S' (open_after os t.step a) ts answers states) (λ now. spares_from honest S' (open_after os t.step a) ts answers states done.1 now),
)

pub always_spares : (honest : Type 0) (S : ClusterState) (ts : List TimedStep) (answers : List StepReply) (states : List ClusterState) → IsStart S → StepsDone honest S ts answers states → AlwaysSparesOthers S [] ts answers states
always_spares honest S ts answers states start done =
    ∥∥₁_elim start.opened.sound.state (always_spares-prop S [] ts answers states) (λ valid. spares_from honest S [] ts answers states done (holds_none S valid))
