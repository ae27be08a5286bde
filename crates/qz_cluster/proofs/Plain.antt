-- Without a fault a step is a plain scheduler's, at stores that are open.
use Rattle.std.proofs.Common.{◌≡◌, ◌⊎◌, inl, inr, ℤ, Bool, true, false, not, List, Option, Some, None, refl, sym, ap, subst, ◌∙◌}
use Rattle.std.proofs.Math.Logic.{∥∥₁_elim}
use Rattle.std.specs.Prelude.{◌&&◌, ◌||◌}
use Rattle.qz_types.specs.Rows.{MemberData}
use Rattle.qz_types.specs.Entries.{EntryData, StateEntryData}
use Rattle.qz_types.specs.Tables.{SchedulerTables}
use Rattle.qz_types.specs.declared.replies.Reply.{Reply}
use Rattle.qz_types.specs.declared.replies.Refusal.{Refusal}
use Rattle.qz_steps.specs.declared.questions.Question.{Question}
use Rattle.qz_steps.specs.declared.rooms.Marked.{Marked}
use Rattle.qz_steps.specs.declared.rooms.Marked.TheVariants.{Made, NoRoom}
use Rattle.qz_steps.specs.declared.steps.Step.{Step}
use Rattle.qz_steps.specs.declared.steps.Step.TheVariants.{Client, Join, CheckIn, Node, Forget, Stop, Restart, Resume, Show, Checkpoint, ShowRoom}
use Rattle.qz_steps.specs.declared.steps.StepReply.{StepReply}
use Rattle.qz_steps.specs.declared.steps.StepReply.TheVariants as reply
use Rattle.qz_stores.specs.Bases.{IsDecided}
use Rattle.qz_stores.specs.Stores.{Refuses}
use Rattle.qz_stores.proofs.Histories.{same_state}
use Rattle.qz_model.specs.History.{History, replay}
use Rattle.qz_trigger_store.specs.Entries.{TriggerState, trigger_entry}
use Rattle.qz_trigger_store.specs.Kinds.{tables_once, trigger_kind}
use Rattle.qz_trigger_store.specs.Laws.{trigger_lawful}
use Rattle.qz_checkin.specs.Entries.{StatesState, of_states}
use Rattle.qz_checkin.specs.History.{StateHistory, replay_states}
use Rattle.qz_checkin.specs.Kinds.{rows_once, state_kind}
use Rattle.qz_checkin.specs.Laws.{state_lawful}
use Rattle.qz_checkin.specs.Rows.{StateTables}
use Rattle.qz_cluster.specs.Asking.{answer_to}
use Rattle.qz_cluster.specs.Script.{TimedStep, StepEffect, without_disk, plain_reply, refuse, with_optional, with_optional_state}
use Rattle.qz_cluster.specs.Steps.{ClusterState, needs_triggers, needs_states, is_closed_for, is_restart, is_asking, is_unheld, rows_of, first_refusal, state_entry_of_step, entry_of_step, held_after, Stays, StatesDone, TriggersDone, AtStates, AtTriggers, MarkedStep, is_recover, StepCase}
use Rattle.qz_cluster.proofs.Closings.{IsReady}
use Rattle.qz_cluster.proofs.Effects.{onto_triggers, onto_states, plain_effect, effect_at, effect_is, submit_accepted, submit_refused, submit_state_accepted, submit_state_refused}

-- A step's reply, the tables and rows that both histories leave, and the held epochs are those of this effect. (A restart may
-- find a history with another base, which leaves the same.)
pub record IsPlain (r : StepReply) (effect : StepEffect) (S S' : ClusterState) : Type 0 where
  pub reply : r ≡ effect.reply
  pub tables : replay S'.triggers.history ≡ replay (with_optional effect.entry S.triggers.history)
  pub rows : replay_states S'.states.history ≡ replay_states (with_optional_state effect.state_entry S.states.history)
  pub held : S'.held ≡ effect.held

-- No store is closed for any step.
open_for : (a b o p : Bool) → o ≡ true → p ≡ true → (a && not o) || (b && not p) ≡ false
open_for true true true true is also = refl
open_for true false true true is also = refl
open_for false true true true is also = refl
open_for false false true true is also = refl
open_for a b false p is also = let bad : false ≡ true = is in absurd cc
open_for a b true false is also = let bad : false ≡ true = also in absurd cc

opened : (a b : Bool) (S : ClusterState) → IsReady S → (a && not S.triggers.is_open) || (b && not S.states.is_open) ≡ true → ⊥
opened a b S ready closed = let bad : true ≡ false = sym closed ∙ open_for a b S.triggers.is_open S.states.is_open ready.triggers_open ready.states_open in cc

not_closed : (x : Step) (S : ClusterState) → IsReady S → (x ≡ ShowRoom → ⊥) → is_closed_for x S ≡ true → ⊥
not_closed (Client c) S ready other closed = opened true false S ready closed
not_closed (Join node interval) S ready other closed = opened true true S ready closed
not_closed (CheckIn node interval) S ready other closed = opened false true S ready closed
not_closed (Node node c) S ready other closed = opened true (is_recover c) S ready closed
not_closed (Forget node failed) S ready other closed = opened true true S ready closed
not_closed (Stop node) S ready other closed = opened false false S ready closed
not_closed Restart S ready other closed = opened false false S ready closed
not_closed (Resume node epoch) S ready other closed = opened true false S ready closed
not_closed (Show question) S ready other closed = opened true false S ready closed
not_closed Checkpoint S ready other closed = opened true false S ready closed
not_closed ShowRoom S ready other closed = other refl

no_room_step : (x : Step) → is_asking x ≡ false → x ≡ ShowRoom → ⊥
no_room_step x acts is = let bad : true ≡ false = sym (ap is_asking is) ∙ acts in cc

-- The parts of an effect.

triggers_done_effect : (S : ClusterState) (held : List MemberData) (after : Reply → List MemberData) (o : Option EntryData) (y : Reply) (t : TriggerState) → TriggersDone o y S.triggers t
    → onto_triggers (replay S.triggers.history) held o after ≡ record { reply = reply.Ok y; entry = o; state_entry = None; held = after y }
triggers_done_effect S held after None y t is = ap (λ (z : Reply). record { reply = reply.Ok z; entry = None; state_entry = None; held = after z }) (sym is.1)
triggers_done_effect S held after (Some e) y t is = submit_accepted (replay S.triggers.history) held e after y is.accepted_as

triggers_done_history : (o : Option EntryData) (y : Reply) (s t : TriggerState) → TriggersDone o y s t → t.history ≡ with_optional o s.history
triggers_done_history None y s t is = is.0.history
triggers_done_history (Some e) y s t is = is.history

states_done_effect : (S : ClusterState) (held now : List MemberData) (o : Option StateEntryData) (e : Option EntryData) (r : StepReply) (t : StatesState) → StatesDone o S.states t
    → onto_states (rows_of S) held o (record { reply = r; entry = e; state_entry = None; held = now }) ≡ record { reply = r; entry = e; state_entry = o; held = now }
states_done_effect S held now None e r t is = refl
states_done_effect S held now (Some f) e r t is = submit_state_accepted (rows_of S) held f (record { reply = r; entry = e; state_entry = None; held = now }) is.accepted_as

states_done_history : (o : Option StateEntryData) (s t : StatesState) → StatesDone o s t → t.history ≡ with_optional_state o s.history
states_done_history None s t is = is.history
states_done_history (Some e) s t is = is.history

-- Of a step that isn't a restart, at each reply.
module _ (S S' : ClusterState) (x : Step) (at : ℤ) where
  abbrev At : Bool → Option Refusal → Option StateEntryData → Option EntryData → StepEffect
  At stops refusal se e = plain_effect stops refusal se e (replay S.triggers.history) (rows_of S) S.held (held_after x S.held)

  abbrev Here : StepEffect
  Here = At (is_unheld x S.held) (first_refusal S x at) (state_entry_of_step S x at) (entry_of_step S.held x at)

  -- it was stopped
  stopped_plain : is_unheld x S.held ≡ true → Stays S S' → IsPlain reply.Stopped Here S S'
  stopped_plain unheld stays =
      subst (λ (b : Bool). IsPlain reply.Stopped (At b (first_refusal S x at) (state_entry_of_step S x at) (entry_of_step S.held x at)) S S') (sym unheld)
      (record { reply = refl; tables = ap replay (stays.stores.triggers.history); rows = ap replay_states (stays.stores.states.history); held = stays.held })

  -- it wasn't, and was refused before it submitted anything
  first_plain : (y : Refusal) → is_unheld x S.held ≡ false → first_refusal S x at ≡ Some y → Stays S S' → IsPlain (reply.Refused y) Here S S'
  first_plain y held refused stays =
      subst (λ (b : Bool). IsPlain (reply.Refused y) (At b (first_refusal S x at) (state_entry_of_step S x at) (entry_of_step S.held x at)) S S') (sym held)
      (subst (λ (o : Option Refusal). IsPlain (reply.Refused y) (At false o (state_entry_of_step S x at) (entry_of_step S.held x at)) S S') (sym refused)
      (record { reply = refl; tables = ap replay (stays.stores.triggers.history); rows = ap replay_states (stays.stores.states.history); held = stays.held }))

  -- it submitted its entries, which came to this effect
  submitted_plain : (r : StepReply) (effect : StepEffect) → is_unheld x S.held ≡ false → first_refusal S x at ≡ None
      → At false None (state_entry_of_step S x at) (entry_of_step S.held x at) ≡ effect → IsPlain r effect S S' → IsPlain r Here S S'
  submitted_plain r effect held unrefused is plain =
      subst (λ (b : Bool). IsPlain r (At b (first_refusal S x at) (state_entry_of_step S x at) (entry_of_step S.held x at)) S S') (sym held)
      (subst (λ (o : Option Refusal). IsPlain r (At false o (state_entry_of_step S x at) (entry_of_step S.held x at)) S S') (sym unrefused)
      (subst (λ (e : StepEffect). IsPlain r e S S') (sym is) plain))

  abbrev Step_at : TimedStep
  Step_at = record { step = x; at = at }

  -- its entry on the state store was refused
  at_states_is : (y : Refusal) → (refused : AtStates (λ e s s'. Refuses of_states e y s s') Step_at S S')
      → At false None (state_entry_of_step S x at) (entry_of_step S.held x at) ≡ refuse y S.held
  at_states_is y refused =
      ap (λ (o : Option StateEntryData). At false None o (entry_of_step S.held x at)) refused.asked
      ∙ submit_state_refused (rows_of S) S.held refused.entry _ y refused.states.refused_as

  -- its entry on the trigger store was refused
  at_triggers_is : (y : Refusal) → (refused : AtTriggers (λ e s s'. Refuses trigger_entry e y s s') S.held Step_at S S')
      → At false None (state_entry_of_step S x at) (entry_of_step S.held x at) ≡ record (refuse y S.held) { state_entry = state_entry_of_step S x at }
  at_triggers_is y refused =
      ap (λ (o : Option EntryData). At false None (state_entry_of_step S x at) o) refused.asked
      ∙ ap (onto_states (rows_of S) S.held (state_entry_of_step S x at)) (submit_refused (replay S.triggers.history) S.held refused.entry (held_after x S.held) y refused.triggers.refused_as)
      ∙ states_done_effect S S.held S.held (state_entry_of_step S x at) None (reply.Refused y) S'.states refused.states

  entry_plain : (y : Refusal) → is_unheld x S.held ≡ false → first_refusal S x at ≡ None
      → AtStates (λ e s s'. Refuses of_states e y s s') Step_at S S' ⊎ AtTriggers (λ e s s'. Refuses trigger_entry e y s s') S.held Step_at S S' → IsPlain (reply.Refused y) Here S S'
  entry_plain y held unrefused (inl refused) =
      submitted_plain (reply.Refused y) (refuse y S.held) held unrefused (at_states_is y refused)
      (record { reply = refl; tables = ap replay (refused.triggers.history); rows = ap replay_states (refused.states.same.history); held = refused.held })
  entry_plain y held unrefused (inr refused) =
      submitted_plain (reply.Refused y) (record (refuse y S.held) { state_entry = state_entry_of_step S x at }) held unrefused (at_triggers_is y refused)
      (record { reply = refl; tables = ap replay (refused.triggers.same.history); rows = ap replay_states (states_done_history _ S.states S'.states refused.states); held = refused.held_is })

  -- it was done
  done_plain : (y : Reply) → is_unheld x S.held ≡ false → first_refusal S x at ≡ None → StatesDone (state_entry_of_step S x at) S.states S'.states
      → TriggersDone (entry_of_step S.held x at) y S.triggers S'.triggers → S'.held ≡ held_after x S.held y → IsPlain (reply.Ok y) Here S S'
  done_plain y held unrefused states triggers now =
      submitted_plain (reply.Ok y) (record { reply = reply.Ok y; entry = entry_of_step S.held x at; state_entry = state_entry_of_step S x at; held = held_after x S.held y }) held unrefused
      (ap (onto_states (rows_of S) S.held (state_entry_of_step S x at)) (triggers_done_effect S S.held (held_after x S.held) (entry_of_step S.held x at) y S'.triggers triggers)
      ∙ states_done_effect S S.held (held_after x S.held y) (state_entry_of_step S x at) (entry_of_step S.held x at) (reply.Ok y) S'.states states)
      (record { reply = refl; tables = ap replay (triggers_done_history _ y S.triggers S'.triggers triggers); rows = ap replay_states (states_done_history _ S.states S'.states states); held = now })

  plain_here : (honest : Type 0) (r : StepReply) → StepCase honest Step_at r S S' → IsReady S → (r ≡ reply.Fault → ⊥) → is_restart x ≡ false → is_asking x ≡ false → IsPlain r Here S S'
  plain_here honest reply.Closed case ready no_fault works acts = absurd (not_closed x S ready (no_room_step x acts) case.needs_closed)
  plain_here honest reply.Stopped case ready no_fault works acts = stopped_plain case.unheld case.stays
  plain_here honest (reply.Refused y) (inl case) ready no_fault works acts = first_plain y case.allowed.is_held case.refused case.stays
  plain_here honest (reply.Refused y) (inr case) ready no_fault works acts = entry_plain y case.submits.allowed.is_held case.submits.unrefused case.which
  plain_here honest (reply.Ok y) case ready no_fault works acts = done_plain y case.submits.allowed.is_held case.submits.unrefused case.states case.triggers case.held
  plain_here honest reply.Fault case ready no_fault works acts = absurd (no_fault refl)
  plain_here honest reply.Restarted case ready no_fault works acts = let bad : true ≡ false = sym case.asked ∙ works in absurd cc
  plain_here honest (reply.Shown s) case ready no_fault works acts = let bad : true ≡ false = sym (ap is_asking case.asked) ∙ acts in absurd cc
  plain_here honest (reply.Marked m) case ready no_fault works acts = let bad : true ≡ false = sym (ap is_asking case.asked) ∙ acts in absurd cc
  plain_here honest (reply.Room room) case ready no_fault works acts = let bad : true ≡ false = sym (ap is_asking case.asked) ∙ acts in absurd cc

  works_plain : (honest : Type 0) (r : StepReply) → StepCase honest Step_at r S S' → IsReady S → (r ≡ reply.Fault → ⊥) → is_restart x ≡ false → is_asking x ≡ false → IsPlain r (effect_at S x at) S S'
  works_plain honest r case ready no_fault works acts =
      subst (λ (e : StepEffect). IsPlain r e S S') (sym (effect_is S x at works acts)) (plain_here honest r case ready no_fault works acts)

same_question : (p q : Question) → ◌≡◌ {A = Step} (Show q) (Show p) → p ≡ q
same_question p q is = cc

-- Of a restart. An open store has nothing undecided, so what it finds leaves the tables and the rows that it had.

triggers_found : (start : SchedulerTables) (h : History) (u : Option EntryData) (found : History) → u ≡ None → IsDecided trigger_kind start h u found → replay found ≡ replay h
triggers_found start h None found none is = sym (same_state trigger_kind trigger_lawful start h found is)
triggers_found start h (Some e) found none is = let bad : ◌≡◌ {A = Option EntryData} (Some e) None = none in absurd cc

states_found : (start : StateTables) (h : StateHistory) (u : Option StateEntryData) (found : StateHistory) → u ≡ None → IsDecided state_kind start h u found → replay_states found ≡ replay_states h
states_found start h None found none is = sym (same_state state_kind state_lawful start h found is)
states_found start h (Some e) found none is = let bad : ◌≡◌ {A = Option StateEntryData} (Some e) None = none in absurd cc

restart_plain : (honest : Type 0) (at : ℤ) (r : StepReply) (S S' : ClusterState) → StepCase honest (record { step = Restart; at = at }) r S S' → IsReady S → (r ≡ reply.Fault → ⊥) → honest
    → IsPlain r (effect_at S Restart at) S S'
restart_plain honest at reply.Closed S S' case ready no_fault is = absurd (not_closed Restart S ready (λ is. let bad : ◌≡◌ {A = Step} Restart ShowRoom = is in cc) case.needs_closed)
restart_plain honest at reply.Stopped S S' case ready no_fault is = let bad : false ≡ true = case.unheld in absurd cc
restart_plain honest at (reply.Refused y) S S' (inl case) ready no_fault is = let bad : true ≡ false = case.allowed.works in absurd cc
restart_plain honest at (reply.Refused y) S S' (inr case) ready no_fault is = let bad : true ≡ false = case.submits.allowed.works in absurd cc
restart_plain honest at (reply.Ok y) S S' case ready no_fault is = let bad : true ≡ false = case.submits.allowed.works in absurd cc
restart_plain honest at reply.Fault S S' case ready no_fault is = absurd (no_fault refl)
restart_plain honest at (reply.Shown s) S S' case ready no_fault is = let bad : ◌≡◌ {A = Step} Restart (Show case.question) = case.asked in absurd cc
restart_plain honest at (reply.Marked m) S S' case ready no_fault is = let bad : ◌≡◌ {A = Step} Restart Checkpoint = case.asked in absurd cc
restart_plain honest at (reply.Room room) S S' case ready no_fault is = let bad : ◌≡◌ {A = Step} Restart ShowRoom = case.asked in absurd cc
restart_plain honest at reply.Restarted S S' case ready no_fault is = record {
  reply = refl;
  tables = ∥∥₁_elim (case.triggers.decided is) (tables_once _ _) (λ d. triggers_found d.0 S.triggers.history S.triggers.undecided S'.triggers.history ready.triggers_settled d.1);
  rows = ∥∥₁_elim (case.states.decided is) (rows_once _ _) (λ d. states_found d.0 S.states.history S.states.undecided S'.states.history ready.states_settled d.1);
  held = case.held;
}

-- Of a step that asks for what is stored.
show_plain : (honest : Type 0) (q : Question) (at : ℤ) (r : StepReply) (S S' : ClusterState) → StepCase honest (record { step = Show q; at = at }) r S S' → IsReady S → (r ≡ reply.Fault → ⊥)
    → IsPlain r (effect_at S (Show q) at) S S'
show_plain honest q at reply.Closed S S' case ready no_fault = absurd (not_closed (Show q) S ready (λ is. let bad : ◌≡◌ {A = Step} (Show q) ShowRoom = is in cc) case.needs_closed)
show_plain honest q at reply.Stopped S S' case ready no_fault = let bad : false ≡ true = case.unheld in absurd cc
show_plain honest q at (reply.Refused y) S S' (inl case) ready no_fault = let bad : true ≡ false = case.allowed.acts in absurd cc
show_plain honest q at (reply.Refused y) S S' (inr case) ready no_fault = let bad : true ≡ false = case.submits.allowed.acts in absurd cc
show_plain honest q at (reply.Ok y) S S' case ready no_fault = let bad : true ≡ false = case.submits.allowed.acts in absurd cc
show_plain honest q at reply.Fault S S' case ready no_fault = absurd (no_fault refl)
show_plain honest q at reply.Restarted S S' case ready no_fault = let bad : false ≡ true = case.asked in absurd cc
show_plain honest q at (reply.Marked m) S S' case ready no_fault = let bad : ◌≡◌ {A = Step} (Show q) Checkpoint = case.asked in absurd cc
show_plain honest q at (reply.Room room) S S' case ready no_fault = let bad : ◌≡◌ {A = Step} (Show q) ShowRoom = case.asked in absurd cc
show_plain honest q at (reply.Shown s) S S' case ready no_fault = record {
  reply = ap reply.Shown (case.shown ∙ ap (answer_to (replay S.triggers.history)) (same_question case.question q case.asked));
  tables = ap replay (case.stays.stores.triggers.history);
  rows = ap replay_states (case.stays.stores.states.history);
  held = case.stays.held;
}

-- Of a step about the disks: whatever they say, the histories, the rows and the held epochs stay.

same_all : (S S' : ClusterState) → S'.triggers.history ≡ S.triggers.history → S'.states.history ≡ S.states.history → S'.held ≡ S.held → IsPlain reply.Closed (without_disk S.held) S S'
same_all S S' triggers states held = record { reply = refl; tables = ap replay triggers; rows = ap replay_states states; held = held }

marked_plain : (at : ℤ) (m : Marked) (S S' : ClusterState) → MarkedStep (record { step = Checkpoint; at = at }) m S S' → IsPlain reply.Closed (without_disk S.held) S S'
marked_plain at Made S S' case = same_all S S' case.marked.0.history (ap (λ (s : StatesState). s.history) case.states) case.held
marked_plain at NoRoom S S' case = same_all S S' case.marked.0.same.history (ap (λ (s : StatesState). s.history) case.states) case.held

checkpoint_plain : (honest : Type 0) (at : ℤ) (r : StepReply) (S S' : ClusterState) → StepCase honest (record { step = Checkpoint; at = at }) r S S' → (r ≡ reply.Fault → ⊥)
    → IsPlain reply.Closed (without_disk S.held) S S'
checkpoint_plain honest at reply.Closed S S' case no_fault = same_all S S' case.stays.stores.triggers.history case.stays.stores.states.history case.stays.held
checkpoint_plain honest at reply.Stopped S S' case no_fault = let bad : false ≡ true = case.unheld in absurd cc
checkpoint_plain honest at (reply.Refused y) S S' (inl case) no_fault = let bad : true ≡ false = case.allowed.acts in absurd cc
checkpoint_plain honest at (reply.Refused y) S S' (inr case) no_fault = let bad : true ≡ false = case.submits.allowed.acts in absurd cc
checkpoint_plain honest at (reply.Ok y) S S' case no_fault = let bad : true ≡ false = case.submits.allowed.acts in absurd cc
checkpoint_plain honest at reply.Fault S S' case no_fault = absurd (no_fault refl)
checkpoint_plain honest at reply.Restarted S S' case no_fault = let bad : false ≡ true = case.asked in absurd cc
checkpoint_plain honest at (reply.Shown s) S S' case no_fault = let bad : ◌≡◌ {A = Step} Checkpoint (Show case.question) = case.asked in absurd cc
checkpoint_plain honest at (reply.Marked m) S S' case no_fault = marked_plain at m S S' case
checkpoint_plain honest at (reply.Room room) S S' case no_fault = let bad : ◌≡◌ {A = Step} Checkpoint ShowRoom = case.asked in absurd cc

room_plain : (honest : Type 0) (at : ℤ) (r : StepReply) (S S' : ClusterState) → StepCase honest (record { step = ShowRoom; at = at }) r S S' → (r ≡ reply.Fault → ⊥)
    → IsPlain reply.Closed (without_disk S.held) S S'
room_plain honest at reply.Closed S S' case no_fault = same_all S S' case.stays.stores.triggers.history case.stays.stores.states.history case.stays.held
room_plain honest at reply.Stopped S S' case no_fault = let bad : false ≡ true = case.unheld in absurd cc
room_plain honest at (reply.Refused y) S S' (inl case) no_fault = let bad : true ≡ false = case.allowed.acts in absurd cc
room_plain honest at (reply.Refused y) S S' (inr case) no_fault = let bad : true ≡ false = case.submits.allowed.acts in absurd cc
room_plain honest at (reply.Ok y) S S' case no_fault = let bad : true ≡ false = case.submits.allowed.acts in absurd cc
room_plain honest at reply.Fault S S' case no_fault = absurd (no_fault refl)
room_plain honest at reply.Restarted S S' case no_fault = let bad : false ≡ true = case.asked in absurd cc
room_plain honest at (reply.Shown s) S S' case no_fault = let bad : ◌≡◌ {A = Step} ShowRoom (Show case.question) = case.asked in absurd cc
room_plain honest at (reply.Marked m) S S' case no_fault = let bad : ◌≡◌ {A = Step} ShowRoom Checkpoint = case.asked in absurd cc
room_plain honest at (reply.Room room) S S' case no_fault =
    same_all S S' (ap (λ (T : ClusterState). T.triggers.history) case.same) (ap (λ (T : ClusterState). T.states.history) case.same) (ap (λ (T : ClusterState). T.held) case.same)

-- A step without a fault has the reply of a plain scheduler, but for what the disks say, and leaves what it leaves.
pub step_plain : (honest : Type 0) (x : Step) (at : ℤ) (r : StepReply) (S S' : ClusterState) → StepCase honest (record { step = x; at = at }) r S S' → IsReady S → (r ≡ reply.Fault → ⊥)
    → (is_restart x ≡ true → honest) → IsPlain (plain_reply x r) (effect_at S x at) S S'
step_plain honest (Client c) at r S S' case ready no_fault is_honest = works_plain S S' (Client c) at honest r case ready no_fault refl refl
step_plain honest (Join node interval) at r S S' case ready no_fault is_honest = works_plain S S' (Join node interval) at honest r case ready no_fault refl refl
step_plain honest (CheckIn node interval) at r S S' case ready no_fault is_honest = works_plain S S' (CheckIn node interval) at honest r case ready no_fault refl refl
step_plain honest (Node node c) at r S S' case ready no_fault is_honest = works_plain S S' (Node node c) at honest r case ready no_fault refl refl
step_plain honest (Forget node failed) at r S S' case ready no_fault is_honest = works_plain S S' (Forget node failed) at honest r case ready no_fault refl refl
step_plain honest (Stop node) at r S S' case ready no_fault is_honest = works_plain S S' (Stop node) at honest r case ready no_fault refl refl
step_plain honest (Resume node epoch) at r S S' case ready no_fault is_honest = works_plain S S' (Resume node epoch) at honest r case ready no_fault refl refl
step_plain honest (Show q) at r S S' case ready no_fault is_honest = show_plain honest q at r S S' case ready no_fault
step_plain honest Restart at r S S' case ready no_fault is_honest = restart_plain honest at r S S' case ready no_fault (is_honest refl)
step_plain honest Checkpoint at r S S' case ready no_fault is_honest = checkpoint_plain honest at r S S' case no_fault
step_plain honest ShowRoom at r S S' case ready no_fault is_honest = room_plain honest at r S S' case no_fault
