-- Along the steps of a script nothing is lost: each state has all that the one before it has.
use Rattle.std.proofs.Common.{◌≡◌, ◌⊎◌, inl, inr, ℕ, ◌≤◌, List, [], ◌∷◌, ◌++◌, length, take, drop, Option, Some, None, refl, sym, ap, ◌∙◌, subst, arith, append_assoc, append-nil, take-append-drop}
use Rattle.std.proofs.lemmas.List.{length-take-le}
use Rattle.std.proofs.Math.Logic.{∥∥₁_map}
use Rattle.qz_disk.specs.declared.disk.Disk.{Ghosts}
use Rattle.qz_types.specs.Entries.{EntryData, StateEntryData}
use Rattle.qz_types.specs.declared.replies.Reply.{Reply}
use Rattle.qz_steps.specs.declared.rooms.Marked.TheVariants.{Made, NoRoom}
use Rattle.qz_steps.specs.declared.steps.StepReply.{StepReply}
use Rattle.qz_steps.specs.declared.steps.StepReply.TheVariants as reply
use Rattle.qz_stores.specs.Kinds.{StoreKind, IsLawful, with_entry}
use Rattle.qz_stores.specs.Bases.{IsEndOf, IsDecided}
use Rattle.qz_stores.proofs.Histories.{end_with}
use Rattle.qz_stores.proofs.Whole.{end_as}
use Rattle.qz_trigger_store.specs.Entries.{TriggerState}
use Rattle.qz_trigger_store.specs.Kinds.{trigger_kind}
use Rattle.qz_trigger_store.specs.Laws.{trigger_lawful}
use Rattle.qz_checkin.specs.Entries.{StatesState}
use Rattle.qz_checkin.specs.Kinds.{state_kind}
use Rattle.qz_checkin.specs.Laws.{state_lawful}
use Rattle.qz_checkin.specs.Rows.{new_state_tables}
use Rattle.qz_types.specs.Rows.{MemberData}
use Rattle.qz_types.specs.Tables.{empty}
use Rattle.qz_cluster.specs.Script.{TimedStep}
use Rattle.qz_cluster.specs.Steps.{ClusterState, StatesDone, TriggersDone, AtStates, AtTriggers, StepCase}
use Rattle.qz_open.specs.Runs.{StepsDone}
use Rattle.qz_top.specs.Found.{IsFoundOn, IsTold}
use Rattle.qz_top.specs.Standing.{HasAllOf, LoseNothing}
use Rattle.qz_top.specs.Trails.{new_cluster}
use Rattle.qz_top.proofs.LossLaws.{entry_keeps}

module _ {H S E R : Type 0} (k : StoreKind H S E R) (lawful : IsLawful k) where
  -- the history is an end of some list
  abbrev pub HasEnd : H → Type 0
  HasEnd h = ∥ ((start : S) × (entries : List E) × IsEndOf k start h entries) ∥₁

  -- an end without its last entry
  end_without : (start : S) (h : H) (e : E) (l : List E) → IsEndOf k start (with_entry k e h) l → (es : List E) × (l ≡ es ++ e ∷ []) × IsEndOf k start h es
  end_without start h e l is =
      let n = k.base_count h in
      let front = take n l in
      let count : k.base_count (with_entry k e h) ≡ n = lawful.base_count_is n (k.base h) (k.entries h ++ e ∷ []) in
      let list : k.entries (with_entry k e h) ≡ k.entries h ++ e ∷ [] = lawful.entries_are n (k.base h) (k.entries h ++ e ∷ []) in
      let base : k.base (with_entry k e h) ≡ k.base h = lawful.base_is n (k.base h) (k.entries h ++ e ∷ []) in
      let there : n ≤ length l = omega (arith, count, is.there) in
      let behind : k.entries h ++ e ∷ [] ≡ drop n l = sym list ∙ is.rest ∙ ap (λ (m : ℕ). drop m l) count in
      let state : k.base h ≡ k.replay_from start front = sym base ∙ is.base ∙ ap (λ (m : ℕ). k.replay_from start (take m l)) count in
      let whole : l ≡ front ++ (k.entries h ++ e ∷ []) = sym (take-append-drop n l) ∙ ap (λ (x : List E). front ++ x) (sym behind) in (
        front ++ k.entries h,
        whole ∙ sym (append_assoc front (k.entries h) (e ∷ [])),
        subst (λ (x : H). IsEndOf k start x (front ++ k.entries h)) (lawful.whole h)
            (end_as k lawful start n (k.base h) (k.entries h) (front ++ k.entries h) front (k.entries h) refl (sym (length-take-le n l there)) state refl),
      )

  -- What a step makes of a history: it stays, or it has one entry more, or a restart decides it.
  abbrev pub Moves : Type 0 → H → Option E → H → Type 0
  Moves told h u h' = (h' ≡ h) ⊎ ((e : E) × (h' ≡ with_entry k e h)) ⊎ (told → ∥ ((start : S) × IsDecided k start h u h') ∥₁)

  decided_all : (h : H) (u : Option E) (h' : H) → (start : S) × IsDecided k start h u h' → (start : S) × (entries : List E) × (more : List E) × IsEndOf k start h entries × IsEndOf k start h' (entries ++ more)
  decided_all h None h' (O, d) = (O, d.entries, [], d.first, subst (IsEndOf k O h') (sym (append-nil d.entries)) d.second)
  decided_all h (Some e) h' (O, inl d) = (O, d.entries, [], d.first, subst (IsEndOf k O h') (sym (append-nil d.entries)) d.second)
  decided_all h (Some e) h' (O, inr d) =
      let cut = end_without O h e d.entries d.first in
      (O, cut.0, e ∷ [], cut.2, subst (IsEndOf k O h') cut.1 d.second)

  pub moved : (told : Type 0) → told → (h : H) (u : Option E) (h' : H) → HasEnd h → Moves told h u h' → HasAllOf k h' h
  moved told is h u h' has (inl same) =
      ∥∥₁_map has (λ x. (x.0, x.1, [], x.2, subst (λ (g : H). IsEndOf k x.0 g (x.1 ++ [])) (sym same) (subst (IsEndOf k x.0 h) (sym (append-nil x.1)) x.2)))
  moved told is h u h' has (inr (inl (e, same))) =
      ∥∥₁_map has (λ x. (x.0, x.1, e ∷ [], x.2, subst (λ (g : H). IsEndOf k x.0 g (x.1 ++ e ∷ [])) (sym same) (end_with k lawful x.0 h x.1 e x.2)))
  moved told is h u h' has (inr (inr decided)) = ∥∥₁_map (decided is) (decided_all h u h')

  pub still_end : (h h' : H) → HasAllOf k h' h → HasEnd h'
  still_end h h' all = ∥∥₁_map all (λ x. (x.0, x.1 ++ x.2, x.4))

-- Steps.

entry_moves : (told : Type 0) (u : Option EntryData) (o : Option EntryData) (r : Reply) (s t : TriggerState) → TriggersDone o r s t → Moves trigger_kind trigger_lawful told s.history u t.history
entry_moves told u None r s t is = inl is.0.history
entry_moves told u (Some e) r s t is = inr (inl (e, is.history))

row_moves : (told : Type 0) (u : Option StateEntryData) (o : Option StateEntryData) (s t : StatesState) → StatesDone o s t → Moves state_kind state_lawful told s.history u t.history
row_moves told u None s t is = inl is.history
row_moves told u (Some e) s t is = inr (inl (e, is.history))

module _ (told : Type 0) (C : StateEntryData → StatesState → StatesState → Type 0) (A : EntryData → TriggerState → TriggerState → Type 0) (keeps : (e : StateEntryData) (s t : StatesState) → C e s t → t.history ≡ s.history) where
  rows_at : (held : List MemberData) (t : TimedStep) (S S' : ClusterState) → AtStates C t S S' ⊎ AtTriggers A held t S S' → Moves state_kind state_lawful told S.states.history S.states.undecided S'.states.history
  rows_at held t S S' (inl at) = inl (keeps at.entry S.states S'.states at.states)
  rows_at held t S S' (inr at) = row_moves told S.states.undecided _ S.states S'.states at.states

abbrev BothMove : Type 0 → ClusterState → ClusterState → Type 0
BothMove told S S' =
    Moves trigger_kind trigger_lawful told S.triggers.history S.triggers.undecided S'.triggers.history × Moves state_kind state_lawful told S.states.history S.states.undecided S'.states.history

step_moves : (told : Type 0) (t : TimedStep) (r : StepReply) (S S' : ClusterState) → StepCase told t r S S' → BothMove told S S'
step_moves told t (reply.Ok x) S S' case = (entry_moves told S.triggers.undecided _ x S.triggers S'.triggers case.triggers, row_moves told S.states.undecided _ S.states S'.states case.states)
step_moves told t (reply.Refused x) S S' (inl case) = (inl case.stays.stores.triggers.history, inl case.stays.stores.states.history)
step_moves told t (reply.Refused x) S S' (inr case) =
    (inl (entry_keeps _ _ (λ e s u is. is.same.history) _ t S S' case.which), rows_at told _ _ (λ e s u is. is.same.history) _ t S S' case.which)
step_moves told t reply.Fault S S' (inl case) = (inl (entry_keeps _ _ (λ e s u is. is.history) _ t S S' case.which), rows_at told _ _ (λ e s u is. is.history) _ t S S' case.which)
step_moves told t reply.Fault S S' (inr (inr case)) = (inl case.breaks.history, inl (ap (λ (s : StatesState). s.history) case.states))
step_moves told t reply.Fault S S' (inr (inl case)) = (inl case.shut.triggers.history, inl case.shut.states.history)
step_moves told t reply.Closed S S' case = (inl case.stays.stores.triggers.history, inl case.stays.stores.states.history)
step_moves told t reply.Stopped S S' case = (inl case.stays.stores.triggers.history, inl case.stays.stores.states.history)
step_moves told t (reply.Shown s) S S' case = (inl case.stays.stores.triggers.history, inl case.stays.stores.states.history)
step_moves told t (reply.Marked Made) S S' case = (inl case.marked.0.history, inl (ap (λ (s : StatesState). s.history) case.states))
step_moves told t (reply.Marked NoRoom) S S' case = (inl case.marked.0.same.history, inl (ap (λ (s : StatesState). s.history) case.states))
step_moves told t (reply.Room room) S S' case = (inl (ap (λ (T : ClusterState). T.triggers.history) case.same), inl (ap (λ (T : ClusterState). T.states.history) case.same))
step_moves told t reply.Restarted S S' case = (inr (inr case.triggers.decided), inr (inr case.states.decided))

-- Runs.

abbrev pub HaveEnds : ClusterState → Type 0
HaveEnds S = HasEnd trigger_kind trigger_lawful S.triggers.history × HasEnd state_kind state_lawful S.states.history

pub loses_nothing : (told : Type 0) → told → (S : ClusterState) (ts : List TimedStep) (rs : List StepReply) (states : List ClusterState) → StepsDone told S ts rs states → HaveEnds S → LoseNothing S states
loses_nothing told is S [] [] [] p ends = tt
loses_nothing told is S (t ∷ ts) (r ∷ rs) (S' ∷ states) p ends =
    let moves = step_moves told t r S S' p.0.case in
    let entries = moved trigger_kind trigger_lawful told is S.triggers.history S.triggers.undecided S'.triggers.history ends.0 moves.0 in
    let rows = moved state_kind state_lawful told is S.states.history S.states.undecided S'.states.history ends.1 moves.1 in
    let next : HaveEnds S' = (still_end trigger_kind trigger_lawful S.triggers.history S'.triggers.history entries, still_end state_kind state_lawful S.states.history S'.states.history rows) in
    (entries, rows, loses_nothing told is S' ts rs states p.1 next)
loses_nothing told is S [] (r ∷ rs) states p ends = absurd p
loses_nothing told is S [] [] (x ∷ states) p ends = absurd p
loses_nothing told is S (t ∷ ts) [] states p ends = absurd p
loses_nothing told is S (t ∷ ts) (r ∷ rs) [] p ends = absurd p

-- where stores begin that were opened on disks of the premise
pub ends_found : {D : Type 0} (g : Ghosts D) (triggers states : D) (opened : ClusterState) → (g.honest → IsFoundOn g triggers states opened) → IsTold g triggers → HaveEnds opened
ends_found g triggers states opened found told =
    let is = found told.0 in
    let rows = is.1.whole is.1.all is.1.held in (
      ∥∥₁_map told.1 (λ x. let stands = is.0.whole x.0 x.1 in (x.0.start, x.0.entries ++ stands.more, stands.end_of_them)),
      ∣ (is.1.all.start, is.1.all.entries ++ rows.more, rows.end_of_them) ∣₁,
    )

-- and new ones
pub new_ends : (m n : ℕ) → HaveEnds (new_cluster m n)
new_ends m n = (∣ (empty 2, [], record { there = omega arith; rest = refl; base = refl }) ∣₁, ∣ (new_state_tables, [], record { there = omega arith; rest = refl; base = refl }) ∣₁)
