-- Nodes that come and go, one call after another.
use Rattle.std.proofs.Common.{◌≡◌, ◌⊎◌, inl, inr, ℕ, ℤ, List, [], ◌∷◌, ◌++◌, append_assoc, refl, sym, ap, ◌∙◌, subst}
use Rattle.std.proofs.lemmas.List.{append-nil}
use Rattle.std.specs.Prelude.{⊤, Contains, Result, Ok, Err, OnOk}
use Rattle.std.specs.List.{AllByRecursion}
use Rattle.qz_disk.specs.declared.disk.Disk.{Ghosts}
use Rattle.qz_types.specs.Entries.{EntryData, StateEntryData}
use Rattle.qz_model.specs.History.{History}
use Rattle.qz_trigger_store.specs.Entries.{trigger_entry}
use Rattle.qz_trigger_store.specs.View.{view as triggers_view}
use Rattle.qz_trigger_store.specs.declared.stores.TriggerStore.{TriggerStore}
use Rattle.qz_checkin.specs.Entries.{of_states}
use Rattle.qz_checkin.specs.History.{StateHistory}
use Rattle.qz_checkin.specs.View.{view as states_view}
use Rattle.qz_checkin.specs.declared.stores.StateStore.{StateStore}
use Rattle.qz_cluster.specs.Steps.{ClusterState}
use Rattle.qz_run.specs.declared.commands.Declined.{Declined}
use Rattle.qz_run.specs.declared.commands.Declined.TheVariants as why
use Rattle.qz_top.specs.NodeRuns.{both, WentOn}
use Rattle.qz_serve.specs.Going.{KeepOn, Moves, state_of_both, states_of, triggers_of}
use Rattle.qz_serve.specs.Declining.{AtLimit, Declines}
use Rattle.qz_serve.specs.Limits.{StoresGrew, WasDeclined}
use Rattle.qz_serve.specs.Once.{AddsNone, AddsOne, Once}
use Rattle.qz_serve.specs.Ours.{CameAndWent, IsCheckIn, IsForget, IsJoin, IsLeave}
use Rattle.qz_serve.specs.declared.both_stores.BothStores.{BothStores}
use Rattle.qz_serve.proofs.Limiting.{asked_declined, entry_wider, err_map, grew_by_entry, grew_by_row, grew_none, grew_then, row_wider, told_declined, was_declined}

-- The histories went on.

pub went_none : (S : ClusterState) → WentOn S S [] []
went_none S = record { base_count = refl; base = refl; entries = sym (append-nil _); rows_are = sym (append-nil _) }

pub went_then : (S T U : ClusterState) (a b : List EntryData) (r q : List StateEntryData) → WentOn S T a r → WentOn T U b q → WentOn S U (a ++ b) (r ++ q)
went_then S T U a b r q first second = record {
  base_count = second.base_count ∙ first.base_count;
  base = second.base ∙ first.base;
  entries = second.entries ∙ ap (λ es. es ++ b) first.entries ∙ append_assoc S.triggers.history.entries a b;
  rows_are = second.rows_are ∙ ap (λ es. es ++ q) first.rows_are ∙ append_assoc S.states.history.entries r q;
}

all_wider : {X : Type 0} (P Q : X → Type 0) (xs : List X) → ((x : X) → P x → Q x) → AllByRecursion P xs → AllByRecursion Q xs
all_wider P Q [] wider all = tt
all_wider P Q (x ∷ xs) wider all = (wider x all.0, all_wider P Q xs wider all.1)

all_append : {X : Type 0} (P : X → Type 0) (xs ys : List X) → AllByRecursion P xs → AllByRecursion P ys → AllByRecursion P (xs ++ ys)
all_append P [] ys all more = more
all_append P (x ∷ xs) ys all more = (all.0, all_append P xs ys all.1 more)

module _ (shows : ℤ → Type 0) where
  pub came_none : (names : List (List ℕ)) (S : ClusterState) → CameAndWent shows names S S
  came_none names S = record { added = []; rows = []; went_on = went_none S; by_ours = tt; rows_by_ours = tt }

  pub came_then : (names : List (List ℕ)) (S T U : ClusterState) → CameAndWent shows names S T → CameAndWent shows names T U → CameAndWent shows names S U
  came_then names S T U first second = record {
    added = first.added ++ second.added;
    rows = first.rows ++ second.rows;
    went_on = went_then S T U _ _ _ _ first.went_on second.went_on;
    by_ours = all_append (λ (e : EntryData). IsJoin shows names e ⊎ IsLeave shows names e) first.added second.added first.by_ours second.by_ours;
    rows_by_ours = all_append (λ (e : StateEntryData). IsCheckIn shows names e ⊎ IsForget shows names e) first.rows second.rows first.rows_by_ours second.rows_by_ours;
  }

  -- among more names

  module _ (names more : List (List ℕ)) (within : (name : List ℕ) → Contains names name → Contains more name) where
    pub came_wider : (S T : ClusterState) → CameAndWent shows names S T → CameAndWent shows more S T
    came_wider S T came = record {
      added = came.added;
      rows = came.rows;
      went_on = came.went_on;
      by_ours = all_wider (λ (e : EntryData). IsJoin shows names e ⊎ IsLeave shows names e) (λ (e : EntryData). IsJoin shows more e ⊎ IsLeave shows more e) came.added (entry_wider shows names more within) came.by_ours;
      rows_by_ours = all_wider (λ (e : StateEntryData). IsCheckIn shows names e ⊎ IsForget shows names e) (λ (e : StateEntryData). IsCheckIn shows more e ⊎ IsForget shows more e) came.rows (row_wider shows names more within) came.rows_by_ours;
    }

on_ok_with : {A B : Type 0} (r : Result ⊤ Declined) → (A → B) → OnOk r A → OnOk r B
on_ok_with (Ok _) f a = f a
on_ok_with (Err why) f a = tt

module _ {D : Type 0} {g : Ghosts D} where
  -- One transaction.

  asked_by : (shows : ℤ → Type 0) (names : List (List ℕ)) (t u : TriggerStore D g) (s : StateStore D g) (e : EntryData) → IsJoin shows names e ⊎ IsLeave shows names e
      → AddsOne trigger_entry e (triggers_view t) (triggers_view u) ⊎ AddsNone (triggers_view t) (triggers_view u) → CameAndWent shows names (both t s) (both u s)
  asked_by shows names t u s e ours (inl more) = record {
    added = e ∷ [];
    rows = [];
    went_on = record { base_count = ap (λ (h : History). h.base_count) more.history; base = ap (λ (h : History). h.base) more.history; entries = ap (λ (h : History). h.entries) more.history; rows_are = sym (append-nil _) };
    by_ours = (ours, tt);
    rows_by_ours = tt;
  }
  asked_by shows names t u s e ours (inr same) = record {
    added = [];
    rows = [];
    went_on = record { base_count = ap (λ (h : History). h.base_count) same.history; base = ap (λ (h : History). h.base) same.history; entries = ap (λ (h : History). h.entries) same.history ∙ sym (append-nil _); rows_are = sym (append-nil _) };
    by_ours = tt;
    rows_by_ours = tt;
  }

  told_by : (shows : ℤ → Type 0) (names : List (List ℕ)) (t : TriggerStore D g) (s u : StateStore D g) (e : StateEntryData) → IsCheckIn shows names e ⊎ IsForget shows names e
      → AddsOne of_states e (states_view s) (states_view u) ⊎ AddsNone (states_view s) (states_view u) → CameAndWent shows names (both t s) (both t u)
  told_by shows names t s u e ours (inl more) = record {
    added = [];
    rows = e ∷ [];
    went_on = record { base_count = refl; base = refl; entries = sym (append-nil _); rows_are = ap (λ (h : StateHistory). h.entries) more.history };
    by_ours = tt;
    rows_by_ours = (ours, tt);
  }
  told_by shows names t s u e ours (inr same) = record {
    added = [];
    rows = [];
    went_on = record { base_count = refl; base = refl; entries = sym (append-nil _); rows_are = ap (λ (h : StateHistory). h.entries) same.history ∙ sym (append-nil _) };
    by_ours = tt;
    rows_by_ours = tt;
  }

  pub keep_none : (s : BothStores D g) → KeepOn s s
  keep_none s = record { triggers = λ first went. went; states = λ first went. went }

  pub keep_then : (s t u : BothStores D g) → KeepOn s t → KeepOn t u → KeepOn s u
  keep_then s t u one two = record { triggers = λ first went. two.triggers first (one.triggers first went); states = λ first went. two.states first (one.states first went) }

  -- The trigger store was asked once, or the state store.

  pub asks_moves : (shows : ℤ → Type 0) (names : List (List ℕ)) (r : Result ⊤ Declined) (s t : BothStores D g) (e : EntryData) → IsJoin shows names e ⊎ IsLeave shows names e
      → Once trigger_entry e r (triggers_view (triggers_of s)) (triggers_view (triggers_of t)) → states_of t ≡ states_of s → KeepOn s t → Moves shows names r s t
  asks_moves shows names r s t e ours once same keeps = let grew : StoresGrew (state_of_both s) (state_of_both t) = grew_by_entry (state_of_both s) (state_of_both t) e once.adds (ap (λ (u : StateStore D g). states_view u) same) in record {
    moved = subst (λ (u : StateStore D g). CameAndWent shows names (state_of_both s) (both (triggers_of t) u)) (sym same) (asked_by shows names (triggers_of s) (triggers_of t) (states_of s) e ours once.adds);
    keeps = keeps;
    stays = λ was. on_ok_with r (λ is. (is, ap (λ (u : StateStore D g). (states_view u).is_open) same ∙ was.1)) once.stays;
    fault = λ is. inl (once.fault is);
    grew = grew;
    declined = λ until. err_map (AtLimit (Declines trigger_entry (triggers_view (triggers_of s)) e)) (AtLimit (WasDeclined shows until names (state_of_both s) (state_of_both t))) r (asked_declined shows until names (state_of_both s) (state_of_both t) e ours grew) once.declined;
  }

  pub tells_moves : (shows : ℤ → Type 0) (names : List (List ℕ)) (r : Result ⊤ Declined) (s t : BothStores D g) (e : StateEntryData) → IsCheckIn shows names e ⊎ IsForget shows names e
      → Once of_states e r (states_view (states_of s)) (states_view (states_of t)) → triggers_of t ≡ triggers_of s → KeepOn s t → Moves shows names r s t
  tells_moves shows names r s t e ours once same keeps = let grew : StoresGrew (state_of_both s) (state_of_both t) = grew_by_row (state_of_both s) (state_of_both t) e once.adds (ap (λ (u : TriggerStore D g). triggers_view u) same) in record {
    moved = subst (λ (u : TriggerStore D g). CameAndWent shows names (state_of_both s) (both u (states_of t))) (sym same) (told_by shows names (triggers_of s) (states_of s) (states_of t) e ours once.adds);
    keeps = keeps;
    stays = λ was. on_ok_with r (λ is. (ap (λ (u : TriggerStore D g). (triggers_view u).is_open) same ∙ was.0, is)) once.stays;
    fault = λ is. inr (once.fault is);
    grew = grew;
    declined = λ until. err_map (AtLimit (Declines of_states (states_view (states_of s)) e)) (AtLimit (WasDeclined shows until names (state_of_both s) (state_of_both t))) r (told_declined shows until names (state_of_both s) (state_of_both t) e ours grew) once.declined;
  }

  -- Nothing was done.

  pub moves_none : (shows : ℤ → Type 0) (names : List (List ℕ)) (s : BothStores D g) → Moves shows names (Ok tt) s s
  moves_none shows names s = record { moved = came_none shows names (state_of_both s); keeps = keep_none s; stays = λ was. was; fault = λ is. absurd (cc); grew = grew_none (state_of_both s); declined = λ until. tt }

  -- for want of memory
  pub moves_starved : (shows : ℤ → Type 0) (names : List (List ℕ)) (s : BothStores D g) → Moves shows names (Err why.NoMemory) s s
  moves_starved shows names s = record { moved = came_none shows names (state_of_both s); keeps = keep_none s; stays = λ was. tt; fault = λ is. absurd (cc); grew = grew_none (state_of_both s); declined = λ until. tt }

  -- One after another, as long as it goes well.
  pub moves_then : (shows : ℤ → Type 0) (names : List (List ℕ)) (r : Result ⊤ Declined) (s t u : BothStores D g) → Moves shows names (Ok tt) s t → Moves shows names r t u → Moves shows names r s u
  moves_then shows names r s t u first second = record {
    moved = came_then shows names (state_of_both s) (state_of_both t) (state_of_both u) first.moved second.moved;
    keeps = keep_then s t u first.keeps second.keeps;
    stays = λ was. second.stays (first.stays was);
    fault = second.fault;
    grew = grew_then (state_of_both s) (state_of_both t) (state_of_both u) first.grew second.grew;
    declined = λ until. err_map (AtLimit (WasDeclined shows until names (state_of_both t) (state_of_both u))) (AtLimit (WasDeclined shows until names (state_of_both s) (state_of_both u))) r (was_declined shows until names names (λ name c. c) (state_of_both s) (state_of_both t) (state_of_both u) first.grew) (second.declined until);
  }

  pub moves_wider : (shows : ℤ → Type 0) (names more : List (List ℕ)) (r : Result ⊤ Declined) (s t : BothStores D g) → ((name : List ℕ) → Contains names name → Contains more name) → Moves shows names r s t → Moves shows more r s t
  moves_wider shows names more r s t within moves =
      record {
        moved = came_wider shows names more within (state_of_both s) (state_of_both t) moves.moved;
        keeps = moves.keeps;
        stays = moves.stays;
        fault = moves.fault;
        grew = moves.grew;
        declined = λ until. err_map (AtLimit (WasDeclined shows until names (state_of_both s) (state_of_both t))) (AtLimit (WasDeclined shows until more (state_of_both s) (state_of_both t))) r (was_declined shows until names more within (state_of_both s) (state_of_both s) (state_of_both t) (grew_none (state_of_both s))) (moves.declined until);
      }

  -- it went well, and what came of it was made from memory afterwards, or that was wanting
  pub moves_starved_then : (shows : ℤ → Type 0) (names : List (List ℕ)) (s t : BothStores D g) → Moves shows names (Ok tt) s t → Moves shows names (Err why.NoMemory) s t
  moves_starved_then shows names s t moves = record { moved = moves.moved; keeps = moves.keeps; stays = λ was. tt; fault = λ is. absurd (cc); grew = moves.grew; declined = λ until. tt }
