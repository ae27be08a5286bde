-- Nodes that worked under a board, or under none: what is known of the store under the board is known of the store itself.
use Rattle.std.proofs.Common.{◌≡◌, ◌⊎◌, ℕ, ℤ, List, subst}
use Rattle.std.proofs.Math.Logic.{∥∥₁_elim, ∥∥₁_map}
use Rattle.std.proofs.Props.{props}
use Rattle.std.specs.List.{AllByRecursion}
use Rattle.std.specs.Prelude.{⊤, false, Option, Some, None, IfSome}
use Rattle.qz_board.specs.Boards.{writer_board}
use Rattle.qz_board.specs.declared.shown.Subject.{Ghosts as Subjects}
use Rattle.qz_board_looks.specs.Watches.{GoesOn}
use Rattle.qz_board_looks.specs.declared.watches.Watch.{Watch}
use Rattle.qz_board_stores.specs.Boarded.{BoardedWent}
use Rattle.qz_board_stores.specs.declared.boarded.Boarded.{Boarded}
use Rattle.qz_checkin.specs.Rows.{StateTables}
use Rattle.qz_disk.specs.declared.disk.Disk.{Ghosts}
use Rattle.qz_node.specs.Jobs.{JobMeaning}
use Rattle.qz_run.specs.declared.commands.Declined.{Declined}
use Rattle.qz_shared.specs.Since.{IsSince}
use Rattle.qz_shared_stores.specs.Going.{TriggersWentOn}
use Rattle.qz_shared_stores.specs.declared.triggers.SharedTriggers.{SharedTriggers}
use Rattle.qz_stores.specs.Stores.{EntryKind, StoreState}
use Rattle.qz_trigger_store.specs.Entries.{trigger_entry}
use Rattle.qz_trigger_store.specs.View.{view as triggers_view}
use Rattle.qz_types.specs.Entries.{StateEntryData}
use Rattle.qz_types.specs.Rows.{MemberData}
use Rattle.qz_serve.specs.Courses.{done_since}
use Rattle.qz_serve.specs.Declining.{AtLimit, DeclinedOnTheWay}
use Rattle.qz_serve.specs.Finished.{NodeCameToEnd}
use Rattle.qz_serve.specs.Served.{NodesServed}
use Rattle.qz_serve.specs.Stopping.{IsOfThreads, IsRowOfThreads}
use Rattle.qz_serve.specs.Watching.{Watched}

module _ {D : Type 0} {g : Ghosts D} where
  -- The moment up to which they worked, and the stores, by other names.
  pub served_as : (shows : ℤ → Type 0) (u v : ℤ) (leaves : List StateEntryData → StateTables → Type 0) (members : List MemberData) (s s' t t' : SharedTriggers D g) (first_rows now_rows : List StateEntryData) (before after : List (List JobMeaning))
      → u ≡ v → s ≡ s' → t ≡ t'
      → NodesServed shows u (done_since (triggers_view s.store)) leaves members (triggers_view s.store).history.entries (triggers_view t.store).history.entries first_rows now_rows before after
      → NodesServed shows v (done_since (triggers_view s'.store)) leaves members (triggers_view s'.store).history.entries (triggers_view t'.store).history.entries first_rows now_rows before after
  served_as shows u v leaves members s s' t t' first_rows now_rows before after moment one two served =
      subst (λ (x : ℤ). NodesServed shows x (done_since (triggers_view s'.store)) leaves members (triggers_view s'.store).history.entries (triggers_view t'.store).history.entries first_rows now_rows before after) moment
      (subst (λ (x : SharedTriggers D g). NodesServed shows u (done_since (triggers_view x.store)) leaves members (triggers_view x.store).history.entries (triggers_view t'.store).history.entries first_rows now_rows before after) one
      (subst (λ (x : SharedTriggers D g). NodesServed shows u (done_since (triggers_view s.store)) leaves members (triggers_view s.store).history.entries (triggers_view x.store).history.entries first_rows now_rows before after) two served))

  module _ {H : Type 0} (kind : EntryKind H StateEntryData ⊤) (listed : H → List StateEntryData) (shows : ℤ → Type 0) (leaves : List StateEntryData → StateTables → Type 0) (first seen : List StateEntryData) (names : List (List ℕ)) (S T : StoreState H StateEntryData) where
    abbrev WasDeclinedTo : ℤ → SharedTriggers D g → SharedTriggers D g → Declined → Type 0
    WasDeclinedTo u s t why = DeclinedOnTheWay trigger_entry (λ h. h.entries) (IsOfThreads shows u leaves first names seen) (triggers_view s.store) (triggers_view t.store) why
        ⊎ DeclinedOnTheWay kind listed (IsRowOfThreads shows u leaves first names seen) S T why

    pub declined_as : (o : Option Declined) (u v : ℤ) (s s' t t' : SharedTriggers D g) → u ≡ v → s ≡ s' → t ≡ t' → IfSome o (AtLimit (WasDeclinedTo u s t)) → IfSome o (AtLimit (WasDeclinedTo v s' t'))
    declined_as o u v s s' t t' moment one two declined =
        subst (λ (x : ℤ). IfSome o (AtLimit (WasDeclinedTo x s' t'))) moment
        (subst (λ (x : SharedTriggers D g). IfSome o (AtLimit (WasDeclinedTo u x t'))) one
        (subst (λ (x : SharedTriggers D g). IfSome o (AtLimit (WasDeclinedTo u s x))) two declined))

  pub ended_as : (shows : ℤ → Type 0) (u v : ℤ) (s s' t t' : SharedTriggers D g) (first seen : List StateEntryData) (members : List MemberData) → u ≡ v → s ≡ s' → t ≡ t'
      → AllByRecursion (NodeCameToEnd trigger_entry (λ h. h.entries) (triggers_view s.store) shows u first (triggers_view t.store).history.entries seen) members
      → AllByRecursion (NodeCameToEnd trigger_entry (λ h. h.entries) (triggers_view s'.store) shows v first (triggers_view t'.store).history.entries seen) members
  ended_as shows u v s s' t t' first seen members moment one two ended =
      subst (λ (x : ℤ). AllByRecursion (NodeCameToEnd trigger_entry (λ h. h.entries) (triggers_view s'.store) shows x first (triggers_view t'.store).history.entries seen) members) moment
      (subst (λ (x : SharedTriggers D g). AllByRecursion (NodeCameToEnd trigger_entry (λ h. h.entries) (triggers_view x.store) shows u first (triggers_view t'.store).history.entries seen) members) one
      (subst (λ (x : SharedTriggers D g). AllByRecursion (NodeCameToEnd trigger_entry (λ h. h.entries) (triggers_view s.store) shows u first (triggers_view x.store).history.entries seen) members) two ended))

  pub closed_as : (t t' : SharedTriggers D g) (P : Type 0) → t ≡ t' → ((triggers_view t.store).is_open ≡ false) ⊎ P → ((triggers_view t'.store).is_open ≡ false) ⊎ P
  closed_as t t' P two closed = subst (λ (x : SharedTriggers D g). ((triggers_view x.store).is_open ≡ false) ⊎ P) two closed

  pub since_as : (s s' t t' : SharedTriggers D g) → s ≡ s' → t ≡ t' → IsSince trigger_entry (λ h. h.entries) (triggers_view s.store) (triggers_view t.store) → IsSince trigger_entry (λ h. h.entries) (triggers_view s'.store) (triggers_view t'.store)
  since_as s s' t t' one two since =
      subst (λ (x : SharedTriggers D g). IsSince trigger_entry (λ h. h.entries) (triggers_view x.store) (triggers_view t'.store)) one
      (subst (λ (x : SharedTriggers D g). IsSince trigger_entry (λ h. h.entries) (triggers_view s.store) (triggers_view x.store)) two since)

  pub went_as : (s s' t t' : SharedTriggers D g) → s ≡ s' → t ≡ t' → ∥ TriggersWentOn s.store t.store ∥₁ → ∥ TriggersWentOn s'.store t'.store ∥₁
  went_as s s' t t' one two went =
      subst (λ (x : SharedTriggers D g). ∥ TriggersWentOn x.store t'.store ∥₁) one
      (subst (λ (x : SharedTriggers D g). ∥ TriggersWentOn s.store x.store ∥₁) two went)

  -- The store under a board went on, and its board is the same.
  module _ {R : Type 0} (b c : Boarded D R g) (went : ∥ BoardedWent b c ∥₁) where
    pub store_went : ∥ TriggersWentOn b.store.store c.store.store ∥₁
    store_went = ∥∥₁_map went (λ w. w.store)

    pub board_stays : writer_board c.writer ≡ writer_board b.writer
    board_stays = ∥∥₁_elim went (hlevel props) (λ w. w.board)

-- Looks that were planned before are there after.
module _ {K E G : Type 0} {g : Subjects K E G} where
  pub looks_left : (v : Watch K E G g) (o : Option (Watch K E G g)) → o ≡ None → Watched (Some v) o → ⊥
  looks_left v o is watched = subst (Watched (Some v)) is watched

  pub looks_go_on : (v w : Watch K E G g) (o : Option (Watch K E G g)) → o ≡ Some w → Watched (Some v) o → GoesOn v w
  looks_go_on v w o is watched = subst (Watched (Some v)) is watched
