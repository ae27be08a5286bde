-- Calls one after another keep what the disks held.
use Rattle.std.proofs.Common.{◌≡◌, ◌⊎◌, inl, inr, ℕ, List, [], ◌∷◌, refl, sym, subst, arith}
use Rattle.std.proofs.Math.Logic.{∥∥₁_elim, ∥∥₁_map}
use Rattle.std.specs.Prelude.{⊤, Result, Ok, Err}
use Rattle.std.specs.List.{AllByRecursion}
use Rattle.qz_disk.specs.declared.disk.Disk.{Ghosts}
use Rattle.qz_disk.specs.Disk.{IsLawful, Only, LeavesOnly}
use Rattle.qz_disk.proofs.Moments.{started, then_leaves}
use Rattle.qz_io.specs.Outside.{Outside}
use Rattle.qz_journal.specs.declared.layout.TheConstants.{TRIGGERS, STATES}
use Rattle.qz_journal.proofs.Headers.{header_store}
use Rattle.qz_stores.proofs.NewStores.{new_whole}
use Rattle.qz_trigger_store.specs.Bytes.{Whole, list_of, IsWhole}
use Rattle.qz_trigger_store.specs.Kinds.{trigger_kind}
use Rattle.qz_trigger_store.specs.Laws.{trigger_lawful}
use Rattle.qz_checkin.specs.Bytes.{Whole as WholeRows, list_of as rows_list_of, IsWhole as IsWholeRows}
use Rattle.qz_checkin.specs.Kinds.{state_kind}
use Rattle.qz_checkin.specs.Laws.{state_lawful}
use Rattle.qz_cluster.specs.Steps.{ClusterState}
use Rattle.qz_words.specs.declared.wishes.WordFault.{WordFault}
use Rattle.qz_words.specs.declared.wishes.Wish.{Wish}
use Rattle.qz_words.specs.declared.wishes.Wish.TheVariants as wish
use Rattle.qz_top.specs.Found.{HoldWhole}
use Rattle.qz_top.specs.HeadlineByWords.{OnlyLooked, HeadlineOf}
use Rattle.qz_top.specs.InTurn.{Call, HasHeadline, BeginsWith, Keeps, Follows, InTurn}
use Rattle.qz_top.specs.Making.{IsNew, KeepsStores}
use Rattle.qz_top.specs.NodeRuns.{IsKept}
use Rattle.qz_top.specs.Standing.{longer, HoldLonger, HoldLongerRows, OutlastsCrashes}
use Rattle.qz_top.specs.declared.ended.Ended.{Ended}
use Rattle.qz_top.proofs.StandingLaws.{longer_of, rows_longer_of, longer_still, rows_longer_still}

module _ {D : Type 0} {g : Ghosts D} (honest : g.honest) (lawful : (d : D) → IsLawful (g.state d)) (w : Whole) (v : WholeRows) (c : Call g) (begins : BeginsWith w v c) where
  -- what the disks hold as the call begins

  held_now : ∥ HoldLonger w (g.state c.triggers).content ∥₁
  held_now = begins.entries (g.state c.triggers).content (lawful c.triggers).content

  rows_held_now : ∥ HoldLongerRows v (g.state c.states).content ∥₁
  rows_held_now = begins.rows (g.state c.states).content (lawful c.states).content

  -- the disk is read at most
  entries_looked : LeavesOnly (g.state c.triggers) (g.state c.ended.triggers) (g.state c.triggers).IsImage → (b : List ℕ) → (g.state c.ended.triggers).Since (g.state c.triggers).clock b → ∥ HoldLonger w b ∥₁
  entries_looked leaves b since = begins.entries b (leaves.each b since)

  rows_looked : LeavesOnly (g.state c.states) (g.state c.ended.states) (g.state c.states).IsImage → (b : List ℕ) → (g.state c.ended.states).Since (g.state c.states).clock b → ∥ HoldLongerRows v b ∥₁
  rows_looked leaves b since = begins.rows b (leaves.each b since)

  -- it is read, and then goes on
  entries_kept : (held : HoldLonger w (g.state c.triggers).content) → IsKept g c.triggers c.ended.triggers (HoldLonger (longer w held.more)) → (b : List ℕ) → (g.state c.ended.triggers).Since (g.state c.triggers).clock b
      → ∥ HoldLonger w b ∥₁
  entries_kept held kept b since =
      (then_leaves (g.state c.triggers) (g.state kept.opened) (g.state c.ended.triggers) (g.state c.triggers).IsImage (HoldLonger (longer w held.more)) (λ x. ∥ HoldLonger w x ∥₁) kept.reads.any_moment kept.leaves
      begins.entries (λ x holds. ∣ longer_still w held.more x holds ∣₁)).each b since

  rows_kept : (held : HoldLongerRows v (g.state c.states).content) → IsKept g c.states c.ended.states (HoldLongerRows (longer v held.more)) → (b : List ℕ) → (g.state c.ended.states).Since (g.state c.states).clock b
      → ∥ HoldLongerRows v b ∥₁
  rows_kept held kept b since =
      (then_leaves (g.state c.states) (g.state kept.opened) (g.state c.ended.states) (g.state c.states).IsImage (HoldLongerRows (longer v held.more)) (λ x. ∥ HoldLongerRows v x ∥₁) kept.reads.any_moment kept.leaves
      begins.rows (λ x holds. ∣ rows_longer_still v held.more x holds ∣₁)).each b since

  looked_keeps : OnlyLooked c.triggers c.states c.ended → Keeps w v c
  looked_keeps looked = record { entries = entries_looked (looked.triggers_stay honest); rows = rows_looked (looked.states_stay honest) }

  held_whole : (held : HoldLonger w (g.state c.triggers).content) (rows : HoldLongerRows v (g.state c.states).content) → HoldWhole g c.triggers c.states (longer w held.more) (longer v rows.more)
  held_whole held rows = record { honest = honest; entries = held.held; rows = rows.held }

  outlasting_keeps : (end : ClusterState) → OutlastsCrashes g c.triggers c.states c.ended.triggers c.ended.states end → Keeps w v c
  outlasting_keeps end outlasts = record {
    entries = λ b since. ∥∥₁_elim held_now squash₁ (λ held. ∥∥₁_elim rows_held_now squash₁ (λ rows. ∥∥₁_elim (outlasts.any_moment _ _ (held_whole held rows)) squash₁ (λ kept. entries_kept held kept.0 b since)));
    rows = λ b since. ∥∥₁_elim held_now squash₁ (λ held. ∥∥₁_elim rows_held_now squash₁ (λ rows. ∥∥₁_elim (outlasts.any_moment _ _ (held_whole held rows)) squash₁ (λ kept. rows_kept rows kept.1 b since)));
  }

  -- disks that begin as stores are kept
  stores_keep : KeepsStores g c.triggers c.ended.triggers c.states c.ended.states → Keeps w v c
  stores_keep keeps = record {
    entries = λ b since. ∥∥₁_elim held_now squash₁ (λ held. entries_looked (keeps.triggers honest (inl (header_store _ TRIGGERS (w.version, held.held.store.1.header)))) b since);
    rows = λ b since. ∥∥₁_elim rows_held_now squash₁ (λ rows. rows_looked (keeps.states honest (inl (header_store _ STATES (v.version, rows.held.store.1.header)))) b since);
  }

  keeps_by : (words : Result Wish WordFault) → HeadlineOf words c.triggers c.states c.ended c.old c.new → Keeps w v c
  keeps_by (Err fault) looked = looked_keeps looked
  keeps_by (Ok wish.Own) own = looked_keeps own.0
  keeps_by (Ok wish.Init) keeps = stores_keep keeps
  keeps_by (Ok wish.Follow) (inl headline) = stores_keep headline.keeps
  keeps_by (Ok wish.Follow) (inr looked) = looked_keeps looked.0
  keeps_by (Ok wish.Compact) (inl headline) = stores_keep headline.keeps
  keeps_by (Ok wish.Compact) (inr looked) = looked_keeps looked.0
  keeps_by (Ok wish.Script) (inl headline) = outlasting_keeps headline.end headline.outlasts
  keeps_by (Ok wish.Script) (inr none) = looked_keeps none.looked
  keeps_by (Ok wish.Load) (inl headline) = outlasting_keeps headline.end headline.outlasts
  keeps_by (Ok wish.Load) (inr none) = looked_keeps none.looked
  keeps_by (Ok wish.List) looked = looked_keeps looked
  keeps_by (Ok wish.Migrate) (inl headline) = record {
    entries = λ b since. ∥∥₁_elim held_now squash₁ (λ held. entries_kept held (headline.any_moment honest _ held.held) b since);
    rows = rows_looked (subst (λ (d : D). LeavesOnly (g.state c.states) (g.state d) (g.state c.states).IsImage) (sym headline.states_stay) (started (g.state c.states) _ (lawful c.states) (λ b is. is)));
  }
  keeps_by (Ok wish.Migrate) (inr looked) = looked_keeps looked
  keeps_by (Ok (wish.Times after count)) looked = looked_keeps looked
  keeps_by (Ok (wish.Run nodes from until budget)) (inl headline) = outlasting_keeps headline.end headline.outlasts
  keeps_by (Ok (wish.Run nodes from until budget)) (inr (inl none)) = looked_keeps none.looked
  keeps_by (Ok (wish.Run nodes from until budget)) (inr (inr old)) = looked_keeps old.0
  keeps_by (Ok (wish.Gen seed jobs days)) (inl headline) = outlasting_keeps headline.end headline.outlasts
  keeps_by (Ok (wish.Gen seed jobs days)) (inr none) = looked_keeps none.looked

module _ {D : Type 0} {g : Ghosts D} (honest : g.honest) (lawful : (d : D) → IsLawful (g.state d)) (w : Whole) (v : WholeRows) where
  next_begins : (c next : Call g) → Keeps w v c → Follows c next → BeginsWith w v next
  next_begins c next keeps follows = record { entries = λ b is. keeps.entries b (follows.entries b is); rows = λ b is. keeps.rows b (follows.rows b is) }

  pub all_keep : (c : Call g) (calls : List (Call g)) → BeginsWith w v c → AllByRecursion HasHeadline (c ∷ calls) → InTurn c calls → AllByRecursion (Keeps w v) (c ∷ calls)
  all_keep c [] begins headlines turns = (keeps_by honest lawful w v c begins c.words headlines.0, tt)
  all_keep c (next ∷ calls) begins headlines turns =
      let keeps = keeps_by honest lawful w v c begins c.words headlines.0 in
      (keeps, all_keep next calls (next_begins c next keeps turns.0) headlines.1 turns.1)

-- New stores hold empty lists, and a crash leaves them.
module _ {D : Type 0} (g : Ghosts D) where
  pub new_entries : (old new : D) → IsNew TRIGGERS (g.state old) (g.state new) → (b : List ℕ) → (g.state new).IsImage b → HoldLonger (list_of 2 []) b
  new_entries old new made b is =
      subst (HoldLonger (list_of 2 [])) (sym (made.durable b is)) (longer_of _ (g.state new).content ([], new_whole trigger_kind trigger_lawful 2 (g.state new).content made.empty made.header))

  pub new_rows : (old new : D) → IsNew STATES (g.state old) (g.state new) → (b : List ℕ) → (g.state new).IsImage b → HoldLongerRows (rows_list_of 2 []) b
  new_rows old new made b is =
      subst (HoldLongerRows (rows_list_of 2 [])) (sym (made.durable b is)) (rows_longer_of _ (g.state new).content ([], new_whole state_kind state_lawful 2 (g.state new).content made.empty made.header))
