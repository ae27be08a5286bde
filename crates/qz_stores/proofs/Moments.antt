-- What calls of a store leave of its histories, one after another.
use Rattle.std.proofs.Common.{◌≡◌, inl, inr, ⊎_elim, ℕ, List, ◌++◌, sym, ◌∙◌, ap, subst}
use Rattle.std.proofs.Math.Logic.{∥∥₁_map}
use Rattle.qz_disk.specs.declared.disk.Disk.{Ghosts}
use Rattle.qz_disk.specs.Disk.{IsLawful as DiskIsLawful, LeavesOnly}
use Rattle.qz_disk.proofs.Moments
use Rattle.qz_journal.specs.View.{disk_of as journal_disk, gate_of, count_of}
use Rattle.qz_stores.specs.Stores.{StoreState, Shuts}
use Rattle.qz_stores.specs.Kinds.{StoreKind, IsLawful}
use Rattle.qz_stores.specs.Bases.{HoldAll, WholeList}
use Rattle.qz_stores.specs.Bytes.{MayBe, IsOfEither}
use Rattle.qz_stores.specs.View.{view, version_of, added_of, found_of, base_count_of, base_of, opened_of, disk_state, GoesOnFrom, IsTold, IsOpenedAsBefore, IsAsBefore, LeavesHistories}
use Rattle.qz_stores.specs.declared.kinds.Kind.{Ghosts as Kinds}
use Rattle.qz_stores.specs.declared.stores.Store.{Store}
use Rattle.qz_stores.proofs.Histories.{now_may, held_from}

-- the bytes of one history are those of another that is the same
pub may_as : {H S E R : Type 0} (k : StoreKind H S E R) (w : WholeList S E) (s t : StoreState H E) (b : List ℕ) → t.history ≡ s.history → t.undecided ≡ s.undecided → MayBe k w t.history t.undecided b → MayBe k w s.history s.undecided b
may_as k w s t b history undecided may = subst (λ u. MayBe k w s.history u b) undecided (subst (λ h. MayBe k w h t.undecided b) history may)

module _ {D K E R C : Type 0} {g : Ghosts D} {k : Kinds K E R C} (lawful : IsLawful k.kind) where
  -- Each image is that of the history, or of it with the undecided entry.
  pub now : (s : Store D K E R C g k) → g.honest → (w : WholeList k.State E) → GoesOnFrom s w → (b : List ℕ) → (disk_state s).IsImage b → MayBe k.kind w (view s).history s.undecided b
  now s honest w from b is =
      now_may k.kind lawful (version_of s) (base_count_of s) (base_of s) (opened_of s) (found_of s) (s.ended honest) (added_of s) s.undecided b w from
      (s.images honest w.start (w.entries ++ from.0) (held_from k.kind lawful (version_of s) (base_count_of s) (base_of s) (opened_of s) (found_of s) (s.ended honest) w from) b is)

  pub from_told : {P : Type 0} (s : Store D K E R C g k) → IsTold s → (g.honest → (w : WholeList k.State E) → GoesOnFrom s w → P) → ∥ P ∥₁
  from_told s told then = ∥∥₁_map told.1 (λ x. then told.0 x.0 x.1)

  -- No call was made.
  pub rests : (s : Store D K E R C g k) → DiskIsLawful (disk_state s) → g.honest → LeavesHistories s s
  rests s disk honest w from = (from, Moments.started (disk_state s) _ disk (λ b is. inl (now s honest w from b is)))

  -- What was opened stays.
  pub goes_on_still : (s t : Store D K E R C g k) (w : WholeList k.State E) → IsOpenedAsBefore s t → GoesOnFrom s w → GoesOnFrom t w
  goes_on_still s t w same from = (from.0, same.0 ∙ from.1, subst (λ (o : List ℕ). HoldAll k.kind w.version w.start o (w.entries ++ from.0)) (sym same.4) from.2)

  -- One call after another, where what is of the state between them is of the first or of the last.
  pub then_leaves : (s t u : Store D K E R C g k) → LeavesHistories s t → LeavesHistories t u
      → ((w : WholeList k.State E) (b : List ℕ) → MayBe k.kind w (view t).history (view t).undecided b → IsOfEither k.kind w (view s) (view u) b) → LeavesHistories s u
  then_leaves s t u first second between w from =
      let one = first w from in
      let two = second w one.0 in
      (two.0, Moments.then_leaves (disk_state s) (disk_state t) (disk_state u) _ _ _ one.1 two.1 (λ b either. ⊎_elim (λ is. inl is) (between w b) either) (λ b either. ⊎_elim (between w b) (λ is. inr is) either))

  -- the first of them only closed the store
  pub shut_before : (s t u : Store D K E R C g k) → Shuts (view s) (view t) → LeavesHistories s t → LeavesHistories t u → LeavesHistories s u
  shut_before s t u shut first second =
      then_leaves s t u first second (λ w b may. inl (may_as k.kind w (view s) (view t) b shut.history shut.undecided may))

  -- the last of them did
  pub shut_after : (s t u : Store D K E R C g k) → Shuts (view t) (view u) → LeavesHistories s t → LeavesHistories t u → LeavesHistories s u
  shut_after s t u shut first second =
      then_leaves s t u first second (λ w b may. inr (may_as k.kind w (view u) (view t) b (sym shut.history) (sym shut.undecided) may))

  -- What was done before a call changed nothing.

  same_view : (s t : Store D K E R C g k) → IsAsBefore s t → ((view t).history ≡ (view s).history) × ((view t).undecided ≡ (view s).undecided)
  same_view s t same =
      let opened = same.1 in
      let more : found_of t ++ added_of t ≡ found_of s ++ added_of s = λ i. opened.3 i ++ same.5 i in
      (λ i. k.kind.history (opened.1 i) (opened.2 i) (more i), same.7)

  pub view_as_before : (s t : Store D K E R C g k) → IsAsBefore s t → view t ≡ view s
  view_as_before s t same =
      let both = same_view s t same in
      λ i. record { history = both.0 i; gate = gate_of (same.0 i); payloads = count_of (same.0 i); is_open = same.6 i; undecided = both.1 i; faults = g.faults (journal_disk (same.0 i)) }

  disk_as_before : (s t : Store D K E R C g k) → IsAsBefore s t → disk_state t ≡ disk_state s
  disk_as_before s t same = ap (λ j. g.state (journal_disk j)) same.0

  pub then_as_before : (s t u : Store D K E R C g k) → IsAsBefore s t → LeavesHistories t u → LeavesHistories s u
  then_as_before s t u same leaves w from =
      let done = leaves w (goes_on_still s t w same.1 from) in
      let both = same_view s t same in (
        done.0,
        subst (λ d. LeavesOnly d (disk_state u) (IsOfEither k.kind w (view s) (view u))) (disk_as_before s t same)
            (Moments.weaker (disk_state t) (disk_state u) _ _ done.1 (λ b either. ⊎_elim (λ is. inl (may_as k.kind w (view s) (view t) b both.0 both.1 is)) (λ is. inr is) either)),
      )

  pub rests_as_before : (s t : Store D K E R C g k) → IsAsBefore s t → DiskIsLawful (disk_state s) → g.honest → LeavesHistories s t
  rests_as_before s t same disk honest w from = (
    goes_on_still s t w same.1 from,
    subst (λ d. LeavesOnly (disk_state s) d (IsOfEither k.kind w (view s) (view t))) (sym (disk_as_before s t same))
        (Moments.started (disk_state s) _ disk (λ b is. inl (now s honest w from b is))),
  )
