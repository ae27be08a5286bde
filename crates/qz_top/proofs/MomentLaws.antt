-- What a crash in the middle of a script leaves.
use Rattle.std.proofs.Common.{◌≡◌, ◌⊎◌, inl, inr, ◌≤◌, false, true, ℕ, List, [], ◌∷◌, ◌++◌, refl, sym, ap, subst, ◌∙◌, append_assoc}
use Rattle.std.proofs.lemmas.List.{append-nil}
use Rattle.std.specs.Prelude.{⊤}
use Rattle.std.specs.declared.snapshot.Snapshot.{Snapshot}
use Rattle.qz_disk.specs.declared.disk.Disk.{Ghosts}
use Rattle.qz_disk.specs.Disk.{IsLawful, LeavesOnly}
use Rattle.qz_disk.proofs.Moments.{started, then_leaves}
use Rattle.qz_journal.specs.Through.{OnlyReads}
use Rattle.qz_stores.proofs.Moments.{now}
use Rattle.qz_trigger_store.specs.Bytes.{Whole, IsWhole}
use Rattle.qz_trigger_store.specs.Laws.{trigger_lawful}
use Rattle.qz_trigger_store.specs.Opening.{IsOpened}
use Rattle.qz_trigger_store.specs.View.{added_of, GoesOnFrom}
use Rattle.qz_checkin.specs.Bytes.{Whole as WholeRows, IsWhole as IsWholeRows}
use Rattle.qz_checkin.specs.Laws.{state_lawful}
use Rattle.qz_checkin.specs.Opening.{IsOpened as AreOpened}
use Rattle.qz_checkin.specs.View.{GoesOnFrom as RowsGoOnFrom}
use Rattle.qz_cluster.specs.declared.clusters.Cluster.{Cluster}
use Rattle.qz_cluster.specs.Steps.{ClusterState}
use Rattle.qz_cluster.specs.View.{view as cluster_view, triggers_of, states_of as rows_of, disk_of_triggers, disk_of_states, triggers_disk, states_disk, EachLeavesEither, IsTold as ClusterIsTold}
use Rattle.qz_top.specs.Calls.{begun}
use Rattle.qz_top.specs.Found.{IsFoundOn, IsTold, HoldWhole}
use Rattle.qz_top.specs.Moments.{HasTriggers, HasStates, HoldsOfOne, BeginsWithReads, EachIsKept, last_shown, EachStepLeaves, Shows, BeginsOn}
use Rattle.qz_top.specs.Seen.{Shown, states_of, view, told_of}
use Rattle.qz_top.specs.declared.runs.Run.{Run}

-- what holds of a state or of the next one holds of one of these states
of_either : (Holds : ClusterState → Type 0) (S S' : ClusterState) (states : List ClusterState) (end : ClusterState) → Holds S ⊎ Holds S' → HoldsOfOne Holds (S ∷ S' ∷ states) end
of_either Holds S S' states end (inl x) = inl x
of_either Holds S S' states end (inr y) = inr (inl y)

not_all : {A : Type 0} → false ≡ true → A
not_all is = absurd cc

module _ {D : Type 0} {g : Ghosts D} where
  -- Runs that go on.

  last_shown-append : (c : Cluster D g) (xs ys : Shown D g) → last_shown c (xs ++ ys) ≡ last_shown (last_shown c xs) ys
  last_shown-append c [] ys = refl
  last_shown-append c (x ∷ xs) ys = last_shown-append x.value xs ys

  EachStepLeaves-append : (c : Cluster D g) (xs ys : Shown D g) → EachStepLeaves c xs → EachStepLeaves (last_shown c xs) ys → EachStepLeaves c (xs ++ ys)
  EachStepLeaves-append c [] ys p q = q
  EachStepLeaves-append c (x ∷ xs) ys p q = (p.0, EachStepLeaves-append x.value xs ys p.1 q)

  -- nothing more was done, or one step more
  abbrev pub EndsAt : Cluster D g → Cluster D g → Type 0
  EndsAt end last = (end ≡ last) ⊎ EachLeavesEither last end

  pub Shows-none : (all : Type 0) (r : Run D g) → Shows all r r
  Shows-none all r =
      record { shown = []; trail = sym (append-nil r.trail.items); own = refl; begun = refl; last = λ is. refl; moments = λ honest. tt; end = λ honest. inl refl }

  pub Shows-more : (all : Type 0) (a b c : Run D g) → Shows ⊤ a b → Shows all b c → Shows all a c
  Shows-more all a b c p q =
      let joined : last_shown b.cluster q.shown ≡ last_shown a.cluster (p.shown ++ q.shown) =
      ap (λ (x : Cluster D g). last_shown x q.shown) (p.last tt) ∙ sym (last_shown-append a.cluster p.shown q.shown) in
      record {
        shown = p.shown ++ q.shown;
        trail = q.trail ∙ ap (λ l. l ++ q.shown) p.trail ∙ append_assoc a.trail.items p.shown q.shown;
        own = q.own ∙ p.own;
        begun = q.begun ∙ p.begun;
        last = λ is. q.last is ∙ joined;
        moments = λ honest. EachStepLeaves-append a.cluster p.shown q.shown (p.moments honest) (subst (λ (x : Cluster D g). EachStepLeaves x q.shown) (p.last tt) (q.moments honest));
        end = λ honest. subst (EndsAt c.cluster) joined (q.end honest);
      }

  pub Shows-less : (all some : Type 0) (a b : Run D g) → Shows all a b → (some → all) → Shows some a b
  Shows-less all some a b p all_is =
      record { shown = p.shown; trail = p.trail; own = p.own; begun = p.begun; last = λ is. p.last (all_is is); moments = p.moments; end = p.end }

  -- one step was done, and its state was shown
  pub Shows-one : (all : Type 0) (a b : Run D g) (s : Snapshot (Cluster D g)) → b.trail.items ≡ a.trail.items ++ s ∷ [] → s.value ≡ b.cluster → b.is_own ≡ a.is_own → b.begun.value ≡ a.begun.value
      → (g.honest → EachLeavesEither a.cluster b.cluster) → Shows all a b
  Shows-one all a b s trail same own begun leaves = record {
    shown = s ∷ [];
    trail = trail;
    own = own;
    begun = begun;
    last = λ is. sym same;
    moments = λ honest. (subst (λ (x : Cluster D g). EachLeavesEither a.cluster x) (sym same) (leaves honest), tt);
    end = λ honest. inl (sym same);
  }

  -- not all is shown
  pub Shows-part : (all : Type 0) (a b : Run D g) → Shows all a b → Shows (false ≡ true) a b
  Shows-part all a b p = Shows-less all (false ≡ true) a b p not_all

  -- none was done
  pub Shows-kept : (a b : Run D g) → b.trail.items ≡ a.trail.items → b.is_own ≡ a.is_own → b.begun.value ≡ a.begun.value → b.cluster ≡ a.cluster → Shows (false ≡ true) a b
  Shows-kept a b trail own begun same =
      record { shown = []; trail = trail ∙ sym (append-nil a.trail.items); own = own; begun = begun; last = not_all; moments = λ honest. tt; end = λ honest. inl same }

  -- one was done that isn't shown
  pub Shows-cut : (a b : Run D g) → b.trail.items ≡ a.trail.items → b.is_own ≡ a.is_own → b.begun.value ≡ a.begun.value → (g.honest → EachLeavesEither a.cluster b.cluster) → Shows (false ≡ true) a b
  Shows-cut a b trail own begun leaves =
      record { shown = []; trail = trail ∙ sym (append-nil a.trail.items); own = own; begun = begun; last = not_all; moments = λ honest. tt; end = λ honest. inr (leaves honest) }

  -- a checkpoint was made, and nothing more is shown
  pub Shows-rest : (a b : Run D g) → b.trail.items ≡ a.trail.items → b.is_own ≡ a.is_own → b.begun.value ≡ a.begun.value → (g.honest → EachLeavesEither a.cluster b.cluster) → Shows ⊥ a b
  Shows-rest a b trail own begun leaves = Shows-less (false ≡ true) ⊥ a b (Shows-cut a b trail own begun leaves) (λ is. absurd is)

  -- From each state on, where the disks held these whole lists when the script began.

  module _ (lawful : (d : D) → IsLawful (g.state d)) (honest : g.honest) (w : Whole) (v : WholeRows) where
    -- both stores go on from them
    abbrev pub GoOn : Cluster D g → Type 0
    GoOn c = GoesOnFrom (triggers_of c) w × RowsGoOnFrom (rows_of c) v

    -- a crash from this moment on leaves each store as in one of these states
    abbrev pub Leaves : Cluster D g → Shown D g → Cluster D g → Type 0
    Leaves c later end =
        LeavesOnly (triggers_disk c) (triggers_disk end) (λ b. HoldsOfOne (HasTriggers w b) (cluster_view c ∷ states_of later) (cluster_view end))
        × LeavesOnly (states_disk c) (states_disk end) (λ b. HoldsOfOne (HasStates v b) (cluster_view c ∷ states_of later) (cluster_view end))

    -- what a crash leaves now
    pub images_now : (c : Cluster D g) → GoOn c → (b : List ℕ) → ((triggers_disk c).IsImage b → HasTriggers w b (cluster_view c)) × ((states_disk c).IsImage b → HasStates v b (cluster_view c))
    images_now c on b = (λ is. now trigger_lawful c.triggers.store honest w on.0 b is, λ is. now state_lawful c.states.store honest v on.1 b is)

    leaves_same : (c : Cluster D g) → GoOn c → Leaves c [] c
    leaves_same c on = (
      started (triggers_disk c) _ (lawful (disk_of_triggers c)) (λ b is. inl ((images_now c on b).0 is)),
      started (states_disk c) _ (lawful (disk_of_states c)) (λ b is. inl ((images_now c on b).1 is)),
    )

    leaves_last : (c end : Cluster D g) → GoOn c → EndsAt end c → Leaves c [] end
    leaves_last c end on (inl same) = subst (λ (x : Cluster D g). Leaves c [] x) (sym same) (leaves_same c on)
    leaves_last c end on (inr leaves) = ((leaves.triggers w on.0).1, (leaves.states v on.1).1)

    -- they go on from them after a step
    on_after : (c d : Cluster D g) → EachLeavesEither c d → GoOn c → GoOn d
    on_after c d leaves on = ((leaves.triggers w on.0).0, (leaves.states v on.1).0)

    pub on_at_end : (c : Cluster D g) (later : Shown D g) (end : Cluster D g) → GoOn c → EachStepLeaves c later → EndsAt end (last_shown c later) → GoOn end
    on_at_end c [] end on steps (inl same) = subst GoOn (sym same) on
    on_at_end c [] end on steps (inr leaves) = on_after c end leaves on
    on_at_end c (s ∷ later) end on steps ends = on_at_end s.value later end (on_after c s.value steps.0 on) steps.1 ends

    pub each_kept : (c : Cluster D g) (later : Shown D g) (end : Cluster D g) → GoOn c → EachStepLeaves c later → EndsAt end (last_shown c later)
        → Leaves c later end × EachIsKept w v later (cluster_view end) (triggers_disk end) (states_disk end)
    each_kept c [] end on steps ends = (leaves_last c end on ends, tt)
    each_kept c (s ∷ later) end on steps ends =
        let rest = each_kept s.value later end (on_after c s.value steps.0 on) steps.1 ends in
        let from_next = rest.0 in (
          (
            then_leaves (triggers_disk c) (triggers_disk s.value) (triggers_disk end) _ _ _ (steps.0.triggers w on.0).1 from_next.0 (λ b is. of_either (HasTriggers w b) (cluster_view c) (cluster_view s.value) (states_of later) (cluster_view end) is) (λ b is. inr is),
            then_leaves (states_disk c) (states_disk s.value) (states_disk end) _ _ _ (steps.0.states v on.1).1 from_next.1 (λ b is. of_either (HasStates v b) (cluster_view c) (cluster_view s.value) (states_of later) (cluster_view end) is) (λ b is. inr is),
          ),
          (from_next.0, from_next.1, rest.1),
        )

  -- a script that begins with the cluster that was opened
  pub begins_on : (triggers states : D) (r : Run D g) (c : Cluster D g) → r.cluster ≡ c → IsOpened (cluster_view c).triggers × AreOpened (cluster_view c).states → (cluster_view c).held ≡ []
      → added_of (triggers_of c) ≡ []
      → (g.honest → IsFoundOn g triggers states (cluster_view c)) → (g.honest → (w : Whole) → IsWhole w (g.state triggers).content → GoesOnFrom (triggers_of c) w)
      → (g.honest → (v : WholeRows) → IsWholeRows v (g.state states).content → RowsGoOnFrom (rows_of c) v) → (IsTold g triggers → ClusterIsTold c)
      → (g.faults triggers ≤ (cluster_view c).triggers.faults) × (g.faults states ≤ (cluster_view c).states.faults)
      → (g.honest → OnlyReads (g.state triggers) (triggers_disk c) × OnlyReads (g.state states) (states_disk c)) → r.is_own ≡ false → r.begun.value ≡ c
      → (first : Snapshot (Cluster D g)) × (r.trail.items ≡ first ∷ []) × (first.value ≡ c) → BeginsOn triggers states r
  begins_on triggers states r c same opened held added found on rows_on told later reads not_own begun shown = record {
    are_opened = rw same opened;
    nothing_held = rw same held;
    nothing_added = rw same added;
    found = rw same found;
    goes_on = rw same on;
    rows_go_on = rw same rows_on;
    told = rw same told;
    no_earlier = rw same later;
    reads = rw same reads;
    not_own = not_own;
    begun = begun ∙ sym same;
    first = shown.0;
    trail = shown.1;
    shown = shown.2 ∙ sym same;
  }

  -- and it began so
  pub begun_so : (triggers states : D) (r : Run D g) → BeginsOn triggers states r → view r ≡ begun false (cluster_view r.cluster)
  begun_so triggers states r begins =
      let trail : states_of r.trail.items ≡ cluster_view r.cluster ∷ [] = ap states_of begins.trail ∙ ap (λ (x : Cluster D g). cluster_view x ∷ []) begins.shown in
      λ i. record { cluster = cluster_view r.cluster; trail = trail i; is_own = begins.not_own i }

  -- what disks tell of a whole list when they are opened, they tell when the script begins
  pub told_begun : (triggers states : D) (r : Run D g) → BeginsOn triggers states r → IsTold g triggers → ∥ told_of r ∥₁
  told_begun triggers states r begins told = ∣ subst ClusterIsTold (sym begins.begun) (begins.told told) ∣₁

  -- From its first state on, each state is kept.
  module _ (lawful : (d : D) → IsLawful (g.state d)) (triggers states : D) (old new : Run D g) (begins : BeginsOn triggers states old) (shows : Shows ⊥ old new) where
    -- the trail is the first cluster and those that were shown then
    whole_trail : new.trail.items ≡ begins.first ∷ shows.shown
    whole_trail = shows.trail ∙ ap (λ (l : Shown D g). l ++ shows.shown) begins.trail

    from_first : g.honest → EachStepLeaves begins.first.value shows.shown
    from_first honest = subst (λ (x : Cluster D g). EachStepLeaves x shows.shown) (sym begins.shown) (shows.moments honest)

    last_end : g.honest → EndsAt new.cluster (last_shown begins.first.value shows.shown)
    last_end honest = subst (λ (x : Cluster D g). EndsAt new.cluster (last_shown x shows.shown)) (sym begins.shown) (shows.end honest)

    pub opened_by_reads : g.honest → BeginsWithReads (g.state triggers) (g.state states) new.trail.items
    opened_by_reads honest =
        subst (λ (l : Shown D g). BeginsWithReads (g.state triggers) (g.state states) l) (sym whole_trail)
        (subst (λ (x : Cluster D g). OnlyReads (g.state triggers) (triggers_disk x) × OnlyReads (g.state states) (states_disk x)) (sym begins.shown) (begins.reads honest))

    module _ (w : Whole) (v : WholeRows) (held : HoldWhole g triggers states w v) where
      first_on : GoOn lawful held.honest w v begins.first.value
      first_on = subst (GoOn lawful held.honest w v) (sym begins.shown) (begins.goes_on held.honest w held.entries, begins.rows_go_on held.honest v held.rows)

      pub all_kept : EachIsKept w v new.trail.items (cluster_view new.cluster) (triggers_disk new.cluster) (states_disk new.cluster)
      all_kept =
          let kept = each_kept lawful held.honest w v begins.first.value shows.shown new.cluster first_on (from_first held.honest) (last_end held.honest) in
          subst (λ (l : Shown D g). EachIsKept w v l (cluster_view new.cluster) (triggers_disk new.cluster) (states_disk new.cluster)) (sym whole_trail) (kept.0.0, kept.0.1, kept.1)

      -- the trigger store goes on from them at the end
      pub goes_on_at_end : GoesOnFrom (triggers_of new.cluster) w
      goes_on_at_end =
          (on_at_end lawful held.honest w v begins.first.value shows.shown new.cluster first_on (from_first held.honest) (last_end held.honest)).0

      pub images_at_end : (b : List ℕ) → ((triggers_disk new.cluster).IsImage b → HasTriggers w b (cluster_view new.cluster)) × ((states_disk new.cluster).IsImage b → HasStates v b (cluster_view new.cluster))
      images_at_end b =
          images_now lawful held.honest w v new.cluster (on_at_end lawful held.honest w v begins.first.value shows.shown new.cluster first_on (from_first held.honest) (last_end held.honest)) b
