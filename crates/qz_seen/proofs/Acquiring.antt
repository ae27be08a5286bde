-- What an Acquire of one trigger leaves.
use Rattle.std.proofs.Common.{◌≡◌, ◌⊎◌, inl, inr, ◌≤◌, ℤ, pos, ◌+ℤ◌, ◌≤ℤ◌, ℕ, Bool, List, [], ◌∷◌, true, false, not, ◌&&◌, fold, filter, take, length, Option, Some, None, refl, sym, ap, ◌∙◌, subst, unwrap_or, arith, map, if◌then◌else◌}
use Rattle.std.specs.List.{AllByRecursion}
use Rattle.std.specs.Ordering.{is_gt, nat_cmp}
use Rattle.std.proofs.lemmas.Int.{ints}
use Rattle.std.proofs.lemmas.Bool.{and_parts}
use Rattle.qz_types.specs.Due.{is_waiting, in_due_order}
use Rattle.qz_types.specs.Rows.{JobData, TriggerData, MemberData, FiredData}
use Rattle.qz_types.specs.declared.replies.Taken.{Taken}
use Rattle.qz_types.specs.declared.replies.Reply.{Reply}
use Rattle.qz_types.specs.declared.replies.Reply.TheVariants as reply
use Rattle.qz_types.specs.Tables.{SchedulerTables}
use Rattle.qz_types.specs.Outcomes.{accepted}
use Rattle.qz_types.specs.Sorted.{put}
use Rattle.qz_types.specs.Words.{same_text, put_fired}
use Rattle.qz_model.specs.Due.{is_up_to, is_misfired, is_due, due_triggers}
use Rattle.qz_model.specs.Acquiring.{acquire_refusal, first_of_each, chosen, next_time, acquired_row, with_acquired, taken_from, acquire}
use Rattle.qz_model.specs.Membership.{node_refusal}
use Rattle.qz_model.specs.Tests.{or_refusal, stored_job}
use Rattle.qz_model.proofs.Changes.{passes}
use Rattle.qz_model.proofs.KeptAcquiring.{few_chosen}
use Rattle.qz_model.proofs.NamedRows.{same_text_laws}
use Rattle.qz_model.proofs.DueLaws.{All-in_due_order}
use Rattle.qz_model.proofs.RowPoints.{All-both, All-filter, All-from, All-none, any_none}
use Rattle.qz_seen.specs.Seen.{row_seen, rows_of, some_due, some_misfired, is_due_by, waits_misfired}
use Rattle.qz_seen.proofs.Lists.{take_empty, none_passes, none_in_order}
use Rattle.qz_seen.proofs.NodeRows.{IsOthers, rows-none, others-of, none-put}
use Rattle.qz_seen.proofs.Still.{IsStill}

-- the one row of a node that had none
put_own : (n : List ℕ) (r : FiredData) (fs : List FiredData) → same_text n r.node ≡ true → AllByRecursion (IsOthers n) fs → rows_of n (put nat_cmp (λ f. f.entry) r fs) ≡ row_seen r ∷ []
unfolding rows_of
put_own n r [] own all = rw own refl
put_own n r (f ∷ fs) own all = elim (is_gt (nat_cmp r.entry f.entry)) as (λ b. map row_seen (filter (λ g. same_text n g.node) (if b then f ∷ put nat_cmp (λ g. g.entry) r fs else r ∷ f ∷ fs)) ≡ row_seen r ∷ []) [
  | true ↦ rw all.0 (put_own n r fs own all.1)
  | false ↦ rw (own, all.0) (ap (λ rows. row_seen r ∷ rows) (rows-none n fs all.1))
]

pub row-put : (n : List ℕ) (r : FiredData) (fs : List FiredData) → same_text n r.node ≡ true → rows_of n fs ≡ [] → rows_of n (put_fired r fs) ≡ row_seen r ∷ []
unfolding put_fired
row-put n r fs own none = put_own n r fs own (others-of n fs none)

-- where none is chosen, none is due
first_empty : (T : SchedulerTables) (ts : List TriggerData) → first_of_each T.jobs ts ≡ [] → ts ≡ []
first_empty T [] e = refl
first_empty T (t ∷ ts) e = absurd (cc)

none_chosen : (T : SchedulerTables) (m limit : ℤ) → chosen T m limit 1 ≡ [] → AllByRecursion (λ t. is_due T m limit t ≡ false) T.triggers
unfolding chosen due_triggers
none_chosen T m limit e =
    none_passes (is_due T m limit) T.triggers (none_in_order (filter (is_due T m limit) T.triggers) (first_empty T (in_due_order (filter (is_due T m limit) T.triggers)) (take_empty 0 _ e)))

-- what waits, is not misfired and not due has a later next time
later_then : (waits up misfired : Bool) → (waits && up && not misfired) ≡ false → (waits && misfired) ≡ false → (waits && up) ≡ false
later_then true true true due none = cc
later_then true true false due none = cc
later_then true false mis due none = refl
later_then false up mis due none = refl

none_due : (T : SchedulerTables) (m limit : ℤ) → chosen T m limit 1 ≡ [] → some_misfired T m ≡ false → some_due T limit ≡ false
unfolding some_due some_misfired is_due
none_due T m limit e settled =
    any_none (is_due_by limit) T.triggers
    (All-both (λ t. is_due T m limit t ≡ false) (λ t. waits_misfired T m t ≡ false) (λ t. is_due_by limit t ≡ false) T.triggers
    (λ t due none. later_then (is_waiting t.state) (is_up_to limit t.next) (is_misfired T m t) due none)
    (none_chosen T m limit e) (All-none (waits_misfired T m) T.triggers settled))

-- the next time of a due trigger isn't past the limit
abbrev HasNextBy : ℤ → TriggerData → Type 0
HasNextBy limit t = next_time t ≤ℤ limit

up_to_next : (limit : ℤ) (o : Option ℤ) → is_up_to limit o ≡ true → unwrap_or o (pos 0) ≤ℤ limit
up_to_next limit None e = absurd (cc)
up_to_next limit (Some next) e = grind (arith, ints)

due_by : (T : SchedulerTables) (m limit : ℤ) (t : TriggerData) → is_due T m limit t ≡ true → HasNextBy limit t
unfolding is_due next_time
due_by T m limit t due = up_to_next limit t.next (and_parts (is_waiting t.state) (is_up_to limit t.next) (and_parts (is_waiting t.state && is_up_to limit t.next) (not (is_misfired T m t)) due).0).1

each_due_by : (T : SchedulerTables) (m limit : ℤ) → AllByRecursion (HasNextBy limit) (due_triggers T m limit)
unfolding due_triggers
each_due_by T m limit =
    All-in_due_order (HasNextBy limit) (filter (is_due T m limit) T.triggers)
    (All-filter (HasNextBy limit) (is_due T m limit) T.triggers (All-from (λ t. is_due T m limit t ≡ true → HasNextBy limit t) T.triggers (due_by T m limit)))

first_taken : (P : TriggerData → Type 0) (jobs : List JobData) (t : TriggerData) (ts : List TriggerData) → take 1 (first_of_each jobs ts) ≡ t ∷ [] → AllByRecursion P ts → P t
first_taken P jobs t [] e all = absurd (cc)
first_taken P jobs t (u ∷ us) e all = let is : u ≡ t = cc in subst P is all.0

chosen_by : (T : SchedulerTables) (m limit : ℤ) (t : TriggerData) → chosen T m limit 1 ≡ t ∷ [] → HasNextBy limit t
unfolding chosen
chosen_by T m limit t e = first_taken (HasNextBy limit) T.jobs t (due_triggers T m limit) e (each_due_by T m limit)

-- none was taken: no trigger is due, if none is misfired
pub record TookNone (T T' : SchedulerTables) (m limit : ℤ) (r : Reply) : Type 0 where
  pub reply : r ≡ reply.Acquired []
  pub still : IsStill T T' m
  pub none : some_misfired T m ≡ false → some_due T limit ≡ false

-- this one was taken
pub record Took (me : MemberData) (T T' : SchedulerTables) (m limit : ℤ) (r : Reply) : Type 0 where
  pub taken : Taken
  pub reply : r ≡ reply.Acquired (taken ∷ [])
  pub last : T'.last_moment ≡ m
  pub members : T'.members ≡ T.members
  pub due : taken.next ≤ℤ limit
  pub row : rows_of me.node T.fired ≡ [] → rows_of me.node T'.fired ≡ record { entry = taken.entry; executing = false; scheduled = taken.next } ∷ []
  pub others_free : (k : List ℕ) → same_text me.node k ≡ false → rows_of k T.fired ≡ [] → rows_of k T'.fired ≡ []

module _ (T T' : SchedulerTables) (m limit : ℤ) (me : MemberData) (r : Reply) where
  took : (t : TriggerData) → chosen T m limit 1 ≡ t ∷ [] → accepted (record (with_acquired me T t) { last_moment = m }) (reply.Acquired (record { entry = T.next_entry; trigger = t.spec.key; next = next_time t } ∷ [])) ≡ accepted T' r
      → Took me T T' m limit r
  unfolding with_acquired acquired_row
  took t e way =
      let row : FiredData = acquired_row T.next_entry me t (stored_job t.spec.job T.jobs) in
      let is : record (with_acquired me T t) { last_moment = m } ≡ T' = cc in
      let fired : T'.fired ≡ put_fired row T.fired = ap (λ x. x.fired) (sym is) in
      record {
        taken = record { entry = T.next_entry; trigger = t.spec.key; next = next_time t };
        reply = cc;
        last = ap (λ x. x.last_moment) (sym is);
        members = ap (λ x. x.members) (sym is);
        due = chosen_by T m limit t e;
        row = λ none. ap (rows_of me.node) fired ∙ row-put me.node row T.fired (same_text_laws.refl me.node) none;
        others_free = λ k differ none. ap (rows_of k) fired ∙ none-put k row T.fired (same_text_laws.symm k me.node ∙ differ) none;
      }

  by_chosen : (ts : List TriggerData) → length ts ≤ 1 → chosen T m limit 1 ≡ ts → accepted (record (fold (with_acquired me) T ts) { last_moment = m }) (reply.Acquired (taken_from T.next_entry ts)) ≡ accepted T' r
      → TookNone T T' m limit r ⊎ Took me T T' m limit r
  by_chosen [] few e way = inl (record { reply = cc; still = cc; none = none_due T m limit e })
  by_chosen (t ∷ []) few e way = inr (took t e way)
  by_chosen (t ∷ u ∷ us) few e way = absurd (omega arith)

  -- an Acquire of at most one takes none, or one
  pub acquires : acquire T m me limit (pos 0) 1 ≡ accepted T' r → TookNone T T' m limit r ⊎ Took me T T' m limit r
  acquires e =
      let way = passes (or_refusal (node_refusal T me) (acquire_refusal T 1)) _ T' r e in
      let exact : (limit +ℤ pos 0) ≡ limit = omega (arith, ints) in
      by_chosen (chosen T m limit 1) (few_chosen T m limit 1) refl
      (subst (λ (l : ℤ). accepted (record (fold (with_acquired me) T (chosen T m l 1)) { last_moment = m }) (reply.Acquired (taken_from T.next_entry (chosen T m l 1))) ≡ accepted T' r) exact way.outcome)
