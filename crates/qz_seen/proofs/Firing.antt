-- What a Fire leaves.
use Rattle.std.proofs.Common.{◌≡◌, ◌==◌, ℤ, ℕ, Bool, List, [], ◌∷◌, true, false, not, ◌&&◌, map, Option, Some, None, refl, sym, ap, ◌∙◌, if◌then◌else◌}
use Rattle.std.proofs.lemmas.Bool.{and_parts, and_left, eq-eqb, not-true, not-false}
use Rattle.qz_types.specs.Rows.{JobData, MemberData, FiredData}
use Rattle.qz_types.specs.declared.keys.Key.{Key}
use Rattle.qz_types.specs.declared.replies.Reply.{Reply}
use Rattle.qz_types.specs.declared.replies.Reply.TheVariants as reply
use Rattle.qz_types.specs.Changes.{begun, without_acquired}
use Rattle.qz_types.specs.States.{is_acquired}
use Rattle.qz_types.specs.Tables.{SchedulerTables}
use Rattle.qz_types.specs.Outcomes.{accepted}
use Rattle.qz_types.specs.Words.{same_text, fired_of, with_fired}
use Rattle.qz_model.specs.Acquiring.{owner_refusal, acquired_refusal}
use Rattle.qz_model.specs.Firing.{early, next_of, fire_refusal, following, without_siblings, with_begun, fire_row, fire}
use Rattle.qz_model.specs.Membership.{node_refusal}
use Rattle.qz_model.specs.Tests.{is_of, is_row_of_job, stored_job}
use Rattle.qz_model.proofs.Changes.{passes}
use Rattle.qz_model.proofs.Refusals.{not_refused, no_first}
use Rattle.qz_model.proofs.RowPoints.{All-weaker, changed_keeps}
use Rattle.qz_model.proofs.RowLaws.{All-fired_of, fired_of-entry}
use Rattle.qz_run.specs.Stores.{Row}
use Rattle.qz_seen.specs.Seen.{row_seen, rows_of}
use Rattle.qz_seen.proofs.NodeRows.{each-row, rows-filter, rows-map, none-filter, none-map}

-- the row is the member's
pub owned : (me : MemberData) (f : FiredData) → owner_refusal me f ≡ None → is_of me f ≡ true
unfolding owner_refusal
owned me f clear = not-false (is_of me f) (not_refused (not (is_of me f)) _ None clear).0

pub named : (me : MemberData) (f : FiredData) → is_of me f ≡ true → same_text me.node f.node ≡ true
unfolding is_of
named me f mine = (and_parts (same_text me.node f.node) (me.epoch == f.epoch) mine).0

-- the rows of a node whose execution begins
module _ (n : List ℕ) (m : ℤ) (exclusive recovery : Bool) (job : Key) (x : ℕ) where
  -- the row as it is changed, where it is this one
  abbrev changed : FiredData → FiredData
  changed f = if x == f.entry then begun m exclusive recovery f else f

  keeps_node : (f : FiredData) → (changed f).node ≡ f.node
  keeps_node f = changed_keeps (λ g. g.node) (begun m exclusive recovery) (λ g. refl) (λ g. x == g.entry) f

  abbrev executing : ℤ → Row
  executing scheduled = record { entry = x; executing = true; scheduled = scheduled }

  begins : (scheduled : ℤ) (f : FiredData) → row_seen f ≡ record { entry = x; executing = false; scheduled = scheduled } → row_seen (changed f) ≡ executing scheduled
  begins scheduled f is =
      let entry : x ≡ f.entry = ap (λ r. r.entry) (sym is) in
      let at : f.scheduled ≡ scheduled = ap (λ r. r.scheduled) is in
      rw (eq-eqb x f.entry entry, at, sym entry) refl

  begun-map : (scheduled : ℤ) (fs : List FiredData) → rows_of n fs ≡ record { entry = x; executing = false; scheduled = scheduled } ∷ [] → rows_of n (map changed fs) ≡ executing scheduled ∷ []
  begun-map scheduled fs one =
      rows-map n changed (executing scheduled) fs keeps_node
      (All-weaker (λ f. same_text n f.node ≡ true → row_seen f ≡ record { entry = x; executing = false; scheduled = scheduled }) (λ f. same_text n f.node ≡ true → row_seen (changed f) ≡ executing scheduled) fs
      (λ f was own. begins scheduled f (was own)) (each-row n _ fs one)) ∙ ap (map (λ r. executing scheduled)) one

  -- an execution is no sibling's acquired row
  not_acquired : (scheduled : ℤ) (f : FiredData) → row_seen f ≡ executing scheduled → not (is_acquired f.state && is_row_of_job job f) ≡ true
  not_acquired scheduled f is =
      let runs : not (is_acquired f.state) ≡ true = ap (λ r. r.executing) is in
      ap not (and_left (is_acquired f.state) (is_row_of_job job f) (not-true (is_acquired f.state) runs))

  kept-siblings : (some : Bool) (scheduled : ℤ) (fs : List FiredData) → rows_of n fs ≡ executing scheduled ∷ [] → rows_of n (without_siblings some job fs) ≡ executing scheduled ∷ []
  unfolding without_acquired
  kept-siblings true scheduled fs one =
      rows-filter n (λ f. not (is_acquired f.state && is_row_of_job job f)) fs
      (All-weaker (λ f. same_text n f.node ≡ true → row_seen f ≡ executing scheduled) (λ f. same_text n f.node ≡ true → not (is_acquired f.state && is_row_of_job job f) ≡ true) fs
      (λ f was own. not_acquired scheduled f (was own)) (each-row n _ fs one)) ∙ one
  kept-siblings false scheduled fs one = one

  pub row-begun : (some : Bool) (scheduled : ℤ) (fs : List FiredData) → rows_of n fs ≡ record { entry = x; executing = false; scheduled = scheduled } ∷ []
      → rows_of n (without_siblings some job (with_fired x (begun m exclusive recovery) fs)) ≡ executing scheduled ∷ []
  unfolding with_fired
  row-begun some scheduled fs one = kept-siblings some scheduled (map changed fs) (begun-map scheduled fs one)

  none-siblings : (some : Bool) (fs : List FiredData) → rows_of n fs ≡ [] → rows_of n (without_siblings some job fs) ≡ []
  unfolding without_acquired
  none-siblings true fs none = none-filter n (λ f. not (is_acquired f.state && is_row_of_job job f)) fs none
  none-siblings false fs none = none

  pub none-begun : (some : Bool) (fs : List FiredData) → rows_of n fs ≡ [] → rows_of n (without_siblings some job (with_fired x (begun m exclusive recovery) fs)) ≡ []
  unfolding with_fired
  none-begun some fs none = none-siblings some (map changed fs) (none-map n changed fs keeps_node none)

-- the execution began
pub record Began (me : MemberData) (entry : ℕ) (T T' : SchedulerTables) (m : ℤ) (r : Reply) : Type 0 where
  pub scheduled : ℤ
  pub next : Option ℤ
  pub trigger : Key
  pub job : JobData
  pub reply : r ≡ reply.Fired entry scheduled m next trigger job
  pub last : T'.last_moment ≡ m
  pub members : T'.members ≡ T.members
  pub row : (at : ℤ) → rows_of me.node T.fired ≡ record { entry = entry; executing = false; scheduled = at } ∷ [] → rows_of me.node T'.fired ≡ record { entry = entry; executing = true; scheduled = scheduled } ∷ []
  pub others_free : (k : List ℕ) → rows_of k T.fired ≡ [] → rows_of k T'.fired ≡ []

module _ (T T' : SchedulerTables) (m : ℤ) (me : MemberData) (entry : ℕ) (r : Reply) where
  began : (f : FiredData) → fired_of entry T.fired ≡ Some f → is_of me f ≡ true
      → accepted (with_begun T m f (stored_job f.job T.jobs) (following T f)) (reply.Fired f.entry f.scheduled m (following T f) f.trigger (stored_job f.job T.jobs)) ≡ accepted T' r → Began me entry T T' m r
  unfolding with_begun
  began f found mine way =
      let job : JobData = stored_job f.job T.jobs in
      let own : entry ≡ f.entry = fired_of-entry entry f T.fired found in
      let is : with_begun T m f job (following T f) ≡ T' = cc in
      let fired : T'.fired ≡ without_siblings job.no_concurrent f.job (with_fired f.entry (begun m job.no_concurrent job.requests_recovery) T.fired) = ap (λ x. x.fired) (sym is) in
      let change : List FiredData → List FiredData = λ fs. without_siblings job.no_concurrent f.job (with_fired f.entry (begun m job.no_concurrent job.requests_recovery) fs) in
      record {
        scheduled = f.scheduled;
        next = following T f;
        trigger = f.trigger;
        job = job;
        reply = cc;
        last = ap (λ x. x.last_moment) (sym is);
        members = ap (λ x. x.members) (sym is);
        row = λ at one.
            let shown : row_seen f ≡ record { entry = entry; executing = false; scheduled = at } = All-fired_of (λ g. same_text me.node g.node ≡ true → row_seen g ≡ record { entry = entry; executing = false; scheduled = at }) entry f T.fired (each-row me.node _ T.fired one) found (named me f mine) in
            let due : f.scheduled ≡ at = ap (λ x. x.scheduled) shown in
            ap (rows_of me.node) fired ∙ rw (sym own, due) (row-begun me.node m job.no_concurrent job.requests_recovery f.job entry job.no_concurrent at T.fired one);
        others_free = λ k none. ap (rows_of k) fired ∙ none-begun k m job.no_concurrent job.requests_recovery f.job f.entry job.no_concurrent T.fired none;
      }

  by_row : (o : Option FiredData) → fired_of entry T.fired ≡ o → fire_row T m me o ≡ accepted T' r → Began me entry T T' m r
  unfolding fire_refusal acquired_refusal
  by_row None found e = absurd (cc)
  by_row (Some f) found e =
      let way = passes (fire_refusal T m me f) _ T' r e in
      let mine = owned me f (no_first (owner_refusal me f) _ (no_first (acquired_refusal me f) (early m (next_of f.trigger T.triggers)) way.clear).0).0 in
      began f found mine way.outcome

  pub fires : fire T m me entry ≡ accepted T' r → Began me entry T T' m r
  fires e = by_row (fired_of entry T.fired) refl (passes (node_refusal T me) _ T' r e).outcome
