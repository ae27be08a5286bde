-- Parts that are joined, a base that is settled, and the store that begins with it.
use Rattle.std.proofs.Common.{◌≡◌, ◌≢◌, ℕ, List, [], ◌∷◌, ◌++◌, inl, inr, refl, sym, ◌∙◌, ap, subst}
use Rattle.std.specs.Prelude.{Option, Some, None, Result, Ok, Err, IfSome, IfNone, IfErr, OnOk, OnErr}
use Rattle.std.proofs.Math.Logic.{∥∥₁_elim}
use Rattle.std.proofs.Props.{props}
use Rattle.qz_snapshot.specs.Opening.{BeginWell, AreCutShort}
use Rattle.qz_stores.specs.Opening.{BeginWell as BeginsWell}
use Rattle.qz_tables.specs.Contents.{TablesData}
use Rattle.qz_types.specs.Entries.{EntryData}
use Rattle.qz_types.specs.Tables.{SchedulerTables, empty}
use Rattle.qz_trigger_store.specs.Kinds.{trigger_kind}
use Rattle.qz_follow.proofs.NewTables.{one_base}
use Rattle.qz_follow.specs.Kept.{IsBaseOf}
use Rattle.qz_follow.specs.Payloads.{Held}
use Rattle.qz_follow.specs.Taking.{Joins, IsUnjoined, StaysTaken}
use Rattle.qz_follow.specs.declared.faults.FollowFault.{FollowFault}
use Rattle.qz_follow.specs.declared.faults.FollowFault.TheVariants as fault
use Rattle.qz_follow.specs.declared.stages.Stage.TheVariants as stage

abbrev Kept : Type 0
Kept = Held SchedulerTables EntryData

-- a snapshot that an opening takes, as any kind of store says it
as_begun : (payloads : List (List ℕ)) (T : SchedulerTables) (n : ℕ) → BeginWell payloads T n → BeginsWell trigger_kind payloads T n
as_begun payloads T n w = record { before = w.before; snapshot = (w.more, w.begin); counted = w.counted; valid = w.valid }

as_read : (payloads : List (List ℕ)) (T : SchedulerTables) (n : ℕ) → BeginsWell trigger_kind payloads T n → BeginWell payloads T n
as_read payloads T n w = record { before = w.before; more = w.snapshot.0; begin = w.snapshot.1; counted = w.counted; valid = w.valid }

-- what was read is one
pub found_in : (payloads : List (List ℕ)) (o : Option (TablesData × ℕ)) (t : TablesData) (n : ℕ) (s : TablesData) → o ≡ Some (t, n) → s ≡ t → IfSome o (λ base. BeginWell payloads base.0.tables base.1) → (count : ℕ) × BeginWell payloads s.tables count
found_in payloads o t n s is same found =
    let here : BeginWell payloads t.tables n = subst (λ (x : Option (TablesData × ℕ)). IfSome x (λ base. BeginWell payloads base.0.tables base.1)) is found in
    (n, subst (λ (x : TablesData). BeginWell payloads x.tables n) (sym same) here)

pub none_in : (payloads : List (List ℕ)) (o : Option (TablesData × ℕ)) → o ≡ None → IfNone o ((T : SchedulerTables) (n : ℕ) → BeginWell payloads T n → ⊥) → (T : SchedulerTables) (n : ℕ) → BeginWell payloads T n → ⊥
none_in payloads o is none = subst (λ (x : Option (TablesData × ℕ)). IfNone x ((T : SchedulerTables) (n : ℕ) → BeginWell payloads T n → ⊥)) is none

-- the same tables were read once more
pub read_again : (version : ℕ) (payloads : List (List ℕ)) (s : TablesData) (T : SchedulerTables) → ((count : ℕ) × BeginWell payloads s.tables count) → ((count : ℕ) × BeginWell payloads T count) → T ≢ empty version → IsBaseOf version T (Some s)
read_again version payloads s T read was other = (one_base payloads s.tables T read.0 was.0 read.1 was.1, other)

-- A part came to those before.
module _ (slot : ℕ) (p : List ℕ) (old mid new : Kept) (more : mid ≡ record old { parts = old.parts ++ p ∷ [] }) where
  parts_are : mid.parts ≡ old.parts ++ p ∷ []
  parts_are = ap (λ (h : Kept). h.parts) more

  pub joins_cut : new ≡ mid → mid.stage ≡ stage.Awaited slot → AreCutShort mid.parts → Joins trigger_kind slot p old new
  joins_cut same awaited cut =
      inl (record {
        cut = subst AreCutShort parts_are cut;
        awaited = ap (λ (h : Kept). h.stage) same ∙ awaited;
        parts = ap (λ (h : Kept). h.parts) same ∙ parts_are;
        same = (ap (λ (h : Kept). h.start) (same ∙ more), ap (λ (h : Kept). h.entries) (same ∙ more), ap (λ (h : Kept). h.end) (same ∙ more));
      })

  pub joins_base : (r : Result (Unit {0}) FollowFault) (T : SchedulerTables) → (AreCutShort mid.parts → ⊥) → ((count : ℕ) × BeginWell mid.parts T count) → OnOk r ((new.stage ≡ stage.Settled) × (new.start ≡ T)) → (new.entries ≡ mid.entries) × (new.end ≡ mid.end)
      → OnOk r (Joins trigger_kind slot p old new)
  joins_base (Err x) T whole base done same = tt
  joins_base (Ok x) T whole base done same =
      let begins : BeginsWell trigger_kind (old.parts ++ p ∷ []) new.start base.0 = subst (λ (l : List (List ℕ)). BeginsWell trigger_kind l new.start base.0) parts_are (subst (λ (U : SchedulerTables). BeginsWell trigger_kind mid.parts U base.0) (sym done.1) (as_begun mid.parts T base.0 base.1)) in
      inr (record {
        whole = λ cut. whole (subst AreCutShort (sym parts_are) cut);
        count = base.0;
        begins = begins;
        settled = done.0;
        same = (same.0 ∙ ap (λ (h : Kept). h.entries) more, same.1 ∙ ap (λ (h : Kept). h.end) more);
      })

  pub stays_before : StaysTaken mid new → StaysTaken old new
  stays_before stays = record {
    settled = λ is. stays.settled (ap (λ (h : Kept). h.stage) more ∙ is);
    version = stays.version ∙ ap (λ (h : Kept). h.version) more;
    start = stays.start ∙ ap (λ (h : Kept). h.start) more;
    entries = stays.entries ∙ ap (λ (h : Kept). h.entries) more;
  }

  pub stays_each : (r : Result (Unit {0}) FollowFault) → OnErr r (StaysTaken mid new) → OnErr r (StaysTaken old new)
  stays_each (Ok x) stays = tt
  stays_each (Err x) stays = stays_before stays

  pub no_base : (AreCutShort mid.parts → ⊥) → ((T : SchedulerTables) (n : ℕ) → BeginWell mid.parts T n → ⊥) → IsUnjoined trigger_kind slot p old.parts (fault.BadStream slot)
  no_base whole none = (refl, (λ cut. whole (subst AreCutShort (sym parts_are) cut), λ T n begins. none T n (as_read mid.parts T n (subst (λ (l : List (List ℕ)). BeginsWell trigger_kind l T n) (sym parts_are) begins))))

pub unjoined_each : (slot : ℕ) (p : List ℕ) (parts : List (List ℕ)) (r : Result (Unit {0}) FollowFault) → IfErr r (λ e. e ≡ fault.NoMemory) → IfErr r (IsUnjoined trigger_kind slot p parts)
unjoined_each slot p parts (Ok x) is = tt
unjoined_each slot p parts (Err x) is = subst (IsUnjoined trigger_kind slot p parts) (sym is) tt

-- What a store begins with.
pub starts_new : (version : ℕ) (start : SchedulerTables) (base : Option TablesData) → base ≡ None → ∥ IsBaseOf version start base ∥₁ → start ≡ empty version
starts_new version start base is based = ∥∥₁_elim based (hlevel props) (λ b. let here : IsBaseOf version start None = subst (IsBaseOf version start) is b in here)

module _ (version : ℕ) (start : SchedulerTables) (base : Option TablesData) (t : TablesData) (is : base ≡ Some t) (based : ∥ IsBaseOf version start base ∥₁) where
  pub starts_with : t.tables ≡ start
  starts_with = ∥∥₁_elim based (hlevel props) (λ b. let here : IsBaseOf version start (Some t) = subst (IsBaseOf version start) is b in here.0)

  pub starts_other : start ≡ empty version → ⊥
  starts_other new = ∥∥₁_elim based (hlevel props) (λ b. let here : IsBaseOf version start (Some t) = subst (IsBaseOf version start) is b in here.1 new)
