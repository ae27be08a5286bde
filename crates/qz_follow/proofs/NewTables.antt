-- What is kept of a base.
use Rattle.std.proofs.Common.{◌≡◌, ◌≢◌, ℕ, List, [], true, refl, sym, ◌∙◌, ap, subst}
use Rattle.std.specs.Prelude.{Option, Some, None, is_some}
use Rattle.std.proofs.Math.Logic.{∥∥₁_elim, ∥∥₁_map}
use Rattle.std.proofs.Props.{props}
use Rattle.qz_civil.specs.Lists.{WithRoom}
use Rattle.qz_snapshot.specs.Opening.{BeginWell}
use Rattle.qz_tables.specs.Contents.{TablesData}
use Rattle.qz_types.specs.Entries.{EntryData}
use Rattle.qz_types.specs.Tables.{SchedulerTables, empty}
use Rattle.qz_snapshot.proofs.Unique.{snapshot_once}
use Rattle.qz_follow.specs.Kept.{IsBaseOf, KeepsBase, IsKeptToo}
use Rattle.qz_follow.specs.declared.stages.Stage.{Stage}
use Rattle.qz_follow.specs.declared.stages.Stage.TheVariants as stage

-- payloads are a snapshot of one state
pub one_base : (payloads : List (List ℕ)) (T U : SchedulerTables) (n m : ℕ) → BeginWell payloads T n → BeginWell payloads U m → T ≡ U
one_base payloads T U n m p q = (snapshot_once payloads p.more q.more T U p.before q.before n m p.begin q.begin).0

-- what is kept, where records are
pub base_kept : (version : ℕ) (at : Stage) (start : SchedulerTables) (es : List EntryData) (kept : Option (WithRoom (List ℕ))) (base : Option TablesData) → ((slot : ℕ) → at ≢ stage.Awaited slot) → is_some kept ≡ true → KeepsBase version at start es kept base
    → IsBaseOf version start base
base_kept version stage.First start es kept base whole keeps is = subst (IsBaseOf version start) (sym is.2) is.0
base_kept version (stage.Awaited slot) start es kept base whole keeps is = absurd (whole slot refl)
base_kept version stage.Settled start es None base whole keeps is = absurd (cc)
base_kept version stage.Settled start es (Some list) base whole keeps is = is

-- before the base is settled nothing was taken
pub none_taken : (version : ℕ) (slot : ℕ) (at : Stage) (start : SchedulerTables) (es : List EntryData) (kept : Option (WithRoom (List ℕ))) (base : Option TablesData) → at ≡ stage.Awaited slot → ∥ KeepsBase version at start es kept base ∥₁ → es ≡ []
none_taken version slot at start es kept base is keeps =
    ∥∥₁_elim keeps (hlevel props) (λ k. let here : KeepsBase version (stage.Awaited slot) start es kept base = subst (λ (x : Stage). KeepsBase version x start es kept base) is k in here.1)

-- nor before the first payload
pub nothing_taken : (version : ℕ) (at : Stage) (start : SchedulerTables) (es : List EntryData) (kept : Option (WithRoom (List ℕ))) (base : Option TablesData) → at ≡ stage.First → ∥ KeepsBase version at start es kept base ∥₁ → (es ≡ []) × (base ≡ None)
nothing_taken version at start es kept base is keeps =
    let here : ∥ KeepsBase version stage.First start es kept base ∥₁ = subst (λ (x : Stage). ∥ KeepsBase version x start es kept base ∥₁) is keeps in
    (∥∥₁_elim here (hlevel props) (λ k. k.1), ∥∥₁_elim here (hlevel props) (λ k. k.2))

-- another version is taken over then
pub keeps_first : (version new : ℕ) (at : Stage) (start T : SchedulerTables) (es : List EntryData) (kept : Option (WithRoom (List ℕ))) (base : Option TablesData) → at ≡ stage.First → T ≡ empty new → ∥ KeepsBase version at start es kept base ∥₁ → ∥ KeepsBase new at T es kept base ∥₁
keeps_first version new at start T es kept base is renewed keeps =
    ∥∥₁_map (subst (λ (x : Stage). ∥ KeepsBase version x start es kept base ∥₁) is keeps) (λ (k : KeepsBase version stage.First start es kept base).
    subst (λ (x : Stage). KeepsBase new x T es kept base) (sym is) (renewed, k.1, k.2))

-- it is settled
pub keeps_settled : (version : ℕ) (start : SchedulerTables) (es : List EntryData) (kept : Option (WithRoom (List ℕ))) (base : Option TablesData) → (is_some kept ≡ true → IsBaseOf version start base) → KeepsBase version stage.Settled start es kept base
keeps_settled version start es None base keeps = tt
keeps_settled version start es (Some list) base keeps = keeps refl

pub keeps_base : (version : ℕ) (start T : SchedulerTables) (es : List EntryData) (kept : Option (WithRoom (List ℕ))) (base found : Option TablesData) → start ≡ T → base ≡ found → (is_some kept ≡ true → IsBaseOf version T found)
    → ∥ KeepsBase version stage.Settled start es kept base ∥₁
keeps_base version start T es kept base found same is keeps =
    ∣ keeps_settled version start es kept base (λ some. subst (λ (U : SchedulerTables). IsBaseOf version U base) (sym same) (subst (IsBaseOf version T) (sym is) (keeps some))) ∣₁

-- a record was kept, where records are
pub still_some : (p : List ℕ) (old new : Option (WithRoom (List ℕ))) → IsKeptToo p old new → is_some new ≡ is_some old
still_some p None new too = ap is_some too
still_some p (Some list) new too = ap is_some too.1

-- a record was taken, or a part was passed over: what is kept stays
pub keeps_on : (version : ℕ) (at : Stage) (start : SchedulerTables) (es fs : List EntryData) (kept new : Option (WithRoom (List ℕ))) (base : Option TablesData) → ((slot : ℕ) → at ≢ stage.Awaited slot) → is_some new ≡ is_some kept → ∥ KeepsBase version at start es kept base ∥₁
    → ∥ KeepsBase version stage.Settled start fs new base ∥₁
keeps_on version at start es fs kept new base whole same keeps =
    ∥∥₁_map keeps (λ k. keeps_settled version start fs new base (λ some. base_kept version at start es kept base whole (sym same ∙ some) k))

-- the base is awaited
pub keeps_awaited : (version : ℕ) (slot : ℕ) (at : Stage) (start : SchedulerTables) (es : List EntryData) (kept : Option (WithRoom (List ℕ))) (base : Option TablesData) → at ≢ stage.Settled → ∥ KeepsBase version at start es kept base ∥₁ → ∥ KeepsBase version (stage.Awaited slot) start es kept base ∥₁
keeps_awaited version slot at start es kept base other keeps = ∥∥₁_map keeps (λ k. by at other k)
  where
    by : (x : Stage) → x ≢ stage.Settled → KeepsBase version x start es kept base → KeepsBase version (stage.Awaited slot) start es kept base
    by stage.First not_settled k = k
    by (stage.Awaited s) not_settled k = k
    by stage.Settled not_settled k = absurd (not_settled refl)
