-- What a store makes of an upgrade, and what a call tells of it.
use Rattle.std.proofs.Common.{◌≡◌, ◌⊎◌, inl, inr, ℕ, ℤ, List, [], ◌∷◌, ◌++◌, Bool, true, false, ◌&&◌, length, length-append, refl, sym, ap, ◌∙◌, subst, arith}
use Rattle.std.specs.Prelude.{Option, Result, Ok, Err, None, OnErr}
use Rattle.std.specs.Ordering.{int_eq}
use Rattle.qz_civil.specs.Causes.{Rose}
use Rattle.qz_civil.specs.declared.limits.TheConstants.{LAST, VERSION_ONE_LAST}
use Rattle.qz_disk.specs.declared.disk.Disk.{Ghosts}
use Rattle.qz_io.specs.Outside.{Outside}
use Rattle.qz_types.specs.Entries.{EntryData}
use Rattle.qz_types.specs.Outcomes.{Outcome, accepted, unless}
use Rattle.qz_types.specs.Tables.{SchedulerTables}
use Rattle.qz_types.specs.declared.commands.Command.TheVariants.{Upgrade}
use Rattle.qz_types.specs.declared.errors.SubmitError.{SubmitError}
use Rattle.qz_types.specs.declared.errors.SubmitError.TheVariants as submit
use Rattle.qz_types.specs.declared.replies.Refusal.{Refusal}
use Rattle.qz_types.specs.declared.replies.Refusal.TheVariants.{Current, OldStore}
use Rattle.qz_types.specs.declared.replies.Reply.{Reply}
use Rattle.qz_types.specs.declared.replies.Reply.TheVariants.{Done}
use Rattle.qz_types.specs.declared.stores.Store.TheVariants.{Triggers}
use Rattle.qz_words.specs.declared.wishes.WordFault.{WordFault}
use Rattle.qz_model.specs.History.{History, replay}
use Rattle.qz_model.specs.Invariant.{IsHorizon, TablesValid}
use Rattle.qz_model.specs.Tests.{refuse_if}
use Rattle.qz_model.specs.Transaction.{transaction}
use Rattle.qz_model.specs.Upgrading.{upgrade_refusal, version_refusal}
use Rattle.qz_stores.specs.Kinds.{unless_refused}
use Rattle.qz_stores.specs.Stores.{Submits}
use Rattle.qz_trigger_store.specs.Entries.{TriggerState, answer_of, is_old, trigger_entry}
use Rattle.qz_trigger_store.specs.View.{view, disk_of, IsAsBefore}
use Rattle.qz_trigger_store.specs.declared.stores.TriggerStore.{TriggerStore}
use Rattle.qz_top.specs.Migrating.{upgrade_entry, SaysWhich, Upgrades, AnswersAs, RanMigrate}
use Rattle.qz_top.specs.declared.ended.Ended.{Ended}
use Rattle.qz_top.specs.declared.statuses.Status.{Status}
use Rattle.qz_top.specs.declared.statuses.Status.TheVariants as status
use Rattle.qz_top.proofs.AskedLaws.{not_of_opening}
use Rattle.qz_top.proofs.SameStores.{same_view, same_disk}

-- What an upgrade is answered.

never : (b : Bool) (x : Refusal) → refuse_if (b && false) x None ≡ None
never true x = refl
never false x = refl

not_by_version : (T : SchedulerTables) → version_refusal T Upgrade ≡ None
unfolding version_refusal
not_by_version T = never (int_eq T.horizon VERSION_ONE_LAST) OldStore

abbrev answer : SchedulerTables → ℤ → Result Reply Refusal
answer T at = unless_refused (version_refusal T Upgrade) (answer_of (transaction T (upgrade_entry at)))

answer_as : (T : SchedulerTables) (at : ℤ) (b : Bool) → int_eq T.horizon LAST ≡ b → answer T at ≡ unless_refused None (answer_of (transaction T (upgrade_entry at)))
answer_as T at b is = ap (λ x. unless_refused x (answer_of (transaction T (upgrade_entry at)))) (not_by_version T)

upgraded : (T U : SchedulerTables) → int_eq T.horizon LAST ≡ false → answer_of (unless (upgrade_refusal T) (accepted U Done)) ≡ Ok Done
unfolding upgrade_refusal
upgraded T U is = ap (λ b. answer_of (unless (refuse_if b Current None) (accepted U Done))) is

refused : (T U : SchedulerTables) → int_eq T.horizon LAST ≡ true → answer_of (unless (upgrade_refusal T) (accepted U Done)) ≡ Err Current
unfolding upgrade_refusal
refused T U is = ap (λ b. answer_of (unless (refuse_if b Current None) (accepted U Done))) is

-- An old store takes the upgrade, and another one needs none.
abbrev Answered : SchedulerTables → ℤ → Type 0
Answered T at = ((is_old T ≡ true) × (answer T at ≡ Ok Done)) ⊎ ((is_old T ≡ false) × (answer T at ≡ Err Current))

answered : (T : SchedulerTables) (at : ℤ) → IsHorizon T.horizon → Answered T at
answered T at (inl old) =
    let ends : int_eq T.horizon LAST ≡ false = ap (λ h. int_eq h LAST) old in
    inl (ap (λ h. int_eq h VERSION_ONE_LAST) old, answer_as T at false ends ∙ upgraded T _ ends)
answered T at (inr last) =
    let ends : int_eq T.horizon LAST ≡ true = ap (λ h. int_eq h LAST) last in
    inr (ap (λ h. int_eq h VERSION_ONE_LAST) last, answer_as T at true ends ∙ refused T _ ends)

horizon_of : (T : SchedulerTables) → TablesValid T → IsHorizon T.horizon
horizon_of T valid = valid.references_and_limits.limits.horizon

was_old : (T : SchedulerTables) (at : ℤ) (r : Reply) → IsHorizon T.horizon → answer T at ≡ Ok r → (is_old T ≡ true) × (r ≡ Done)
was_old T at r horizon is = by (answered T at horizon) where
  by : Answered T at → (is_old T ≡ true) × (r ≡ Done)
  by (inl old) = let same : ◌≡◌ {A = Result Reply Refusal} (Ok r) (Ok Done) = sym is ∙ old.1 in (old.0, cc)
  by (inr current) = let bad : ◌≡◌ {A = Result Reply Refusal} (Ok r) (Err Current) = sym is ∙ current.1 in absurd cc

is_current : (T : SchedulerTables) (at : ℤ) (x : Refusal) → IsHorizon T.horizon → answer T at ≡ Err x → is_old T ≡ false
is_current T at x horizon is = by (answered T at horizon) where
  by : Answered T at → is_old T ≡ false
  by (inl old) = let bad : ◌≡◌ {A = Result Reply Refusal} (Err x) (Ok Done) = sym is ∙ old.1 in absurd cc
  by (inr current) = current.0

-- What a call that changed nothing leaves.
module _ {D : Type 0} {g : Ghosts D} (s t : TriggerStore D g) where
  longer : (es fs : List EntryData) (e : EntryData) → es ≡ fs ++ e ∷ [] → es ≡ fs → ⊥
  longer es fs e more same = let long = ap (λ (xs : List EntryData). length xs) more in let short = ap (λ (xs : List EntryData). length xs) same in absurd (omega (arith, long, short, length-append fs (e ∷ [])))

  -- where the store is as it was, so is its disk
  pub disk_stays : (e : EntryData) (r : Result Reply SubmitError) → (view s).is_open ≡ true → Submits trigger_entry e r (view s) (view t) → ((r ≡ Err submit.Fault → ⊥) → OnErr r (IsAsBefore s t))
      → view t ≡ view s → disk_of t ≡ disk_of s
  disk_stays e (Ok reply) opened done unless_fault same =
      absurd (longer _ _ e (ap (λ (h : History). h.entries) done.history) (ap (λ (x : TriggerState). x.history.entries) same))
  disk_stays e (Err submit.Fault) opened done unless_fault same =
      let bad : false ≡ true = sym done.is_open ∙ ap (λ (x : TriggerState). x.is_open) same ∙ opened in absurd cc
  disk_stays e (Err (submit.Closed at)) opened done unless_fault same = same_disk s t (unless_fault (λ is. cc))
  disk_stays e (Err (submit.Refused x)) opened done unless_fault same = same_disk s t (unless_fault (λ is. cc))
  disk_stays e (Err (submit.JournalFull need room)) opened done unless_fault same = same_disk s t (unless_fault (λ is. cc))
  disk_stays e (Err submit.NoMemory) opened done unless_fault same = same_disk s t (unless_fault (λ is. cc))

  said : (a : Status) (at : ℤ) (old new : Outside) → (a ≡ status.Ok) ⊎ (a ≡ status.WriteFault) → SaysWhich a at (view s) (view t) old new → Upgrades a at (view s) (view t) old new
  said a at old new (inl is) says = subst (λ (x : Status). Upgrades x at (view s) (view t) old new) (sym is) (subst (λ (x : Status). SaysWhich x at (view s) (view t) old new) is says)
  said a at old new (inr is) says = subst (λ (x : Status). Upgrades x at (view s) (view t) old new) (sym is) (subst (λ (x : Status). SaysWhich x at (view s) (view t) old new) is says)

  -- what came of an upgrade, by the store's answer and what was said of it
  pub upgrades_by : (r : Result Reply SubmitError) (a : Status) (at : ℤ) (old new : Outside) → TablesValid (replay (view s).history) → (view s).is_open ≡ true → Submits trigger_entry (upgrade_entry at) r (view s) (view t)
      → ((r ≡ Err submit.Fault → ⊥) → OnErr r (IsAsBefore s t)) → AnswersAs r a old new → Upgrades a at (view s) (view t) old new
  upgrades_by (Ok reply) a at old new valid opened done unless_fault says =
      let was = was_old (replay (view s).history) at reply (horizon_of _ valid) done.accepted_as in
      said a at old new says.0 (inl (record { was_old = was.0; appended = subst (λ (x : Reply). Submits trigger_entry (upgrade_entry at) (Ok x) (view s) (view t)) was.1 done }, says.1))
  upgrades_by (Err (submit.Refused x)) a at old new valid opened done unless_fault says =
      said a at old new says.0 (inr (record { current = is_current (replay (view s).history) at x (horizon_of _ valid) done.refused_as; stays = same_view s t (unless_fault (λ is. cc)) }, says.1))
  upgrades_by (Err (submit.JournalFull need room)) a at old new valid opened done unless_fault says =
      subst (λ (x : Status). Upgrades x at (view s) (view t) old new) (sym says.0) (done, same_view s t (unless_fault (λ is. cc)), says.1)
  upgrades_by (Err submit.NoMemory) a at old new valid opened done unless_fault says =
      subst (λ (x : Status). Upgrades x at (view s) (view t) old new) (sym says.0) (done, same_view s t (unless_fault (λ is. cc)), says.1)
  upgrades_by (Err (submit.Closed at')) a at old new valid opened done unless_fault says = let bad : true ≡ false = sym opened ∙ done.0.was_closed in absurd cc
  upgrades_by (Err submit.Fault) a at old new valid opened done unless_fault says = subst (λ (x : Status). Upgrades x at (view s) (view t) old new) (sym says.0) (done, says.1)

-- A disk fault is told only where the disk failed.
pub upgrade_rose : (a : Status) (at : ℤ) (s t : TriggerState) (old new : Outside) → Upgrades a at s t old new → a ≡ status.DiskFault → Rose s.faults t.faults
upgrade_rose a at s t old new did is = (subst (λ (x : Status). Upgrades x at s t old new) is did).0.rose

-- Statuses that a migration doesn't end with.

upgrade_no_words : (a : Status) (at : ℤ) (s t : TriggerState) (old new : Outside) (fault : WordFault) → Upgrades a at s t old new → a ≡ status.BadWords fault → ⊥
upgrade_no_words a at s t old new fault did is = subst (λ (x : Status). Upgrades x at s t old new) is did

pub migrate_words : {D : Type 0} {g : Ghosts D} (triggers states : D) (e : Ended D g) (read read' : Option (List ℤ)) (old new : Outside) (fault : WordFault)
    → RanMigrate triggers states e read read' old new → e.status ≡ status.BadWords fault → ⊥
migrate_words triggers states e read read' old new fault (inl ran) is = upgrade_no_words e.status ran.at ran.opened ran.end old new fault ran.upgrades is
migrate_words triggers states e read read' old new fault (inr none) is = not_of_opening Triggers none.error fault (sym none.status_is ∙ is)
