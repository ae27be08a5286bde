-- What the two ways of making the trigger store make of its disk.
use Rattle.std.proofs.Common.{◌≡◌, ◌≢◌, inl, inr, ℕ, List, [], refl, sym, subst}
use Rattle.std.specs.Prelude.{Option, Some, None}
use Rattle.qz_disk.specs.Disk.{DiskState}
use Rattle.qz_disk.proofs.Moments.{weaker}
use Rattle.qz_journal.specs.Commits.{IsFullFor}
use Rattle.qz_journal.specs.Layout.{HasStore, end_of}
use Rattle.qz_journal.specs.declared.layout.TheConstants.{TRIGGERS}
use Rattle.qz_snapshot.specs.Checkpoints.{snapshot_written}
use Rattle.qz_stores.specs.Compacting.{IsNoneOrBegun}
use Rattle.qz_stores.specs.declared.compacting.CompactError.{CompactError}
use Rattle.qz_stores.specs.declared.compacting.CompactError.TheVariants as compact
use Rattle.qz_trigger_store.specs.Compacting.{Compacts}
use Rattle.qz_trigger_store.specs.Bytes.{IsWhole}
use Rattle.qz_trigger_store.specs.Kinds.{trigger_kind}
use Rattle.qz_types.specs.Tables.{SchedulerTables, empty}
use Rattle.qz_follow.specs.Following.{Following}
use Rattle.qz_follow.specs.Promoting.{Promotes, HoldsPart as IsPartOf, LacksAll}
use Rattle.qz_follow.specs.declared.promoting.PromoteFault.{PromoteFault}
use Rattle.qz_follow.specs.declared.promoting.PromoteFault.TheVariants as promote
use Rattle.qz_standby.specs.Forms.{left_by}
use Rattle.qz_standby.specs.Fronts.{Looks}
use Rattle.qz_standby.specs.Making.{HoldsPart, LeavesFirst, list_of}
use Rattle.qz_standby.specs.Parts.{MakesTriggers, unpromoted, uncompacted}
use Rattle.qz_standby.specs.declared.forms.Form.TheVariants as form

-- All entries, one after another.
module _ (f : Following) (t t' : DiskState) where
  first_part : (b : List ℕ) → IsPartOf f.version f.start f.entries b → HoldsPart trigger_kind (list_of form.Entries f) b
  first_part b (inl none) = inl none
  first_part b (inr is) = inr (record { first = is.0; more = is.1; entries = is.2; held = is.3 })

  entries_leave : (x : Option PromoteFault) → Promotes f.version f.start f.entries x t t' → LeavesFirst trigger_kind (list_of form.Entries f) t t'
  entries_leave x promotes from only =
      weaker t t' _ _ (promotes.any_moment from only) (λ b either. elim either [ inl torn ↦ inl torn | inr first ↦ inr (first_part b first) ])

  pub promoted : Promotes f.version f.start f.entries None t t' → MakesTriggers form.Entries None f t t'
  promoted promotes = (entries_leave None promotes, (promotes.made.content, promotes.made.images))

  pub not_promoted : (HasStore TRIGGERS t.content → ⊥) → (x : PromoteFault) → ((at : ℕ) → x ≡ promote.Short at → Looks t t') → ((need room : ℕ) → x ≡ promote.NoRoom need room → (f.start ≢ empty f.version) × LacksAll f.start f.entries need room) → Promotes f.version f.start f.entries (Some x) t t'
      → MakesTriggers form.Entries (Some (unpromoted x)) f t t'
  not_promoted none (promote.Short at) short lacks promotes = short at refl
  not_promoted none promote.Exists short lacks promotes = absurd (none (inl promotes.found))
  not_promoted none promote.OtherKind short lacks promotes = absurd (none (inr promotes.found))
  not_promoted none (promote.NoRoom need room) short lacks promotes = (lacks need room refl, entries_leave (Some (promote.NoRoom need room)) promotes)
  not_promoted none promote.NoMemory short lacks promotes = entries_leave (Some promote.NoMemory) promotes
  not_promoted none promote.Fault short lacks promotes = entries_leave (Some promote.Fault) promotes

-- A snapshot of the tables that they leave.
module _ (f : Following) (t t' : DiskState) where
  abbrev Tables : SchedulerTables
  Tables = left_by f.start f.entries

  begun_part : (b : List ℕ) → IsNoneOrBegun trigger_kind f.version Tables b → HoldsPart trigger_kind (list_of form.Snapshot f) b
  begun_part b (inl none) = inl none
  begun_part b (inr whole) = inr (record { first = []; more = []; entries = refl; held = whole })

  snapshot_leaves : (x : Option CompactError) → Compacts f.version Tables x t t' → LeavesFirst trigger_kind (list_of form.Snapshot f) t t'
  snapshot_leaves x compacts from only =
      weaker t t' _ _ (compacts.any_moment from only) (λ b either. elim either [ inl torn ↦ inl torn | inr begun ↦ inr (begun_part b begun) ])

  pub compacted : Compacts f.version Tables None t t' → MakesTriggers form.Snapshot None f t t'
  compacted compacts =
      (snapshot_leaves None compacts, (compacts.made.0, λ b is. subst (IsWhole (list_of form.Snapshot f)) (sym (compacts.made.1 b is)) compacts.made.0))

  pub not_compacted : (HasStore TRIGGERS t.content → ⊥) → (x : CompactError) → ((need room : ℕ) → x ≡ compact.NoRoom need room → IsFullFor (snapshot_written Tables 0 0) (end_of []) 0 need room) → Compacts f.version Tables (Some x) t t'
      → MakesTriggers form.Snapshot (Some (uncompacted x)) f t t'
  not_compacted none compact.Exists lacks compacts = absurd (none (inl compacts.found))
  not_compacted none compact.OtherKind lacks compacts = absurd (none (inr compacts.found))
  not_compacted none compact.NoMemory lacks compacts = snapshot_leaves (Some compact.NoMemory) compacts
  not_compacted none (compact.NoRoom need room) lacks compacts = (lacks need room refl, snapshot_leaves (Some (compact.NoRoom need room)) compacts)
  not_compacted none compact.Fault lacks compacts = snapshot_leaves (Some compact.Fault) compacts
