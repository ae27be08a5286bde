-- What the second reading of a disk told.
use Rattle.std.proofs.Common.{◌≡◌, ◌≢◌, ◌∙◌, ◌⊎◌, inl, inr, ℕ, ◌+◌, List, [], ◌∷◌, length, sym, ap, subst, refl}
use Rattle.std.specs.Prelude.{Option, Some, None, Err}
use Rattle.std.specs.declared.result.Result.{Result}
use Rattle.std.specs.Io.KnownBytes.{Appends}
use Rattle.qz_disk.specs.declared.disk.Disk.{Ghosts}
use Rattle.qz_journal.proofs.TrueTails.{tail_not_refused}
use Rattle.qz_journal.specs.Slots.{number_at, slots_of, slot_in_use}
use Rattle.qz_journal.specs.Tails.{start_of, IsCounted, IsTail, IsTailRefused}
use Rattle.qz_journal.specs.Through.{OnlyReads, OnlyReadsUnless}
use Rattle.qz_journal.specs.declared.errors.MountError.{MountError}
use Rattle.qz_journal.specs.declared.errors.MountError.TheVariants as mount
use Rattle.qz_journal.specs.declared.layout.TheConstants.{TRIGGERS}
use Rattle.qz_journal.specs.declared.slots.Slots.{Slots}
use Rattle.qz_types.specs.Tables.{SchedulerTables}
use Rattle.qz_types.specs.declared.stores.Store.TheVariants.{Triggers}
use Rattle.qz_model.specs.History.{History}
use Rattle.qz_stores.specs.Opening.{IsBase, IsRead}
use Rattle.qz_trigger_store.specs.Kinds.{trigger_kind}
use Rattle.qz_trigger_store.specs.Laws.{trigger_lawful}
use Rattle.qz_history.specs.Telling.{TellsPart, TellsWhole}
use Rattle.qz_history.specs.declared.telling.TellError.{TellError}
use Rattle.qz_history.specs.declared.telling.TellError.TheVariants as telling
use Rattle.qz_top.specs.Calls.{refusal_of}
use Rattle.qz_top.specs.declared.statuses.Status.{Status}
use Rattle.qz_top.specs.declared.statuses.Status.TheVariants as status
use Rattle.qz_tell.specs.Histories.{MayEnd, OnlyRead, Stands, ToldAll, ToldPart, status_of}
use Rattle.qz_tell.proofs.Fronts.{none_front, read_front, read_of, read_once}

-- Nothing was told.
pub nothing_told : (honest : Type 0) (from : ℕ) (opened : History) (old new : Option (List ℕ)) → Appends old new [] → ToldPart honest from opened old new
nothing_told honest from opened old new nothing = record {
  history = record { base_count = opened.base_count; base = opened.base; entries = [] };
  legal = tt;
  front = λ p. none_front opened;
  part = 0;
  written = nothing;
}

module _ {D : Type 0} (g : Ghosts D) (disk mounted : D) (slots : Slots) (slot : Option ℕ) (version start : ℕ) (payloads : List (List ℕ))
    (reads : g.honest → OnlyReads (g.state disk) (g.state mounted)) (tail : g.honest → IsTail (g.state mounted).content version TRIGGERS start payloads)
    (slots_are : g.honest → slots ≡ slots_of (g.state mounted).content) (start_is : start ≡ start_of slots) (slot_is : slot ≡ slot_in_use slots)
    (opened : History) (stands : g.honest → Stands g disk opened) where
  -- What was opened is what these payloads record.
  all_read : g.honest → IsRead trigger_kind slot version payloads opened.base_count opened.base opened.entries
  all_read p =
      let same = (reads p).content in
      let is : slots ≡ slots_of (g.state disk).content = slots_are p ∙ ap slots_of same in
      let at_start = subst (λ n. IsTail (g.state mounted).content version TRIGGERS n payloads) (start_is ∙ ap start_of is) (tail p) in
      read_of (g.state disk).content slot version (stands p).0 payloads opened
      (subst (λ c. IsTail c version TRIGGERS (start_of (slots_of (g.state disk).content)) payloads) same at_start) (slot_is ∙ ap slot_in_use is) (stands p).1

  pub told_all : (from : ℕ) (begins : Option ℕ) (old new : Option (List ℕ))
      → (h : History) × IsRead trigger_kind slot version payloads h.base_count h.base h.entries × TellsWhole from h begins old new
      → ToldAll g.honest from opened begins old new
  told_all from begins old new all = record {
    history = all.0;
    legal = all.1.taken.legal;
    same = λ p. read_once slot version payloads opened (all_read p) all.0 all.1;
    tells = all.2;
  }

  pub told_part : (from : ℕ) (old new : Option (List ℕ))
      → Appends old new [] ⊎ ((T : SchedulerTables) × (n : ℕ) × IsBase trigger_kind slot version payloads T n × TellsPart from n T payloads old new)
      → ToldPart g.honest from opened old new
  told_part from old new (inl nothing) = nothing_told g.honest from opened old new nothing
  told_part from old new (inr part) = record {
    history = record { base_count = part.1; base = part.0; entries = part.3.entries };
    legal = part.3.taken.legal;
    front = λ p. read_front slot version payloads opened (all_read p) part.1 part.3.read part.0 part.3.entries part.2 part.3.taken;
    part = part.3.part;
    written = part.3.written;
  }

  -- So they aren't unfit.
  pub ends_early : (e : TellError) → (e ≡ telling.Unfit → (h : History) → IsRead trigger_kind slot version payloads h.base_count h.base h.entries → ⊥) → MayEnd g.honest (status_of start e)
  ends_early telling.NoMemory unfit = tt
  ends_early telling.WriteFault unfit = tt
  ends_early telling.Unfit unfit = λ p. unfit refl opened (all_read p)

-- The journal that was opened before is opened again, unless the disk or memory fails.

counted : (slot : Option ℕ) (version n : ℕ) (payloads : List (List ℕ)) (T : SchedulerTables) → IsBase trigger_kind slot version payloads T n → (count : ℕ) × IsCounted slot count payloads
counted None version n payloads T base = (length payloads, refl)
counted (Some gate) version n payloads T base =
    let h = trigger_lawful.headed payloads T base.before n base.snapshot in
    subst (λ (l : List (List ℕ)). (count : ℕ) × IsCounted (Some gate) count l) (sym h.2) (number_at 1 h.0 + length (h.0 ∷ h.1), (h.3, refl))

pub ends_unopened : {D : Type 0} (g : Ghosts D) (disk : D) (opened : History) → (g.honest → Stands g disk opened) → (e : MountError)
    → (g.honest → (payloads : List (List ℕ)) × IsTailRefused (g.state disk).content TRIGGERS payloads e) → MayEnd g.honest (refusal_of Triggers e)
ends_unopened g disk opened stands mount.Fault refused = tt
ends_unopened g disk opened stands mount.NoMemory refused = tt
ends_unopened g disk opened stands mount.NotAStore refused = λ p. (refused p).1 ((stands p).0, (stands p).1.tail.header)
ends_unopened g disk opened stands (mount.Damaged at) refused = λ p.
    let s = (stands p).1 in
    let bytes = (g.state disk).content in
    let count = counted (slot_in_use (slots_of bytes)) (stands p).0 opened.base_count s.payloads opened.base s.read.base in
    tail_not_refused bytes (stands p).0 TRIGGERS count.0 at s.payloads (refused p).0 s.tail count.1 (refused p).1

pub never_ok : (e : TellError) (start : ℕ) → status_of start e ≢ status.Ok
never_ok telling.NoMemory start is = absurd cc
never_ok telling.WriteFault start is = absurd cc
never_ok telling.Unfit start is = absurd cc

pub refusal_not_ok : (e : MountError) → refusal_of Triggers e ≢ status.Ok
refusal_not_ok mount.Fault is = absurd cc
refusal_not_ok mount.NotAStore is = absurd cc
refusal_not_ok (mount.Damaged at) is = absurd cc
refusal_not_ok mount.NoMemory is = absurd cc

-- which error of an opening is told as a fault of the disk
pub fault_of : (e : MountError) → refusal_of Triggers e ≡ status.DiskFault → e ≡ mount.Fault
fault_of mount.Fault is = refl
fault_of mount.NotAStore is = absurd cc
fault_of (mount.Damaged at) is = absurd cc
fault_of mount.NoMemory is = absurd cc

-- what the statuses of both readings tell
pub writes_failed : (e : TellError) (start : ℕ) → status_of start e ≡ status.WriteFault → e ≡ telling.WriteFault
writes_failed telling.NoMemory start is = absurd cc
writes_failed telling.WriteFault start is = refl
writes_failed telling.Unfit start is = absurd cc

pub no_disk_failed : (e : TellError) (start : ℕ) → status_of start e ≢ status.DiskFault
no_disk_failed telling.NoMemory start is = absurd cc
no_disk_failed telling.WriteFault start is = absurd cc
no_disk_failed telling.Unfit start is = absurd cc

pub no_write_failed : (e : MountError) → refusal_of Triggers e ≢ status.WriteFault
no_write_failed mount.Fault is = absurd cc
no_write_failed mount.NotAStore is = absurd cc
no_write_failed (mount.Damaged at) is = absurd cc
no_write_failed mount.NoMemory is = absurd cc

pub same_error : (s t : Status) → ◌≡◌ {A = Result (Option ℕ) Status} (Err s) (Err t) → s ≡ t
same_error s t is = cc
