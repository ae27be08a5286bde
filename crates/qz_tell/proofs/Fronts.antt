-- What is read twice of the same bytes is the same, and a reading that ends early gives a front of it.
use Rattle.std.proofs.Common.{◌≡◌, ◌∙◌, ℕ, List, [], ◌∷◌, ◌++◌, length, take, drop, take-append-drop, sym, ap, subst, refl}
use Rattle.std.proofs.Math.Logic.{∥∥₁_elim}
use Rattle.std.specs.Prelude.{Option, Some, None}
use Rattle.std.specs.List.{AllZip}
use Rattle.qz_journal.proofs.Headers.{one_version}
use Rattle.qz_journal.proofs.TrueTails.{tail_once}
use Rattle.qz_journal.specs.Slots.{slots_of, slot_in_use}
use Rattle.qz_journal.specs.Tails.{start_of, IsTail}
use Rattle.qz_journal.specs.declared.layout.TheConstants.{TRIGGERS}
use Rattle.qz_types.specs.Entries.{EntryData}
use Rattle.qz_types.specs.Tables.{SchedulerTables}
use Rattle.qz_model.specs.History.{History}
use Rattle.qz_stores.specs.Bases.{records}
use Rattle.qz_stores.specs.Opening.{AreTaken, IsBase, IsRead}
use Rattle.qz_stores.proofs.Once.{entries_unique}
use Rattle.qz_stores.proofs.Whole.{records_append}
use Rattle.qz_trigger_store.specs.Bytes.{StandsFrom}
use Rattle.qz_trigger_store.specs.Entries.{IsRecordOf}
use Rattle.qz_trigger_store.specs.Kinds.{entries_once, trigger_kind}
use Rattle.qz_trigger_store.specs.Laws.{trigger_lawful}
use Rattle.qz_tell.specs.Histories.{IsFrontOf}

-- Payloads have one base.
base_once : (slot : Option ℕ) (version n m : ℕ) (payloads : List (List ℕ)) (T U : SchedulerTables) → IsBase trigger_kind slot version payloads T n → IsBase trigger_kind slot version payloads U m
    → (T ≡ U) × (n ≡ m)
base_once None version n m payloads T U one two = (one.0 ∙ sym two.0, one.1 ∙ sym two.1)
base_once (Some gate) version n m payloads T U one two = trigger_lawful.snapshots_once payloads T U one.before two.before n m one.snapshot two.snapshot

-- The entries of a front of some records are a front of the entries of all.
zip_front : (ps qs : List (List ℕ)) (es hs : List EntryData) → AllZip IsRecordOf ps es → AllZip IsRecordOf (ps ++ qs) hs → es ≡ take (length es) hs
zip_front [] qs [] hs p q = refl
zip_front [] qs (e ∷ es) hs p q = absurd p
zip_front (x ∷ ps) qs [] hs p q = absurd p
zip_front (x ∷ ps) qs (e ∷ es) [] p q = absurd q
zip_front (x ∷ ps) qs (e ∷ es) (h ∷ hs) p q =
    let first : e ≡ h = trigger_lawful.records_once x e h p.0 q.0 in
    let rest : es ≡ take (length es) hs = zip_front ps qs es hs p.1 q.1 in
    λ i. first i ∷ rest i

taken_front : (T U : SchedulerTables) (payloads : List (List ℕ)) (read : ℕ) (es hs : List EntryData) → AreTaken trigger_kind T (take read payloads) es → AreTaken trigger_kind U payloads hs
    → es ≡ take (length es) hs
taken_front T U payloads read es hs some all =
    let k = trigger_kind in
    let parts : records k payloads ≡ records k (take read payloads) ++ records k (drop read payloads) = ap (records k) (sym (take-append-drop read payloads)) ∙ records_append k (take read payloads) (drop read payloads) in
    ∥∥₁_elim some.recorded (entries_once es (take (length es) hs)) (λ a. ∥∥₁_elim all.recorded (entries_once es (take (length es) hs)) (λ b.
    zip_front (records k (take read payloads)) (records k (drop read payloads)) es hs a (subst (λ (l : List (List ℕ)). AllZip IsRecordOf l hs) parts b)))

module _ (slot : Option ℕ) (version : ℕ) (payloads : List (List ℕ)) (opened : History) (all : IsRead trigger_kind slot version payloads opened.base_count opened.base opened.entries) where
  -- Two readings of the same payloads give one history,
  pub read_once : (h : History) → IsRead trigger_kind slot version payloads h.base_count h.base h.entries → h ≡ opened
  read_once h one =
      let base = base_once slot version h.base_count opened.base_count payloads h.base opened.base one.base all.base in
      let tables = base.0 in
      let count = base.1 in
      let entries : h.entries ≡ opened.entries = entries_unique trigger_kind trigger_lawful (records trigger_kind payloads) h.entries opened.entries one.taken.recorded all.taken.recorded in
      λ i. record { base_count = count i; base = tables i; entries = entries i }

  -- and one that ended early gives a front of it.
  pub read_front : (n read : ℕ) (T : SchedulerTables) (es : List EntryData) → IsBase trigger_kind slot version payloads T n → AreTaken trigger_kind T (take read payloads) es
      → IsFrontOf (record { base_count = n; base = T; entries = es }) opened
  read_front n read T es base taken =
      let same = base_once slot version n opened.base_count payloads T opened.base base all.base in
      record { base_count = same.1; base = same.0; entries = taken_front T opened.base payloads read es opened.entries taken all.taken }

-- Nothing of it was read.
pub none_front : (opened : History) → IsFrontOf (record { base_count = opened.base_count; base = opened.base; entries = [] }) opened
none_front opened = record { base_count = refl; base = refl; entries = refl }

-- These payloads of the bytes are those that a history which stands there was read from.
pub read_of : (bytes : List ℕ) (slot : Option ℕ) (version other : ℕ) (payloads : List (List ℕ)) (opened : History) → IsTail bytes version TRIGGERS (start_of (slots_of bytes)) payloads → slot ≡ slot_in_use (slots_of bytes)
    → StandsFrom other bytes opened → IsRead trigger_kind slot version payloads opened.base_count opened.base opened.entries
read_of bytes slot version other payloads opened tail slot_is stands =
    let same = tail_once bytes other version TRIGGERS (start_of (slots_of bytes)) stands.payloads payloads stands.tail tail in
    let one = one_version other version TRIGGERS (take 16 bytes) stands.tail.header tail.header in
    subst (λ o. IsRead trigger_kind o version payloads opened.base_count opened.base opened.entries) (sym slot_is)
    (subst (λ v. IsRead trigger_kind (slot_in_use (slots_of bytes)) v payloads opened.base_count opened.base opened.entries) one
    (subst (λ (l : List (List ℕ)). IsRead trigger_kind (slot_in_use (slots_of bytes)) other l opened.base_count opened.base opened.entries) same stands.read))
