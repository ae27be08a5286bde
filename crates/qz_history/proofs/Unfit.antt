-- Payloads that aren't all taken record no history.
use Rattle.std.proofs.Common.{◌≡◌, ◌∙◌, ℕ, ◌<◌, false, List, ◌∷◌, [], ◌++◌, length, take, get_or, sym, ap, subst, refl}
use Rattle.std.specs.Prelude.{Option, Some, None, Ok, IsOk}
use Rattle.std.specs.declared.result.Result.{Result}
use Rattle.std.specs.List.{AllZip}
use Rattle.qz_types.specs.Entries.{EntryData}
use Rattle.qz_types.specs.Outcomes.{IsAccepted}
use Rattle.qz_types.specs.Tables.{SchedulerTables}
use Rattle.qz_model.specs.History.{History, replay_from}
use Rattle.qz_model.specs.Transaction.{transaction}
use Rattle.qz_stores.specs.Bases.{records}
use Rattle.qz_stores.specs.Opening.{AreTaken, BeginWell, IsBase, IsRead, IsUnfit}
use Rattle.qz_stores.proofs.Once.{none_unfit}
use Rattle.qz_stores.proofs.Replays.{stops_at}
use Rattle.qz_stores.proofs.Whole.{one_record, records_append}
use Rattle.qz_snapshot.specs.Opening.{is_part}
use Rattle.qz_trigger_store.specs.Entries.{answer_of}
use Rattle.qz_trigger_store.specs.Kinds.{trigger_kind}
use Rattle.qz_trigger_store.specs.Laws.{trigger_lawful}
use Rattle.qz_trigger_store.proofs.Outcomes.{accepted_by}

-- the entry that a payload is the record of, and it alone, isn't accepted
pub none_accepted : (T : SchedulerTables) (e f : EntryData) → ◌≡◌ {A = Result EntryData ℕ} (Ok e) (Ok f) → (IsAccepted (transaction T f) → ⊥) → IsOk (answer_of (transaction T e)) → ⊥
none_accepted T e f same never is =
    let one : e ≡ f = cc in
    never (subst (λ (x : EntryData). IsAccepted (transaction T x)) one (accepted_by (transaction T e) is))

-- Payloads of which one is unfit where it stands aren't all taken.
pub never_taken : (T U : SchedulerTables) (payloads : List (List ℕ)) (i : ℕ) (p : List ℕ) (es hs : List EntryData) → i < length payloads → p ≡ get_or payloads i p → U ≡ replay_from T es
    → AreTaken trigger_kind T (take i payloads) es → is_part p ≡ false → IsUnfit trigger_kind U p → AreTaken trigger_kind T payloads hs → ⊥
never_taken T U payloads i p es hs below here state taken no_part unfit all =
    let has = stops_at trigger_kind trigger_lawful T U 0 payloads i p _ es below here refl state taken no_part unfit in
    let k = trigger_kind in
    let parts : records k payloads ≡ records k has.taken ++ has.payload ∷ records k has.more =
    ap (records k) has.whole ∙ records_append k has.taken (has.payload ∷ has.more) ∙ ap (λ (l : List (List ℕ)). records k has.taken ++ l) (records_append k (has.payload ∷ []) has.more ∙ ap (λ (l : List (List ℕ)). l ++ records k has.more) (one_record k has.payload has.no_part)) in
    none_unfit k trigger_lawful T (records k has.taken) has.entries hs has.payload (records k has.more) has.are_taken.recorded
    (subst (λ (l : List (List ℕ)). ∥ AllZip k.IsRecordOf l hs ∥₁) parts all.recorded) all.legal has.unfit

-- Where no snapshot that is taken begins them, they have no base.
pub unbegun : (slot : Option ℕ) (gate version : ℕ) (payloads : List (List ℕ)) → slot ≡ Some gate → ((T : SchedulerTables) (n : ℕ) → BeginWell trigger_kind payloads T n → ⊥)
    → (T : SchedulerTables) (n : ℕ) → IsBase trigger_kind slot version payloads T n → ⊥
unbegun slot gate version payloads is never T n base = never T n (subst (λ o. IsBase trigger_kind o version payloads T n) is base)

-- Payloads have one base.
base_once : (slot : Option ℕ) (version n m : ℕ) (payloads : List (List ℕ)) (T U : SchedulerTables) → IsBase trigger_kind slot version payloads T n → IsBase trigger_kind slot version payloads U m → T ≡ U
base_once None version n m payloads T U one two = one.0 ∙ sym two.0
base_once (Some gate) version n m payloads T U one two = (trigger_lawful.snapshots_once payloads T U one.before two.before n m one.snapshot two.snapshot).0

-- So where none are all taken from this base on, they record no history.
pub never_read : (slot : Option ℕ) (version n : ℕ) (payloads : List (List ℕ)) (T : SchedulerTables) → IsBase trigger_kind slot version payloads T n
    → ((es : List EntryData) → AreTaken trigger_kind T payloads es → ⊥) → (h : History) → IsRead trigger_kind slot version payloads h.base_count h.base h.entries → ⊥
never_read slot version n payloads T base never h read =
    never h.entries (subst (λ U. AreTaken trigger_kind U payloads h.entries) (base_once slot version h.base_count n payloads h.base T read.base base) read.taken)
