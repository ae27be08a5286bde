-- Snapshots of the tables, as those of a kind of store.
use Rattle.std.proofs.Common.{◌≡◌, ◌≢◌, ◌⊎◌, inl, inr, ⊎_elim, ℕ, ◌+◌, List, [], ◌++◌, length, true, false, nat_lt, if◌then◌else◌, refl, sym, ap, subst, ◌∙◌, arith}
use Rattle.std.specs.Prelude.{Bool, Ok, Err, Option, Some, None, IfNone, IfOk, OnOk}
use Rattle.std.proofs.lemmas.List.{take_all}
use Rattle.std.specs.declared.result.Result.{Result}
use Rattle.qz_disk.specs.Disk.{DiskState, Only, IsLawful, LeavesOnly}
use Rattle.qz_disk.proofs.Moments.{weaker}
use Rattle.qz_types.specs.Tables.{SchedulerTables}
use Rattle.qz_types.specs.declared.errors.SubmitError.{SubmitError}
use Rattle.qz_types.specs.declared.errors.SubmitError.TheVariants as submit
use Rattle.qz_journal.proofs.Marks.{AreSlots}
use Rattle.qz_journal.specs.Commits.{LackRoom, HaveRoom}
use Rattle.qz_journal.specs.Layout.{Holds, blocks, end_of}
use Rattle.qz_journal.specs.declared.slots.Slots.{Slots}
use Rattle.qz_journal.specs.Slots.{slot, other_slot, slots_of, slot_in_use, gate_of_greater, other_than, free_slot, offset_in}
use Rattle.qz_journal.specs.declared.layout.TheConstants.{TRIGGERS}
use Rattle.qz_snapshot.specs.Checkpoints.{snapshot_written}
use Rattle.qz_snapshot.specs.Checkpoints as checkpoints
use Rattle.qz_snapshot.specs.Opening as snapshots
use Rattle.qz_snapshot.specs.Snapshots.{IsSnapshot}
use Rattle.qz_snapshot.proofs.Kind.{IsLeft, ends_after, leaves_left, records_none}
use Rattle.qz_stores.proofs.Appending.{both_leave}
use Rattle.qz_stores.proofs.WithoutSlots.{none_open}
use Rattle.qz_stores.specs.Bases.{records}
use Rattle.qz_stores.specs.Checkpoints.{IsMidway}
use Rattle.qz_stores.specs.Opening.{BeginWell}
use Rattle.qz_stores.specs.declared.kinds.CheckpointError.{CheckpointError}
use Rattle.qz_stores.specs.declared.kinds.CheckpointError.TheVariants as check
use Rattle.qz_trigger_store.specs.Kinds.{BeginSnapshot, trigger_kind}

-- what an opening doesn't take

not_taken : (payloads : List (List ℕ)) → ((T : SchedulerTables) (entries : ℕ) → snapshots.BeginWell payloads T entries → ⊥) → (T : SchedulerTables) (entries : ℕ) → BeginWell trigger_kind payloads T entries → ⊥
not_taken payloads none T entries well = none T entries (record { before = well.before; more = well.snapshot.0; begin = well.snapshot.1; counted = well.counted; valid = well.valid })

pub none_taken : {A : Type 0} (payloads : List (List ℕ)) (o : Option A) → o ≡ None → IfNone o ((T : SchedulerTables) (entries : ℕ) → snapshots.BeginWell payloads T entries → ⊥)
    → (T : SchedulerTables) (entries : ℕ) → BeginWell trigger_kind payloads T entries → ⊥
none_taken payloads None is none = not_taken payloads none
none_taken payloads (Some x) is none = absurd cc

-- what a checkpoint answers

pub made_or_failed : (made : Bool) (r : Result Bool SubmitError) → r ≡ Ok made → (◌≡◌ {A = Result Bool CheckpointError} (Ok made) (Ok true)) ⊎ (◌≡◌ {A = Result Bool CheckpointError} (Ok made) (Err check.Fault)) → (r ≡ Ok true) ⊎ (r ≡ Err submit.Fault)
made_or_failed made r is (inl same) = let yes : made ≡ true = cc in inl (is ∙ ap Ok yes)
made_or_failed made r is (inr same) = absurd cc

pub lack_as : (T U : SchedulerTables) (before entries gate count : ℕ) → U ≡ T → LackRoom (snapshot_written U before entries) gate count → LackRoom (snapshot_written T before entries) gate count
lack_as T U before entries gate count same = subst (λ (X : SchedulerTables). LackRoom (snapshot_written X before entries) gate count) same

pub have_as : (T U : SchedulerTables) (before entries gate count : ℕ) → U ≡ T → HaveRoom (snapshot_written U before entries) gate count → HaveRoom (snapshot_written T before entries) gate count
have_as T U before entries gate count same = subst (λ (X : SchedulerTables). HaveRoom (snapshot_written X before entries) gate count) same

-- It is made, or the disk failed; else nothing was done.
done_or_not : {Q : Type 0} (s t : DiskState) (r : Result Bool SubmitError) → (r ≢ Ok true → r ≢ Err submit.Fault → t ≡ s) → ((r ≡ Ok true) ⊎ (r ≡ Err submit.Fault) → Q) → (t ≡ s) ⊎ Q
done_or_not s t (Ok true) same did = inr (did (inl refl))
done_or_not s t (Ok false) same did = inl (same (λ is. absurd cc) (λ is. absurd cc))
done_or_not s t (Err submit.Fault) same did = inr (did (inr refl))
done_or_not s t (Err submit.NoMemory) same did = inl (same (λ is. absurd cc) (λ is. absurd cc))
done_or_not s t (Err (submit.Closed at)) same did = inl (same (λ is. absurd cc) (λ is. absurd cc))
done_or_not s t (Err (submit.Refused refusal)) same did = inl (same (λ is. absurd cc) (λ is. absurd cc))
done_or_not s t (Err (submit.JournalFull need room)) same did = inl (same (λ is. absurd cc) (λ is. absurd cc))

-- The slot in use stays: the other one alone is written.

abbrev StaysInUse : List ℕ → List ℕ → Type 0
StaysInUse old bytes = slot_in_use (slots_of bytes) ≡ None → slot_in_use (slots_of old) ≡ None

none_some : (x : ℕ) → ◌≡◌ {A = Option ℕ} None (Some x) → ⊥
none_some x is = cc

stays_in_use : (a b : Option ℕ) (old bytes : List ℕ) → a ≡ slot 6 old → b ≡ slot 11 old → slot (other_slot (free_slot (record { a = a; b = b }))) bytes ≡ offset_in (record { a = a; b = b }) (other_slot (free_slot (record { a = a; b = b }))) → StaysInUse old bytes
stays_in_use None None old bytes a_is b_is in_use none = λ i. gate_of_greater (sym a_is i) (sym b_is i)
stays_in_use (Some a) None old bytes a_is b_is in_use none = absurd (none_some a (sym (none_open (slot 6 bytes) (slot 11 bytes) none).0 ∙ in_use))
stays_in_use None (Some b) old bytes a_is b_is in_use none = absurd (none_some b (sym (none_open (slot 6 bytes) (slot 11 bytes) none).1 ∙ in_use))
stays_in_use (Some a) (Some b) old bytes a_is b_is in_use none = either (nat_lt a b) in_use
  where
    either : (c : Bool) → slot (other_slot (other_than (if c then Some 11 else Some 6))) bytes ≡ offset_in (record { a = Some a; b = Some b }) (other_slot (other_than (if c then Some 11 else Some 6))) → slot_in_use (slots_of old) ≡ None
    either true is = absurd (none_some b (sym (none_open (slot 6 bytes) (slot 11 bytes) none).1 ∙ is))
    either false is = absurd (none_some a (sym (none_open (slot 6 bytes) (slot 11 bytes) none).0 ∙ is))

-- what a checkpoint leaves

module _ (version : ℕ) (T : SchedulerTables) (count entries : ℕ) (old : List ℕ) (payloads : List (List ℕ)) (count_is : count ≡ length payloads) (held : Holds old version TRIGGERS payloads) where
  -- at true the snapshot stands after the payloads
  pub stands_after : (U : SchedulerTables) (kind : ℕ) → U ≡ T → kind ≡ TRIGGERS → (new : List ℕ) (gate last total : ℕ) → gate ≡ end_of payloads
      → (Holds old version kind payloads → Holds new version kind (payloads ++ snapshot_written U count entries))
      → last ≡ gate + length (blocks (snapshot_written U count entries)) → total ≡ count + length (snapshot_written U count entries)
      → Holds new version TRIGGERS (payloads ++ snapshot_written T count entries) × (last ≡ end_of (payloads ++ snapshot_written T count entries)) × (total ≡ length (payloads ++ snapshot_written T count entries))
  stands_after U kind same kind_is new gate last total gate_is stands last_is total_is =
      subst (λ (X : SchedulerTables). Holds new version TRIGGERS (payloads ++ snapshot_written X count entries) × (last ≡ end_of (payloads ++ snapshot_written X count entries)) × (total ≡ length (payloads ++ snapshot_written X count entries))) same
      (let ends = ends_after payloads (snapshot_written U count entries) gate count last total gate_is count_is last_is total_is in
      (subst (λ n. Holds new version n (payloads ++ snapshot_written U count entries)) kind_is (stands (subst (λ n. Holds old version n payloads) (sym kind_is) held)), ends.0, ends.1))

  midway : (bytes : List ℕ) → IsLeft version TRIGGERS T count entries old payloads bytes → StaysInUse old bytes → IsMidway trigger_kind version T entries old payloads bytes
  midway bytes left stays = record {
    parts = left.parts;
    holds = left.holds;
    passed = left.passed;
    slots = λ gate offset is opened.
        ⊎_elim inl (λ there. inr (there.0, subst (λ n. BeginSnapshot left.parts T n entries) count_is ([], there.1))) (left.slots gate offset is opened);
    in_use = stays;
  }

  moments : (slots : Slots) → AreSlots slots old → (s t : DiskState) → s.content ≡ old → IsLawful s → Only s.content s → (r : Result Bool SubmitError)
      → (r ≢ Ok true → r ≢ Err submit.Fault → t ≡ s) → ((r ≡ Ok true) ⊎ (r ≡ Err submit.Fault) → IsSnapshot (snapshot_written T count entries) T count entries)
      → LeavesOnly s t (checkpoints.IsMidway version TRIGGERS slots payloads (snapshot_written T count entries)) → LeavesOnly s t (IsMidway trigger_kind version T entries old payloads)
  moments slots are s t content lawful durable r unchanged snapshot leaves =
      let left = leaves_left version TRIGGERS T count entries slots old payloads are s t content lawful durable held (done_or_not s t r unchanged snapshot) leaves in
      let stays = weaker s t _ (StaysInUse old) leaves (λ b m. stays_in_use slots.a slots.b old b are.a are.b m.in_use) in
      weaker s t _ _ (both_leave s t _ _ left stays) (λ b both. midway b both.0 both.1)

  -- what a crash in it leaves
  pub any_moment : (U : SchedulerTables) (kind : ℕ) → U ≡ T → kind ≡ TRIGGERS → (slots : Slots) → AreSlots slots old → (s t : DiskState) → s.content ≡ old → IsLawful s → Only s.content s → (r : Result Bool SubmitError)
      → (r ≢ Ok true → r ≢ Err submit.Fault → t ≡ s) → ((r ≡ Ok true) ⊎ (r ≡ Err submit.Fault) → IsSnapshot (snapshot_written U count entries) U count entries)
      → (Holds old version kind payloads → LeavesOnly s t (checkpoints.IsMidway version kind slots payloads (snapshot_written U count entries))) → LeavesOnly s t (IsMidway trigger_kind version T entries old payloads)
  any_moment U kind same kind_is slots are s t content lawful durable r unchanged snapshot leaves =
      moments slots are s t content lawful durable r unchanged
      (λ done. subst (λ (X : SchedulerTables). IsSnapshot (snapshot_written X count entries) X count entries) same (snapshot done))
      (subst (λ (X : SchedulerTables). LeavesOnly s t (checkpoints.IsMidway version TRIGGERS slots payloads (snapshot_written X count entries))) same
      (subst (λ n. LeavesOnly s t (checkpoints.IsMidway version n slots payloads (snapshot_written U count entries))) kind_is (leaves (subst (λ n. Holds old version n payloads) (sym kind_is) held))))

-- what a store begins with

pub begins_of : {A B C : Type 0} (r : Result (Result A B) C) (T : SchedulerTables) → IfOk r (λ x. OnOk x (IsSnapshot (snapshot_written T 0 0) T 0 0)) → IfOk r (λ x. OnOk x (BeginSnapshot (snapshot_written T 0 0) T 0 0))
begins_of (Ok (Ok x)) T is = ([], is)
begins_of (Ok (Err x)) T is = tt
begins_of (Err x) T is = tt

pub parts_of : {A B C : Type 0} (r : Result (Result A B) C) (T : SchedulerTables) → IfOk r (λ x. OnOk x (records trigger_kind (snapshot_written T 0 0) ≡ []))
parts_of (Ok (Ok x)) T =
    let all = snapshot_written T 0 0 in
    subst (λ (l : List (List ℕ)). records trigger_kind l ≡ []) (take_all (length all) all (omega arith)) (records_none T 0 0 (length all))
parts_of (Ok (Err x)) T = tt
parts_of (Err x) T = tt
