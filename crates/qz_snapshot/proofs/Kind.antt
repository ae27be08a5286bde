-- What a kind of store has of snapshots: which payloads are their parts, what they begin with, and what a checkpoint leaves.
use Rattle.std.proofs.Common.{◌≡◌, ◌≢◌, ◌⊎◌, inl, inr, ⊎_elim, ℕ, zero, suc, ◌+◌, ◌^◌, ◌<◌, Bool, true, false, not, nat_le, List, [], ◌∷◌, ◌++◌, length, take, if◌then◌else◌, Some, None, refl, sym, ap, subst, ◌∙◌, arith, append-nil, append_assoc, length-append}
use Rattle.std.specs.Prelude.{Ok, Err, filter}
use Rattle.std.specs.Int.{w32, from_be_bytes}
use Rattle.std.specs.List.{AllByRecursion, fold}
use Rattle.std.specs.declared.result.Result.{Result}
use Rattle.std.proofs.lemmas.List.{take_all, take_at}
use Rattle.std.proofs.lemmas.Nat.{from_be_bytes-to_be_bytes_4}
use Rattle.qz_disk.specs.Disk.{DiskState, Only, LeavesOnly, IsLawful}
use Rattle.qz_disk.proofs.Moments.{started, weaker}
use Rattle.qz_journal.proofs.Marks.{AreSlots, offset_is, free_is}
use Rattle.qz_journal.specs.declared.slots.Slots.{Slots}
use Rattle.qz_journal.specs.Layout.{Holds, blocks, end_of}
use Rattle.qz_journal.specs.Slots.{IsSlot, IsHead, slot, number_at, other_slot, free_slot, offset_in}
use Rattle.qz_pieces.specs.declared.cutting.TheConstants.{PIECE_LIMIT}
use Rattle.qz_pieces.specs.Pieces.{RowBytes, Cut, nothing, with_row, pieces_of, piece_of, row_bytes}
use Rattle.qz_snapshot.proofs.HeadBytes.{head_length}
use Rattle.qz_snapshot.proofs.Rooms.{gate_on}
use Rattle.qz_snapshot.proofs.RowLists.{all_more}
use Rattle.qz_snapshot.specs.Checkpoints.{rows_written, snapshot_written, IsMidway}
use Rattle.qz_snapshot.specs.Heads.{head_bytes, number_bytes}
use Rattle.qz_snapshot.specs.Opening.{is_part}
use Rattle.qz_snapshot.specs.Snapshots.{BeginSnapshot, IsSnapshot}
use Rattle.qz_types.specs.Tables.{SchedulerTables}
use Rattle.qz_types.specs.declared.errors.SubmitError.{SubmitError}
use Rattle.qz_types.specs.declared.errors.SubmitError.TheVariants as submit
use Rattle.qz_values.specs.Fields.{number}

-- ---- the payloads of a snapshot are parts

abbrev IsPart : List ℕ → Type 0
IsPart payload = is_part payload ≡ true

begins_piece : (p rest : List ℕ) → p ≡ 241 ∷ rest → IsPart p
begins_piece p rest is = ap is_part is

-- pieces that are being cut begin with F1
record AreMarked (c : Cut) : Type 0 where
  pub rest : List ℕ
  pub piece_is : c.piece ≡ 241 ∷ rest
  pub whole : AllByRecursion IsPart c.whole

marked_row : (c : Cut) (r : RowBytes) → AreMarked c → AreMarked (with_row c r)
unfolding with_row
marked_row c r m =
    elim (nat_le (length c.piece + length (row_bytes r)) PIECE_LIMIT) as (λ b. AreMarked (if b then record { whole = c.whole; piece = c.piece ++ row_bytes r } else record { whole = c.whole ++ c.piece ∷ []; piece = piece_of (r ∷ []) })) [
      | true ↦ record { rest = m.rest ++ row_bytes r; piece_is = ap (λ (l : List ℕ). l ++ row_bytes r) m.piece_is; whole = m.whole }
      | false ↦ record { rest = row_bytes r ++ []; piece_is = refl; whole = all_more IsPart c.whole c.piece m.whole (begins_piece c.piece m.rest m.piece_is) }
    ]

marked_rows : (rows : List RowBytes) (c : Cut) → AreMarked c → AreMarked (fold with_row c rows)
marked_rows [] c m = m
marked_rows (r ∷ rows) c m = marked_rows rows (with_row c r) (marked_row c r m)

marked_pieces : (c : Cut) → AreMarked c → AllByRecursion IsPart (pieces_of c)
unfolding pieces_of
marked_pieces c m = elim (nat_le (length c.piece) 1) as (λ b. AllByRecursion IsPart (if b then c.whole else c.whole ++ c.piece ∷ [])) [
  | true ↦ m.whole
  | false ↦ all_more IsPart c.whole c.piece m.whole (begins_piece c.piece m.rest m.piece_is)
]

pub are_parts : (T : SchedulerTables) (before entries : ℕ) → AllByRecursion IsPart (snapshot_written T before entries)
are_parts T before entries = (refl, marked_pieces (fold with_row nothing (rows_written T)) (marked_rows (rows_written T) nothing (record { rest = []; piece_is = refl; whole = tt })))

-- so no record is among the first ones of them
no_records : (ps : List (List ℕ)) (n : ℕ) → AllByRecursion IsPart ps → filter (λ payload. not (is_part payload)) (take n ps) ≡ []
no_records [] zero all = refl
no_records [] (suc n) all = refl
no_records (p ∷ ps) zero all = refl
no_records (p ∷ ps) (suc n) all =
    let rest = filter (λ payload. not (is_part payload)) (take n ps) in
    ap (λ b. if not b then p ∷ rest else rest) all.0 ∙ no_records ps n all.1

pub records_none : (T : SchedulerTables) (before entries n : ℕ) → filter (λ payload. not (is_part payload)) (take n (snapshot_written T before entries)) ≡ []
records_none T before entries n = no_records (snapshot_written T before entries) n (are_parts T before entries)

-- ---- what payloads begin with

pub snapshot_more : (payloads xs more : List (List ℕ)) (T : SchedulerTables) (before entries : ℕ) → BeginSnapshot payloads T before entries more → BeginSnapshot (payloads ++ xs) T before entries (more ++ xs)
snapshot_more payloads xs more T before entries b = record {
  head = b.head;
  rows = b.rows;
  begins = record {
    widths = b.begins.widths;
    pieces = b.begins.pieces;
    parts = ap (λ (l : List (List ℕ)). l ++ xs) b.begins.parts ∙ ap (λ (l : List (List ℕ)). head_bytes b.head ∷ l) (append_assoc b.begins.pieces more xs);
    pieces_is = b.begins.pieces_is;
    cut = b.begins.cut;
  };
  before_is = b.before_is;
  entries_is = b.entries_is;
  numbers_are = b.numbers_are;
  rows_are = b.rows_are;
}

head_number : (n : ℕ) (rest : List ℕ) → n < 2 ^ 32 → from_be_bytes w32 (take 4 (number w32 n ++ rest)) ≡ n
unfolding number
head_number n rest small = ap (from_be_bytes w32) (take_at (number w32 n) rest 4 refl) ∙ from_be_bytes-to_be_bytes_4 n small

pub headed : (payloads : List (List ℕ)) (T : SchedulerTables) (before entries : ℕ) (more : List (List ℕ)) → BeginSnapshot payloads T before entries more
    → (head : List ℕ) × (rest : List (List ℕ)) × (payloads ≡ head ∷ rest) × IsHead head × (number_at 1 head ≡ before)
headed payloads T before entries more b =
    let h = b.head in (
      head_bytes h,
      b.begins.pieces ++ more,
      b.begins.parts,
      (omega (arith, head_length h), refl),
      head_number h.payloads (number w32 h.entries ++ (number w32 h.pieces ++ number_bytes h.numbers)) b.begins.widths.payloads ∙ b.before_is,
    )

-- ---- what a checkpoint leaves

-- It is made, or the disk failed; else nothing was done.
pub done_or_not : (r : Result Bool SubmitError) (P Q : Type 0) → (r ≢ Ok true → r ≢ Err submit.Fault → P) → ((r ≡ Ok true) ⊎ (r ≡ Err submit.Fault) → Q) → P ⊎ Q
done_or_not (Ok true) P Q undone done = inr (done (inl refl))
done_or_not (Ok false) P Q undone done = inl (undone (λ is. absurd cc) (λ is. absurd cc))
done_or_not (Err submit.Fault) P Q undone done = inr (done (inr refl))
done_or_not (Err submit.NoMemory) P Q undone done = inl (undone (λ is. absurd cc) (λ is. absurd cc))
done_or_not (Err (submit.Closed at)) P Q undone done = inl (undone (λ is. absurd cc) (λ is. absurd cc))
done_or_not (Err (submit.Refused refusal)) P Q undone done = inl (undone (λ is. absurd cc) (λ is. absurd cc))
done_or_not (Err (submit.JournalFull need room)) P Q undone done = inl (undone (λ is. absurd cc) (λ is. absurd cc))

-- gate and count after payloads that were put after others
pub ends_after : (payloads more : List (List ℕ)) (gate count last total : ℕ) → gate ≡ end_of payloads → count ≡ length payloads → last ≡ gate + length (blocks more) → total ≡ count + length more
    → (last ≡ end_of (payloads ++ more)) × (total ≡ length (payloads ++ more))
ends_after payloads more gate count last total gate_is count_is last_is total_is = (gate_on payloads more last gate last_is gate_is, omega (arith, count_is, total_is, length-append payloads more))

either_slot : (g f : ℕ) → IsSlot g → IsSlot f → (g ≡ f) ⊎ (g ≡ other_slot f)
either_slot g f (inl a) (inl b) = inl (a ∙ sym b)
either_slot g f (inl a) (inr b) = inr (a ∙ sym (ap other_slot b))
either_slot g f (inr a) (inl b) = inr (a ∙ sym (ap other_slot b))
either_slot g f (inr a) (inr b) = inl (a ∙ sym b)

-- Of what a crash leaves: some first ones of the snapshot, and no record among them. A slot that is open was so before, with
-- that offset; or it leads to the end of the payloads that stood, and the snapshot is whole there.
pub record IsLeft (version kind : ℕ) (T : SchedulerTables) (before entries : ℕ) (old : List ℕ) (payloads : List (List ℕ)) (bytes : List ℕ) : Type 0 where
  pub parts : List (List ℕ)
  pub holds : Holds bytes version kind (payloads ++ parts)
  pub passed : filter (λ payload. not (is_part payload)) parts ≡ []
  pub slots : (gate offset : ℕ) → IsSlot gate → slot gate bytes ≡ Some offset → (slot gate old ≡ Some offset) ⊎ ((offset ≡ end_of payloads) × IsSnapshot parts T before entries)

module _ (version kind : ℕ) (T : SchedulerTables) (before entries : ℕ) (slots : Slots) (old : List ℕ) (payloads : List (List ℕ)) (are : AreSlots slots old) where
  abbrev snapshot : List (List ℕ)
  snapshot = snapshot_written T before entries

  abbrev Led : List ℕ → ℕ → ℕ → ℕ → Type 0
  Led b count gate offset = slot gate b ≡ Some offset → (slot gate old ≡ Some offset) ⊎ ((offset ≡ end_of payloads) × IsSnapshot (take count snapshot) T before entries)

  as_it_was : (gate offset : ℕ) (b : List ℕ) → IsSlot gate → slot gate b ≡ offset_in slots gate → slot gate b ≡ Some offset → slot gate old ≡ Some offset
  as_it_was gate offset b is same opened = sym (offset_is gate slots old is are) ∙ sym same ∙ opened

  one_offset : (a b : ℕ) → Some a ≡ Some b → a ≡ b
  one_offset a b same = cc

  other_is : IsSlot (other_slot (free_slot slots))
  other_is = ⊎_elim (λ is. inr (ap other_slot is)) (λ is. inl (ap other_slot is)) (free_is slots)

  module _ (is : IsSnapshot snapshot T before entries) (b : List ℕ) (m : IsMidway version kind slots payloads snapshot b) where
    led_free : (offset : ℕ) → Led b m.count (free_slot slots) offset
    led_free offset opened =
        ⊎_elim (λ same. inl (as_it_was (free_slot slots) offset b (free_is slots) same opened))
        (⊎_elim (λ none. let never : Some offset ≡ None = sym opened ∙ none in absurd (cc))
        (λ there. inr (one_offset offset (end_of payloads) (sym opened ∙ there.0), subst (λ (l : List (List ℕ)). IsSnapshot l T before entries) (sym (take_all m.count snapshot there.1)) is))) m.free

    led_other : (offset : ℕ) → Led b m.count (other_slot (free_slot slots)) offset
    led_other offset opened = inl (as_it_was (other_slot (free_slot slots)) offset b other_is m.in_use opened)

    led : (gate offset : ℕ) → IsSlot gate → Led b m.count gate offset
    led gate offset slot_is =
        ⊎_elim (λ same. subst (λ n. Led b m.count n offset) (sym same) (led_free offset)) (λ same. subst (λ n. Led b m.count n offset) (sym same) (led_other offset))
        (either_slot gate (free_slot slots) slot_is (free_is slots))

    left : IsLeft version kind T before entries old payloads b
    left = record { parts = take m.count snapshot; holds = m.holds; passed = records_none T before entries m.count; slots = led }

  left_alone : (b : List ℕ) → b ≡ old → Holds old version kind payloads → IsLeft version kind T before entries old payloads b
  left_alone b same holds = record {
    parts = [];
    holds = subst (λ (l : List ℕ). Holds l version kind (payloads ++ [])) (sym same) (subst (Holds old version kind) (sym (append-nil payloads)) holds);
    passed = refl;
    slots = λ gate offset is opened. inl (ap (slot gate) (sym same) ∙ opened);
  }

  -- Its clauses give this of each moment, whatever it answers.
  pub leaves_left : (s t : DiskState) → s.content ≡ old → IsLawful s → Only s.content s → Holds old version kind payloads → (t ≡ s) ⊎ IsSnapshot snapshot T before entries
      → LeavesOnly s t (IsMidway version kind slots payloads snapshot) → LeavesOnly s t (IsLeft version kind T before entries old payloads)
  leaves_left s t content lawful durable holds (inl same) leaves =
      subst (λ (u : DiskState). LeavesOnly s u (IsLeft version kind T before entries old payloads)) (sym same) (started s _ lawful (λ b image. left_alone b (durable b image ∙ content) holds))
  leaves_left s t content lawful durable holds (inr is) leaves = weaker s t _ _ leaves (left is)
