-- Parts of a snapshot that are gathered: what holds of the first of them, and that none is a record.
use Rattle.std.proofs.Common.{◌≡◌, ◌⊎◌, inl, inr, ⊎_elim, ℕ, ◌+◌, ◌<◌, ◌≤◌, Bool, true, false, not, nat_le, ◌&&◌, List, [], ◌∷◌, ◌++◌, length, take, drop, if◌then◌else◌, refl, sym, ap, subst, ◌∙◌, arith, append-nil, append_assoc, length-append, take-append-drop}
use Rattle.std.specs.Prelude.{slice_index, ◌==◌}
use Rattle.std.specs.List.{AllByRecursion, fold, list_all}
use Rattle.std.proofs.lemmas.Bool.{cases_lt}
use Rattle.std.proofs.lemmas.Bool.Decides.{nat_tests}
use Rattle.std.proofs.lemmas.List.{take_at, take-append-le}
use Rattle.qz_pieces.specs.declared.cutting.TheConstants.{PIECE_LIMIT}
use Rattle.qz_pieces.specs.Pieces.{RowBytes, Cut, nothing, with_row, pieces, pieces_of, piece_of, row_bytes}
use Rattle.qz_snapshot.specs.declared.heads.Head.{Head}
use Rattle.qz_snapshot.specs.Heads.{head_bytes, HasWidths}
use Rattle.qz_snapshot.specs.Opening.{is_part, is_piece, AreCutShort}
use Rattle.qz_snapshot.specs.Snapshots.{BeginSnapshot, BeginsPieces}
use Rattle.qz_stores.proofs.Whole.{records_append, no_record}
use Rattle.qz_stores.specs.Bases.{records}
use Rattle.qz_stores.specs.Kinds.{StoreKind}
use Rattle.qz_stores.specs.Opening.{BeginWell}
use Rattle.qz_types.specs.Tables.{SchedulerTables}
use Rattle.qz_values.specs.Fields.{Read, number}
use Rattle.qz_values.specs.Formats.{IsFormat, Any}
use Rattle.qz_values.proofs.Formats.{ok_is}
use Rattle.qz_values.proofs.SingleFields.{wide32, number_format}
use Rattle.qz_trigger_store.specs.Kinds.{trigger_kind}

-- What is known of a kind's snapshots beside its laws.
pub record AreGathered {H S E R : Type 0} (k : StoreKind H S E R) : Type 0 where
  -- the first ones of payloads that are cut short are cut short
  pub cut_front : (xs ys : List (List ℕ)) → (xs ≡ [] → ⊥) → k.AreCutShort (xs ++ ys) → k.AreCutShort xs
  -- those of payloads that begin with a snapshot are cut short, or begin with it
  pub well_front : (xs ys : List (List ℕ)) (T : S) (count : ℕ) → (xs ≡ [] → ⊥) → (k.AreCutShort xs → ⊥) → BeginWell k (xs ++ ys) T count → BeginWell k xs T count
  pub not_both : (xs : List (List ℕ)) (T : S) (count : ℕ) → k.AreCutShort xs → BeginWell k xs T count → ⊥
  pub none_cut : k.AreCutShort [] → ⊥
  -- where the last payload ends a snapshot, none is a record
  pub no_records : (xs : List (List ℕ)) (p : List ℕ) (T : S) (count : ℕ) → (xs ≡ []) ⊎ k.AreCutShort xs → BeginWell k (xs ++ p ∷ []) T count → records k (xs ++ p ∷ []) ≡ []

all_more : {A : Type 0} (P : A → Type 0) (xs : List A) (x : A) → AllByRecursion P xs → P x → AllByRecursion P (xs ++ x ∷ [])
all_more P [] x all is = (is, tt)
all_more P (y ∷ xs) x all is = (all.0, all_more P xs x all.1 is)

-- ---- pieces begin with F1

abbrev IsPiece : List ℕ → Type 0
IsPiece p = is_piece p ≡ true

begins_piece : (p rest : List ℕ) → p ≡ 241 ∷ rest → IsPiece p
begins_piece p rest is = ap is_piece is

record AreMarked (c : Cut) : Type 0 where
  pub rest : List ℕ
  pub piece_is : c.piece ≡ 241 ∷ rest
  pub whole : AllByRecursion IsPiece c.whole

marked_row : (c : Cut) (r : RowBytes) → AreMarked c → AreMarked (with_row c r)
unfolding with_row
marked_row c r m =
    elim (nat_le (length c.piece + length (row_bytes r)) PIECE_LIMIT) as (λ b. AreMarked (if b then record { whole = c.whole; piece = c.piece ++ row_bytes r } else record { whole = c.whole ++ c.piece ∷ []; piece = piece_of (r ∷ []) })) [
      | true ↦ record { rest = m.rest ++ row_bytes r; piece_is = ap (λ (l : List ℕ). l ++ row_bytes r) m.piece_is; whole = m.whole }
      | false ↦ record { rest = row_bytes r ++ []; piece_is = refl; whole = all_more IsPiece c.whole c.piece m.whole (begins_piece c.piece m.rest m.piece_is) }
    ]

marked_rows : (rows : List RowBytes) (c : Cut) → AreMarked c → AreMarked (fold with_row c rows)
marked_rows [] c m = m
marked_rows (r ∷ rows) c m = marked_rows rows (with_row c r) (marked_row c r m)

marked_pieces : (c : Cut) → AreMarked c → AllByRecursion IsPiece (pieces_of c)
unfolding pieces_of
marked_pieces c m = elim (nat_le (length c.piece) 1) as (λ b. AllByRecursion IsPiece (if b then c.whole else c.whole ++ c.piece ∷ [])) [
  | true ↦ m.whole
  | false ↦ all_more IsPiece c.whole c.piece m.whole (begins_piece c.piece m.rest m.piece_is)
]

all_pieces : (rows : List RowBytes) → AllByRecursion IsPiece (pieces rows)
all_pieces rows = marked_pieces (fold with_row nothing rows) (marked_rows rows nothing (record { rest = []; piece_is = refl; whole = tt }))

-- ---- lists of pieces

both_true : (a b : Bool) → (a && b) ≡ true → (a ≡ true) × (b ≡ true)
both_true true b is = (refl, is)
both_true false b is = absurd (cc)

all_listed : (ps : List (List ℕ)) → AllByRecursion IsPiece ps → list_all is_piece ps ≡ true
all_listed [] all = refl
all_listed (p ∷ ps) all = ap (λ b. b && list_all is_piece ps) all.0 ∙ all_listed ps all.1

listed_all : (ps : List (List ℕ)) → list_all is_piece ps ≡ true → AllByRecursion IsPiece ps
listed_all [] is = tt
listed_all (p ∷ ps) is = let both = both_true (is_piece p) (list_all is_piece ps) is in (both.0, listed_all ps both.1)

all_front : (xs ys : List (List ℕ)) → AllByRecursion IsPiece (xs ++ ys) → AllByRecursion IsPiece xs
all_front [] ys all = tt
all_front (x ∷ xs) ys all = (all.0, all_front xs ys all.1)

piece_part : (p : List ℕ) → IsPiece p → is_part p ≡ true
piece_part p is = let first : slice_index p 0 ≡ 241 = grind (arith, nat_tests) in ap (λ n. nat_le 240 n && nat_le n 241) first

pieces_none : (ps : List (List ℕ)) → AllByRecursion IsPiece ps → records trigger_kind ps ≡ []
pieces_none [] all = refl
pieces_none (p ∷ ps) all = ap (λ b. if not b then p ∷ records trigger_kind ps else records trigger_kind ps) (piece_part p all.0) ∙ pieces_none ps all.1

-- ---- the two forms of payloads that begin with a head

same_first : {A : Type 0} (x y : A) (xs ys : List A) → x ∷ xs ≡ y ∷ ys → x ≡ y
same_first x y xs ys same = cc

same_rest : {A : Type 0} (x y : A) (xs ys : List A) → x ∷ xs ≡ y ∷ ys → xs ≡ ys
same_rest x y xs ys same = cc

no_length : {A : Type 0} (xs : List A) → length xs ≡ 0 → xs ≡ []
no_length [] is = refl
no_length (x ∷ xs) is = absurd (omega (arith, is))

cut_front : (xs ys : List (List ℕ)) → (xs ≡ [] → ⊥) → AreCutShort (xs ++ ys) → AreCutShort xs
cut_front [] ys some cut = absurd (some refl)
cut_front (x ∷ xs) ys some cut =
    let rest : xs ++ ys ≡ cut.pieces = same_rest x (head_bytes cut.head) (xs ++ ys) cut.pieces cut.parts in
    record {
      head = cut.head;
      pieces = xs;
      parts = ap (λ (l : List ℕ). l ∷ xs) (same_first x (head_bytes cut.head) (xs ++ ys) cut.pieces cut.parts);
      widths = cut.widths;
      are_pieces = all_listed xs (all_front xs ys (subst (AllByRecursion IsPiece) (sym rest) (listed_all cut.pieces cut.are_pieces)));
      short = omega (arith, cut.short, ap length rest, length-append xs ys);
    }

none_cut : AreCutShort [] → ⊥
none_cut cut = omega (arith, ap length cut.parts)

-- the pieces of a snapshot, and what follows them, where these follow its head
split_rest : (xs ys pieces more : List (List ℕ)) → xs ++ ys ≡ pieces ++ more → length pieces ≤ length xs → xs ≡ pieces ++ drop (length pieces) xs
split_rest xs ys pieces more same le =
    let front : take (length pieces) xs ≡ pieces = sym (take-append-le (length pieces) xs ys le) ∙ ap (take (length pieces)) same ∙ take_at pieces more (length pieces) refl in
    sym (take-append-drop (length pieces) xs) ∙ ap (λ (l : List (List ℕ)). l ++ drop (length pieces) xs) front

front_pieces : (xs ys pieces more : List (List ℕ)) → xs ++ ys ≡ pieces ++ more → length xs ≤ length pieces → xs ≡ take (length xs) pieces
front_pieces xs ys pieces more same le = sym (take_at xs ys (length xs) refl) ∙ ap (take (length xs)) same ∙ take-append-le (length xs) pieces more le

all_taken : (n : ℕ) (ps : List (List ℕ)) → AllByRecursion IsPiece ps → AllByRecursion IsPiece (take n ps)
all_taken n ps all = all_front (take n ps) (drop n ps) (subst (AllByRecursion IsPiece) (sym (take-append-drop n ps)) all)

abbrev Well : List (List ℕ) → SchedulerTables → ℕ → Type 0
Well xs T count = BeginWell trigger_kind xs T count

-- what follows its head
record HasHead (xs : List (List ℕ)) (T : SchedulerTables) (count : ℕ) : Type 0 where
  pub head : Head
  pub widths : HasWidths head
  pub pieces : List (List ℕ)
  pub more : List (List ℕ)
  pub parts : xs ≡ head_bytes head ∷ (pieces ++ more)
  pub many : head.pieces ≡ length pieces
  pub all : AllByRecursion IsPiece pieces

head_of : (xs : List (List ℕ)) (T : SchedulerTables) (count : ℕ) → Well xs T count → HasHead xs T count
head_of xs T count well =
    let s = well.snapshot.1 in
    let b = s.begins in
    record { head = s.head; widths = b.widths; pieces = b.pieces; more = well.snapshot.0; parts = b.parts; many = b.pieces_is; all = subst (AllByRecursion IsPiece) (sym b.cut.cut) (all_pieces s.rows) }

well_front : (xs ys : List (List ℕ)) (T : SchedulerTables) (count : ℕ) → (xs ≡ [] → ⊥) → (AreCutShort xs → ⊥) → Well (xs ++ ys) T count → Well xs T count
well_front [] ys T count some not_cut well = absurd (some refl)
well_front (x ∷ xs) ys T count some not_cut well =
    let s = well.snapshot.1 in
    let b = s.begins in
    let more = well.snapshot.0 in
    let first : x ≡ head_bytes s.head = same_first x (head_bytes s.head) (xs ++ ys) (b.pieces ++ more) b.parts in
    let rest : xs ++ ys ≡ b.pieces ++ more = same_rest x (head_bytes s.head) (xs ++ ys) (b.pieces ++ more) b.parts in
    let all : AllByRecursion IsPiece b.pieces = subst (AllByRecursion IsPiece) (sym b.cut.cut) (all_pieces s.rows) in
    ⊎_elim
    (λ few. absurd (not_cut (record {
      head = s.head;
      pieces = xs;
      parts = ap (λ (l : List ℕ). l ∷ xs) first;
      widths = b.widths;
      are_pieces = all_listed xs (subst (AllByRecursion IsPiece) (sym (front_pieces xs ys b.pieces more rest (omega (arith, few, b.pieces_is)))) (all_taken (length xs) b.pieces all));
      short = few;
    })))
    (λ enough. record {
      before = well.before;
      snapshot = (
        drop (length b.pieces) xs,
        record {
          head = s.head;
          rows = s.rows;
          begins = record {
            widths = b.widths;
            pieces = b.pieces;
            parts = λ i. first i ∷ split_rest xs ys b.pieces more rest (omega (arith, enough, b.pieces_is)) i;
            pieces_is = b.pieces_is;
            cut = b.cut;
          };
          before_is = s.before_is;
          entries_is = s.entries_is;
          numbers_are = s.numbers_are;
          rows_are = s.rows_are;
        },
      );
      counted = well.counted;
      valid = well.valid;
    })
    (cases_lt (length xs) s.head.pieces)

-- a field at the front, and what follows it
once : {A : Type 0} {write : A → List ℕ} {Is : A → Type 0} {read : List ℕ → Read A} {m : ℕ} → IsFormat write Any Is read m → (a b : A) (x y : List ℕ) → Is a → Is b → write a ++ x ≡ write b ++ y → (a ≡ b) × (x ≡ y)
once {A} {write} {Is} {read} f a b x y is_a is_b same =
    let both : ◌≡◌ {A = A × List ℕ} (a, x) (b, y) = ok_is (a, x) (b, y) (sym (f.again a x tt is_a) ∙ ap read same ∙ f.again b y tt is_b) in
    (ap (λ p. p.0) both, ap (λ p. p.1) both)

-- a head says how many pieces there are
pieces_once : (h k : Head) → HasWidths h → HasWidths k → head_bytes h ≡ head_bytes k → h.pieces ≡ k.pieces
pieces_once h k one other same =
    let a = once (number_format wide32) h.payloads k.payloads _ _ one.payloads other.payloads (ap (λ (l : List ℕ). drop 1 l) same) in
    let b = once (number_format wide32) h.entries k.entries _ _ one.entries other.entries a.1 in
    (once (number_format wide32) h.pieces k.pieces _ _ one.pieces other.pieces b.1).0

-- both forms have one head
one_head : (xs cut_pieces rest : List (List ℕ)) (h j : Head) → HasWidths h → HasWidths j → xs ≡ head_bytes h ∷ cut_pieces → xs ≡ head_bytes j ∷ rest → (h.pieces ≡ j.pieces) × (cut_pieces ≡ rest)
one_head xs cut_pieces rest h j hw jw p q =
    let both : head_bytes h ∷ cut_pieces ≡ head_bytes j ∷ rest = sym p ∙ q in
    (pieces_once h j hw jw (same_first (head_bytes h) (head_bytes j) cut_pieces rest both), same_rest (head_bytes h) (head_bytes j) cut_pieces rest both)

not_both : (xs : List (List ℕ)) (T : SchedulerTables) (count : ℕ) → AreCutShort xs → Well xs T count → ⊥
not_both xs T count cut well =
    let h = head_of xs T count well in
    let one = one_head xs cut.pieces (h.pieces ++ h.more) cut.head h.head cut.widths h.widths cut.parts h.parts in
    omega (arith, cut.short, one.0, h.many, ap length one.1, length-append h.pieces h.more)

-- the last payload ends the snapshot
none_more : (xs : List (List ℕ)) (p : List ℕ) (T : SchedulerTables) (count : ℕ) → (xs ≡ []) ⊎ AreCutShort xs → (h : HasHead (xs ++ p ∷ []) T count) → length h.more ≡ 0
none_more xs p T count (inl none) h =
    let one : xs ++ p ∷ [] ≡ p ∷ [] = ap (λ (l : List (List ℕ)). l ++ p ∷ []) none in
    omega (arith, ap length (sym one ∙ h.parts), length-append h.pieces h.more)
none_more xs p T count (inr cut) h =
    let whole : xs ++ p ∷ [] ≡ head_bytes cut.head ∷ (cut.pieces ++ p ∷ []) = ap (λ (l : List (List ℕ)). l ++ p ∷ []) cut.parts in
    let one = one_head (xs ++ p ∷ []) (cut.pieces ++ p ∷ []) (h.pieces ++ h.more) cut.head h.head cut.widths h.widths whole h.parts in
    omega (arith, cut.short, one.0, h.many, ap length one.1, length-append h.pieces h.more, length-append cut.pieces (p ∷ []))

no_records : (xs : List (List ℕ)) (p : List ℕ) (T : SchedulerTables) (count : ℕ) → (xs ≡ []) ⊎ AreCutShort xs → Well (xs ++ p ∷ []) T count → records trigger_kind (xs ++ p ∷ []) ≡ []
no_records xs p T count before well =
    let h = head_of (xs ++ p ∷ []) T count well in
    let none : h.more ≡ [] = no_length h.more (none_more xs p T count before h) in
    let whole : xs ++ p ∷ [] ≡ head_bytes h.head ∷ h.pieces = h.parts ∙ ap (λ (l : List (List ℕ)). head_bytes h.head ∷ l) (ap (λ (l : List (List ℕ)). h.pieces ++ l) none ∙ append-nil h.pieces) in
    ap (records trigger_kind) whole ∙ pieces_none h.pieces h.all

pub trigger_gathered : AreGathered trigger_kind
trigger_gathered = record { cut_front = cut_front; well_front = well_front; not_both = not_both; none_cut = none_cut; no_records = no_records }
