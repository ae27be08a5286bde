-- The payload at which reading stops.
use Rattle.std.proofs.Common.{◌≡◌, ℕ, zero, suc, ◌+◌, ◌<◌, ◌≤◌, ◌↔◌, Bool, true, false, Option, Some, None, List, [], ◌∷◌, ◌++◌, length, map, take, drop, get_or, IsTrue, refl, sym, ap, subst, ◌∙◌, arith}
use Rattle.std.specs.Prelude.{IfNone, IfSome}
use Rattle.std.proofs.lemmas.List.{take-append-drop}
use Rattle.qz_pieces.specs.declared.cutting.TheConstants.{PIECE_LIMIT}
use Rattle.qz_pieces.specs.Pieces.{RowBytes, AreShort, piece_of, BeginsAfter}
use Rattle.qz_pieces.specs.Payloads.{AreFromKind, ArePiecesOf, ArePieces, IsFirstBad, MayFollow, kind_after, last_kind}
use Rattle.qz_pieces.proofs.MorePayloads.{Kinds, kinds_found, kinds_wrong, bytes_before, bytes-before-append, kind-after-append, piece_one, no_payloads, pieces_join, stuck_at, none_after}

-- the payloads up to one that was read
pub next_at : {X Y : Type 0} (f : X → Y) (xs : List X) (i : ℕ) (d : X) → i < length xs → take (suc i) (map f xs) ≡ take i (map f xs) ++ f (get_or xs i d) ∷ []
next_at f [] i d lt = absurd (omega arith)
next_at f (x ∷ xs) zero d lt = refl
next_at f (x ∷ xs) (suc i) d lt = ap (λ ys. f x ∷ ys) (next_at f xs i d (omega arith))

pub none_is : {A : Type 0} (o : Option A) (P : Type 0) → o ≡ None → IfNone o P → P
none_is (Some x) P is none = absurd (cc)
none_is None P is none = none

pub some_is : {A : Type 0} (o : Option A) (x : A) (P : A → Type 0) → o ≡ Some x → IfSome o P → P x
some_is (Some y) x P is some = subst P (some_one y x is) some
  where
    some_one : {A : Type 0} (y x : A) → Some y ≡ Some x → y ≡ x
    some_one y x is = cc
some_is None x P is some = absurd (cc)

-- Whether rows that were read may stand there is what the tests of them say, and no others are read.

pub too_long : (before least : ℕ) (piece : List ℕ) → PIECE_LIMIT < length piece → (others : List RowBytes) → MayFollow before least piece others → ⊥
too_long before least piece long others m = let w = m.within in absurd (omega arith)

pub no_piece : (before least : ℕ) (piece : List ℕ) → ((rows : List RowBytes) → AreShort rows → piece ≡ piece_of rows → ⊥) → (others : List RowBytes) → MayFollow before least piece others → ⊥
no_piece before least piece none others m = none others m.short m.piece_is

pub begins_not : (before least : ℕ) (piece : List ℕ) (rows : List RowBytes) (b : Bool) → piece ≡ piece_of rows → IsTrue b ↔ BeginsAfter before rows → b ≡ false → (others : List RowBytes) → MayFollow before least piece others → ⊥
begins_not before least piece rows b is told not_so others m =
    let so : b ≡ true = told.1 (subst (BeginsAfter before) (piece_one others rows (sym m.piece_is ∙ is)) m.begins) in
    absurd (cc)

pub order_not : (before least : ℕ) (piece : List ℕ) (rows : List RowBytes) → piece ≡ piece_of rows → last_kind least rows ≡ None → (others : List RowBytes) → MayFollow before least piece others → ⊥
order_not before least piece rows is none others m = kinds_wrong least rows none (subst (λ (xs : List RowBytes). AreFromKind least xs) (piece_one others rows (sym m.piece_is ∙ is)) m.order)

pub may_follow : (before least last : ℕ) (piece : List ℕ) (rows : List RowBytes) (b : Bool) → AreShort rows → piece ≡ piece_of rows → length piece ≤ PIECE_LIMIT → IsTrue b ↔ BeginsAfter before rows → b ≡ true → last_kind least rows ≡ Some last → MayFollow before least piece rows × (last ≡ kind_after least rows)
may_follow before least last piece rows b short is within told so found =
    let k : Kinds least last rows = kinds_found least last rows found in
    (record { short = short; piece_is = is; within = within; begins = told.0 so; order = k.order }, k.last_is)

-- what a reader knows at a place
pub record ReadTo (ps : List (List ℕ)) (place before kind : ℕ) (rows : List RowBytes) : Type 0 where
  pub are : ArePiecesOf (take place ps) rows
  pub before_is : before ≡ bytes_before (take place ps)
  pub kind_is : kind ≡ kind_after 0 rows

pub reads_none : (ps : List (List ℕ)) (rows : List RowBytes) → rows ≡ [] → ReadTo ps 0 PIECE_LIMIT 0 rows
unfolding bytes_before
reads_none ps rows none = subst (ReadTo ps 0 PIECE_LIMIT 0) (sym none) (record { are = no_payloads; before_is = refl; kind_is = refl })

at_hand : (ps : List (List ℕ)) (place before kind : ℕ) (rows : List RowBytes) (p : List ℕ) (more : List RowBytes) → ReadTo ps place before kind rows → MayFollow before kind p more → MayFollow (bytes_before (take place ps)) (kind_after 0 rows) p more
at_hand ps place before kind rows p more k m = record {
  short = m.short;
  piece_is = m.piece_is;
  within = m.within;
  begins = subst (λ n. BeginsAfter n more) k.before_is m.begins;
  order = subst (λ n. AreFromKind n more) k.kind_is m.order;
}

back : (ps : List (List ℕ)) (place before kind : ℕ) (rows : List RowBytes) (p : List ℕ) (more : List RowBytes) → ReadTo ps place before kind rows → MayFollow (bytes_before (take place ps)) (kind_after 0 rows) p more → MayFollow before kind p more
back ps place before kind rows p more k m = record {
  short = m.short;
  piece_is = m.piece_is;
  within = m.within;
  begins = subst (λ n. BeginsAfter n more) (sym k.before_is) m.begins;
  order = subst (λ n. AreFromKind n more) (sym k.kind_is) m.order;
}

pub read_more : (ps : List (List ℕ)) (place before kind last : ℕ) (rows : List RowBytes) (p : List ℕ) (more new : List RowBytes) → ReadTo ps place before kind rows → take (suc place) ps ≡ take place ps ++ p ∷ [] → MayFollow before kind p more → last ≡ kind_after kind more → new ≡ rows ++ more → ReadTo ps (place + 1) (length p) last new
read_more ps place before kind last rows p more new k next m last_is new_is = subst (λ n. ReadTo ps n (length p) last new) one_more (record {
  are = subst (λ (xs : List (List ℕ)). ArePiecesOf xs new) (sym next) (subst (ArePiecesOf (take place ps ++ p ∷ [])) (sym new_is) (pieces_join (take place ps) p rows more k.are (at_hand ps place before kind rows p more k m)));
  before_is = sym (bytes-before-append (take place ps) p) ∙ ap bytes_before (sym next);
  kind_is = last_is ∙ ap (λ n. kind_after n more) k.kind_is ∙ sym (kind-after-append 0 rows more) ∙ ap (kind_after 0) (sym new_is);
})
  where
    one_more : suc place ≡ place + 1
    one_more = omega arith

pub first_bad : (ps : List (List ℕ)) (place before kind : ℕ) (rows : List RowBytes) (p : List ℕ) → place < length ps → ReadTo ps place before kind rows → take (suc place) ps ≡ take place ps ++ p ∷ [] → ((more : List RowBytes) → MayFollow before kind p more → ⊥) → IsFirstBad ps place
first_bad ps place before kind rows p lt k next none = record {
  there = lt;
  before = record { rows = rows; are = k.are };
  bad = λ others all. stuck_at (take place ps) p rows k.are (λ more m. none more (back ps place before kind rows p more k m)) others (subst (λ (xs : List (List ℕ)). ArePiecesOf xs others) next all);
}

pub none_at_all : (ps : List (List ℕ)) (place : ℕ) → IsFirstBad ps place → (rows : List RowBytes) → ArePiecesOf ps rows → ⊥
none_at_all ps place first rows are = none_after (take (suc place) ps) (drop (suc place) ps) first.bad rows (subst (λ (xs : List (List ℕ)). ArePiecesOf xs rows) (sym (take-append-drop (suc place) ps)) are)
