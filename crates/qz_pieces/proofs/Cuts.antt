-- What the cutting gives: groups of rows, each a piece, that are all the rows.
use Rattle.std.proofs.Common.{◌≡◌, ℕ, suc, ◌+◌, ◌<◌, ◌≤◌, true, false, nat_le, List, [], ◌∷◌, ◌++◌, length, map, if◌then◌else◌, refl, sym, ap, subst, ◌∙◌, append_assoc, length-append, arith}
use Rattle.std.specs.Bool.{⊤}
use Rattle.std.specs.List.{fold}
use Rattle.std.proofs.lemmas.Bool.Decides.{nat_tests}
use Rattle.std.proofs.lemmas.List.Sums.{fold-append}
use Rattle.qz_pieces.specs.declared.cutting.TheConstants.{PIECE_LIMIT}
use Rattle.qz_pieces.specs.Pieces.{RowBytes, row_bytes, flat, IsShort, AreShort, piece_of, Cut, nothing, with_row, pieces_of, pieces, joined, IsFullBefore, AreFull, IsGreedy, AreWithin, IsCutOf}
use Rattle.qz_pieces.proofs.Rows.{flat-append, flat_single}

nil_end : (g : List RowBytes) → g ++ [] ≡ g
nil_end [] = refl
nil_end (r ∷ g) = ap (λ (xs : List RowBytes). r ∷ xs) (nil_end g)

le_of : (a b : ℕ) → nat_le a b ≡ true → a ≤ b
le_of a b h = grind (arith, nat_tests)

pub join-append : (gs : List (List RowBytes)) (g : List RowBytes) → joined (gs ++ g ∷ []) ≡ joined gs ++ g
join-append [] g = nil_end g
join-append (h ∷ gs) g = ap (λ (xs : List RowBytes). h ++ xs) (join-append gs g) ∙ sym (append_assoc h (joined gs) g)

pub map-append : (gs : List (List RowBytes)) (g : List RowBytes) → map piece_of (gs ++ g ∷ []) ≡ map piece_of gs ++ piece_of g ∷ []
map-append [] g = refl
map-append (h ∷ gs) g = ap (λ (xs : List (List ℕ)). piece_of h ∷ xs) (map-append gs g)

piece_more : (g : List RowBytes) (r : RowBytes) → piece_of g ++ row_bytes r ≡ piece_of (g ++ r ∷ [])
piece_more g r = ap (λ (xs : List ℕ). 241 ∷ xs) (ap (λ (xs : List ℕ). flat g ++ xs) (sym (flat_single r)) ∙ sym (flat-append g (r ∷ [])))

one_fits : (r : RowBytes) → IsShort r → length (piece_of (r ∷ [])) ≤ PIECE_LIMIT
one_fits r short = let s = short.short in omega (arith, length-append r.bytes [])

pub within_and : (gs : List (List RowBytes)) (g : List RowBytes) → AreWithin gs → length (piece_of g) ≤ PIECE_LIMIT → AreWithin (gs ++ g ∷ [])
within_and [] g all one = (one, tt)
within_and (h ∷ gs) g all one = (all.0, within_and gs g all.1 one)

-- The groups, and the rows of the piece at hand.

-- these groups and then this one, which may be without a row where it is the first
pub IsGreedyBefore : List (List RowBytes) → List RowBytes → Type 0
IsGreedyBefore [] last = ⊤
IsGreedyBefore (g ∷ gs) last = (0 < length g) × AreFull g (gs ++ last ∷ [])

-- a row more in the last group
full_more : (g : List RowBytes) (gs : List (List RowBytes)) (last : List RowBytes) (r : RowBytes) → AreFull g (gs ++ last ∷ []) → AreFull g (gs ++ (last ++ r ∷ []) ∷ [])
full_more g [] [] r full = absurd full.0
full_more g [] (s ∷ last) r full = (full.0, tt)
full_more g (h ∷ gs) last r full = (full.0, full_more h gs last r full.1)

greedy_more : (gs : List (List RowBytes)) (last : List RowBytes) (r : RowBytes) → IsGreedyBefore gs last → IsGreedyBefore gs (last ++ r ∷ [])
unfolding IsGreedyBefore
greedy_more [] last r greedy = tt
greedy_more (g ∷ gs) last r greedy = (greedy.0, full_more g gs last r greedy.1)

-- a group more
full_and : (g : List RowBytes) (gs : List (List RowBytes)) (last : List RowBytes) (r : RowBytes) → AreFull g (gs ++ last ∷ []) → IsFullBefore last (r ∷ []) → AreFull g ((gs ++ last ∷ []) ++ (r ∷ []) ∷ [])
full_and g [] last r full past = (full.0, (past, tt))
full_and g (h ∷ gs) last r full past = (full.0, full_and h gs last r full.1 past)

greedy_and : (gs : List (List RowBytes)) (last : List RowBytes) (r : RowBytes) → IsShort r → IsGreedyBefore gs last → IsFullBefore last (r ∷ []) → IsGreedyBefore (gs ++ last ∷ []) (r ∷ [])
unfolding IsGreedyBefore
greedy_and [] [] r short greedy past = let s = short.short in absurd (omega arith)
greedy_and [] (s ∷ last) r short greedy past = (omega arith, (past, tt))
greedy_and (g ∷ gs) last r short greedy past = (greedy.0, full_and g gs last r greedy.1 past)

none_full : (g : List RowBytes) (gs : List (List RowBytes)) → AreFull g (gs ++ [] ∷ []) → ⊥
none_full g [] full = full.0
none_full g (h ∷ gs) full = none_full h gs full.1

-- the whole, without a last group of no row, and with one of some
greedy_without : (gs : List (List RowBytes)) → IsGreedyBefore gs [] → IsGreedy gs
unfolding IsGreedyBefore
greedy_without [] greedy = tt
greedy_without (g ∷ gs) greedy = absurd (none_full g gs greedy.1)

greedy_with : (gs : List (List RowBytes)) (last : List RowBytes) → 0 < length last → IsGreedyBefore gs last → IsGreedy (gs ++ last ∷ [])
unfolding IsGreedyBefore
greedy_with [] last some greedy = (some, tt)
greedy_with (g ∷ gs) last some greedy = greedy

-- a cut of these rows
pub record Cuts (c : Cut) (rs : List RowBytes) : Type 0 where
  pub groups : List (List RowBytes)
  pub last : List RowBytes
  pub whole : c.whole ≡ map piece_of groups
  pub piece : c.piece ≡ piece_of last
  pub rows : rs ≡ joined groups ++ last
  pub fits : length (piece_of last) ≤ PIECE_LIMIT
  pub within : AreWithin groups
  pub greedy : IsGreedyBefore groups last

-- a row more
joins : (c : Cut) (rs : List RowBytes) (r : RowBytes) → length c.piece + length (row_bytes r) ≤ PIECE_LIMIT → Cuts c rs → Cuts (record { whole = c.whole; piece = c.piece ++ row_bytes r }) (rs ++ r ∷ [])
joins c rs r le k =
    let more : c.piece ++ row_bytes r ≡ piece_of (k.last ++ r ∷ []) = ap (λ (xs : List ℕ). xs ++ row_bytes r) k.piece ∙ piece_more k.last r in
    let long : length (c.piece ++ row_bytes r) ≤ PIECE_LIMIT = omega (arith, length-append c.piece (row_bytes r)) in
    record {
      groups = k.groups;
      last = k.last ++ r ∷ [];
      whole = k.whole;
      piece = more;
      rows = ap (λ (xs : List RowBytes). xs ++ r ∷ []) k.rows ∙ append_assoc (joined k.groups) k.last (r ∷ []);
      fits = subst (λ (xs : List ℕ). length xs ≤ PIECE_LIMIT) more long;
      within = k.within;
      greedy = greedy_more k.groups k.last r k.greedy;
    }

begins : (c : Cut) (rs : List RowBytes) (r : RowBytes) → IsShort r → PIECE_LIMIT < length c.piece + length (row_bytes r) → Cuts c rs → Cuts (record { whole = c.whole ++ c.piece ∷ []; piece = piece_of (r ∷ []) }) (rs ++ r ∷ [])
begins c rs r short past k = record {
  groups = k.groups ++ k.last ∷ [];
  last = r ∷ [];
  whole = ap (λ (xs : List (List ℕ)). xs ++ c.piece ∷ []) k.whole ∙ ap (λ (p : List ℕ). map piece_of k.groups ++ p ∷ []) k.piece ∙ sym (map-append k.groups k.last);
  piece = refl;
  rows = ap (λ (xs : List RowBytes). xs ++ r ∷ []) (k.rows ∙ sym (join-append k.groups k.last));
  fits = one_fits r short;
  within = within_and k.groups k.last k.within k.fits;
  greedy = greedy_and k.groups k.last r short k.greedy (subst (λ (xs : List ℕ). PIECE_LIMIT < length xs + length (row_bytes r)) k.piece past);
}

past_of : (a b : ℕ) → nat_le a b ≡ false → b < a
past_of a b h = grind (arith, nat_tests)

cuts_more : (c : Cut) (rs : List RowBytes) (r : RowBytes) → IsShort r → Cuts c rs → Cuts (with_row c r) (rs ++ r ∷ [])
unfolding with_row
cuts_more c rs r short k = elim (nat_le (length c.piece + length (row_bytes r)) PIECE_LIMIT) as (λ b. nat_le (length c.piece + length (row_bytes r)) PIECE_LIMIT ≡ b → Cuts (if b then record { whole = c.whole; piece = c.piece ++ row_bytes r } else record { whole = c.whole ++ c.piece ∷ []; piece = piece_of (r ∷ []) }) (rs ++ r ∷ [])) [
  | true ↦ λ e. joins c rs r (le_of (length c.piece + length (row_bytes r)) PIECE_LIMIT e) k
  | false ↦ λ e. begins c rs r short (past_of (length c.piece + length (row_bytes r)) PIECE_LIMIT e) k
] refl

cuts_all : (c : Cut) (rs ss : List RowBytes) → AreShort ss → Cuts c rs → Cuts (fold with_row c ss) (rs ++ ss)
cuts_all c rs [] short k = subst (λ (xs : List RowBytes). Cuts c xs) (sym (nil_end rs)) k
cuts_all c rs (s ∷ ss) short k = subst (λ (xs : List RowBytes). Cuts (fold with_row (with_row c s) ss) xs) (append_assoc rs (s ∷ []) ss) (cuts_all (with_row c s) (rs ++ s ∷ []) ss short.1 (cuts_more c rs s short.0 k))

none_left : (g : List RowBytes) → length (piece_of g) ≤ 1 → g ≡ []
none_left [] le = refl
none_left (r ∷ g) le = absurd (omega arith)

some_left : (g : List RowBytes) → 1 < length (piece_of g) → 0 < length g
some_left [] lt = absurd (omega arith)
some_left (r ∷ g) lt = omega arith

ends : (c : Cut) (rs : List RowBytes) → Cuts c rs → IsCutOf (pieces_of c) rs
unfolding pieces_of
ends c rs k = elim (nat_le (length c.piece) 1) as (λ b. nat_le (length c.piece) 1 ≡ b → IsCutOf (if b then c.whole else c.whole ++ c.piece ∷ []) rs) [
  | true ↦ λ e.
      let short : length c.piece ≤ 1 = le_of (length c.piece) 1 e in
      let none : k.last ≡ [] = none_left k.last (subst (λ (p : List ℕ). length p ≤ 1) k.piece short) in
      record {
        groups = k.groups;
        pieces_are = k.whole;
        rows_are = k.rows ∙ ap (λ (xs : List RowBytes). joined k.groups ++ xs) none ∙ nil_end (joined k.groups);
        within = k.within;
        greedy = greedy_without k.groups (subst (λ (xs : List RowBytes). IsGreedyBefore k.groups xs) none k.greedy);
      }
  | false ↦ λ e.
      let long : 1 < length c.piece = past_of (length c.piece) 1 e in
      record {
        groups = k.groups ++ k.last ∷ [];
        pieces_are = ap (λ (xs : List (List ℕ)). xs ++ c.piece ∷ []) k.whole ∙ ap (λ (p : List ℕ). map piece_of k.groups ++ p ∷ []) k.piece ∙ sym (map-append k.groups k.last);
        rows_are = k.rows ∙ sym (join-append k.groups k.last);
        within = within_and k.groups k.last k.within k.fits;
        greedy = greedy_with k.groups k.last (some_left k.last (subst (λ (p : List ℕ). 1 < length p) k.piece long)) k.greedy;
      }
] refl

start : Cuts nothing []
unfolding IsGreedyBefore
start = record { groups = []; last = []; whole = refl; piece = refl; rows = refl; fits = omega arith; within = tt; greedy = tt }

pub cut_is : (rs : List RowBytes) → AreShort rs → IsCutOf (pieces rs) rs
cut_is rs short = ends (fold with_row nothing rs) rs (cuts_all nothing [] rs short start)

-- And back: groups that are cut so are those of the pieces of their rows.

abbrev state : List (List ℕ) → List RowBytes → Cut
state whole g = record { whole = whole; piece = piece_of g }

not_past : (a b : ℕ) → a ≤ b → nat_le a b ≡ true
not_past a b h = grind (arith, nat_tests)

is_past : (a b : ℕ) → b < a → nat_le a b ≡ false
is_past a b h = grind (arith, nat_tests)

row_joins : (whole : List (List ℕ)) (g : List RowBytes) (r : RowBytes) → length (piece_of g) + length (row_bytes r) ≤ PIECE_LIMIT → with_row (state whole g) r ≡ state whole (g ++ r ∷ [])
unfolding with_row
row_joins whole g r le = rw (not_past (length (piece_of g) + length (row_bytes r)) PIECE_LIMIT le) (ap (λ (p : List ℕ). record { whole = whole; piece = p }) (piece_more g r))

row_begins : (whole : List (List ℕ)) (g : List RowBytes) (r : RowBytes) → PIECE_LIMIT < length (piece_of g) + length (row_bytes r) → with_row (state whole g) r ≡ state (whole ++ piece_of g ∷ []) (r ∷ [])
unfolding with_row
row_begins whole g r past = rw (is_past (length (piece_of g) + length (row_bytes r)) PIECE_LIMIT past) refl

length-piece-append : (g h : List RowBytes) → length (piece_of (g ++ h)) ≡ length (piece_of g) + length (flat h)
length-piece-append g h = ap (λ (xs : List ℕ). suc (length xs)) (flat-append g h) ∙ ap suc (length-append (flat g) (flat h)) ∙ omega arith

rows_join : (whole : List (List ℕ)) (g h : List RowBytes) → length (piece_of (g ++ h)) ≤ PIECE_LIMIT → fold with_row (state whole g) h ≡ state whole (g ++ h)
rows_join whole g [] le = ap (state whole) (sym (nil_end g))
rows_join whole g (r ∷ h) le =
    let sum = length-piece-append g (r ∷ h) in
    let own : length (piece_of g) + length (row_bytes r) ≤ PIECE_LIMIT = omega (arith, length-append (row_bytes r) (flat h)) in
    let rest : length (piece_of ((g ++ r ∷ []) ++ h)) ≤ PIECE_LIMIT = subst (λ (xs : List RowBytes). length (piece_of xs) ≤ PIECE_LIMIT) (sym (append_assoc g (r ∷ []) h)) le in
    ap (λ (c : Cut). fold with_row c h) (row_joins whole g r own) ∙ rows_join whole (g ++ r ∷ []) h rest ∙ ap (state whole) (append_assoc g (r ∷ []) h)

group_begins : (whole : List (List ℕ)) (g h : List RowBytes) → IsFullBefore g h → length (piece_of h) ≤ PIECE_LIMIT → fold with_row (state whole g) h ≡ state (whole ++ piece_of g ∷ []) h
group_begins whole g [] full le = absurd full
group_begins whole g (r ∷ h) full le = ap (λ (c : Cut). fold with_row c h) (row_begins whole g r full) ∙ rows_join (whole ++ piece_of g ∷ []) (r ∷ []) h le

state_ends : (whole : List (List ℕ)) (g : List RowBytes) → 0 < length g → pieces_of (state whole g) ≡ whole ++ piece_of g ∷ []
unfolding pieces_of
state_ends whole [] some = absurd (omega arith)
state_ends whole (r ∷ g) some = rw (is_past (length (piece_of (r ∷ g))) 1 (omega arith)) refl

some_row : (g h : List RowBytes) → IsFullBefore g h → 0 < length h
some_row g [] full = absurd full
some_row g (r ∷ h) full = omega arith

groups_cut : (whole : List (List ℕ)) (g : List RowBytes) (gs : List (List RowBytes)) → 0 < length g → AreFull g gs → AreWithin gs → pieces_of (fold with_row (state whole g) (joined gs)) ≡ whole ++ map piece_of (g ∷ gs)
groups_cut whole g [] some full within = state_ends whole g some
groups_cut whole g (h ∷ gs) some full within =
    ap pieces_of (fold-append with_row (state whole g) h (joined gs) ∙ ap (λ (c : Cut). fold with_row c (joined gs)) (group_begins whole g h full.0 within.0))
    ∙ groups_cut (whole ++ piece_of g ∷ []) h gs (some_row g h full.0) full.1 within.1
    ∙ append_assoc whole (piece_of g ∷ []) (map piece_of (h ∷ gs))

pub greedy_is : (gs : List (List RowBytes)) → AreWithin gs → IsGreedy gs → pieces (joined gs) ≡ map piece_of gs
unfolding pieces_of
greedy_is [] within greedy = refl
greedy_is (g ∷ gs) within greedy =
    ap pieces_of (fold-append with_row nothing g (joined gs) ∙ ap (λ (c : Cut). fold with_row c (joined gs)) (rows_join [] [] g within.0)) ∙ groups_cut [] g gs greedy.0 greedy.1 within.1
