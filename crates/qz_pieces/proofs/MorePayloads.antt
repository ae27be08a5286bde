-- A payload more.
use Rattle.std.proofs.Common.{◌≡◌, ℕ, suc, ◌+◌, ◌<◌, ◌≤◌, true, false, nat_lt, Option, Some, None, List, [], ◌∷◌, ◌++◌, length, map, take, drop, if◌then◌else◌, refl, sym, ap, subst, ◌∙◌, append_assoc, length-append, arith}
use Rattle.std.specs.Bool.{⊤}
use Rattle.std.proofs.lemmas.Bool.Decides.{nat_tests}
use Rattle.qz_pieces.specs.Kinds.{kind_byte}
use Rattle.qz_pieces.specs.declared.cutting.TheConstants.{PIECE_LIMIT}
use Rattle.qz_pieces.specs.Pieces.{RowBytes, row_bytes, flat, AreShort, piece_of, pieces, joined, pieces_of, BeginsAfter, AreFull, IsGreedy, AreWithin, IsCutOf}
use Rattle.qz_pieces.specs.Payloads.{AreFromKind, AreInOrder, ArePiecesOf, ArePieces, MayFollow, kind_after, last_kind}
use Rattle.qz_pieces.proofs.Rows.{flat_one}
use Rattle.qz_pieces.proofs.Cuts.{cut_is, greedy_is, join-append, map-append, within_and}

-- The bytes of the last payload. Before the first one it is as if a full piece stood there.
unfoldable pub bytes_before : List (List ℕ) → ℕ
bytes_before [] = PIECE_LIMIT
bytes_before (p ∷ []) = length p
bytes_before (p ∷ q ∷ ps) = bytes_before (q ∷ ps)

pub bytes-before-append : (ps : List (List ℕ)) (p : List ℕ) → bytes_before (ps ++ p ∷ []) ≡ length p
unfolding bytes_before
bytes-before-append [] p = refl
bytes-before-append (q ∷ []) p = refl
bytes-before-append (q ∷ r ∷ ps) p = bytes-before-append (r ∷ ps) p

-- Kinds.

pub kinds_parts : (least : ℕ) (rows more : List RowBytes) → AreFromKind least (rows ++ more) → AreFromKind least rows × AreFromKind (kind_after least rows) more
kinds_parts least [] more order = (tt, order)
kinds_parts least (r ∷ rows) more order = let on = kinds_parts (kind_byte r.kind) rows more order.1 in ((order.0, on.0), on.1)

pub kinds_join : (least : ℕ) (rows more : List RowBytes) → AreFromKind least rows → AreFromKind (kind_after least rows) more → AreFromKind least (rows ++ more)
kinds_join least [] more order next = next
kinds_join least (r ∷ rows) more order next = (order.0, kinds_join (kind_byte r.kind) rows more order.1 next)

pub kind-after-append : (least : ℕ) (rows more : List RowBytes) → kind_after least (rows ++ more) ≡ kind_after (kind_after least rows) more
kind-after-append least [] more = refl
kind-after-append least (r ∷ rows) more = kind-after-append (kind_byte r.kind) rows more

not_less : (a b : ℕ) → nat_lt a b ≡ false → b ≤ a
not_less a b h = grind (arith, nat_tests)

is_less : (a b : ℕ) → nat_lt a b ≡ true → a < b
is_less a b h = grind (arith, nat_tests)

-- what the last kind tells of the rows
pub record Kinds (least last : ℕ) (rows : List RowBytes) : Type 0 where
  pub order : AreFromKind least rows
  pub last_is : last ≡ kind_after least rows

pub kinds_found : (least last : ℕ) (rows : List RowBytes) → last_kind least rows ≡ Some last → Kinds least last rows
kinds_found least last [] is = record { order = tt; last_is = cc }
kinds_found least last (r ∷ rows) is = elim (nat_lt (kind_byte r.kind) least) as (λ b. nat_lt (kind_byte r.kind) least ≡ b → (if b then None else last_kind (kind_byte r.kind) rows) ≡ Some last → Kinds least last (r ∷ rows)) [
  | true ↦ λ e none. absurd (cc)
  | false ↦ λ e found.
      let on = kinds_found (kind_byte r.kind) last rows found in
      record { order = (not_less (kind_byte r.kind) least e, on.order); last_is = on.last_is }
] refl is

pub kinds_wrong : (least : ℕ) (rows : List RowBytes) → last_kind least rows ≡ None → AreFromKind least rows → ⊥
kinds_wrong least [] is order = absurd (cc)
kinds_wrong least (r ∷ rows) is order = elim (nat_lt (kind_byte r.kind) least) as (λ b. nat_lt (kind_byte r.kind) least ≡ b → (if b then None else last_kind (kind_byte r.kind) rows) ≡ None → ⊥) [
  | true ↦ λ e none. let lt = is_less (kind_byte r.kind) least e in let le = order.0 in absurd (omega arith)
  | false ↦ λ e found. kinds_wrong (kind_byte r.kind) rows found order.1
] refl is

-- Groups.

pub piece_one : (g h : List RowBytes) → piece_of g ≡ piece_of h → g ≡ h
piece_one g h e = flat_one g h (cc)

groups_one : (gs hs : List (List RowBytes)) → map piece_of gs ≡ map piece_of hs → gs ≡ hs
groups_one [] [] e = refl
groups_one [] (h ∷ hs) e = absurd (cc)
groups_one (g ∷ gs) [] e = absurd (cc)
groups_one (g ∷ gs) (h ∷ hs) e =
    let first : piece_of g ≡ piece_of h = cc in
    let rest : map piece_of gs ≡ map piece_of hs = cc in
    ap (λ (x : List RowBytes). x ∷ gs) (piece_one g h first) ∙ ap (λ (xs : List (List RowBytes)). h ∷ xs) (groups_one gs hs rest)

-- groups whose last one is told
record LastGroup (ps : List (List ℕ)) (p : List ℕ) (groups : List (List RowBytes)) : Type 0 where
  pub front : List (List RowBytes)
  pub last : List RowBytes
  pub groups_are : groups ≡ front ++ last ∷ []
  pub pieces_are : ps ≡ map piece_of front
  pub piece_is : p ≡ piece_of last

last_group : (ps : List (List ℕ)) (p : List ℕ) (groups : List (List RowBytes)) → ps ++ p ∷ [] ≡ map piece_of groups → LastGroup ps p groups
last_group [] p [] e = absurd (cc)
last_group [] p (g ∷ []) e = record { front = []; last = g; groups_are = refl; pieces_are = refl; piece_is = cc }
last_group [] p (g ∷ h ∷ groups) e = absurd (cc)
last_group (q ∷ ps) p [] e = absurd (cc)
last_group (q ∷ ps) p (g ∷ groups) e =
    let first : q ≡ piece_of g = cc in
    let rest : ps ++ p ∷ [] ≡ map piece_of groups = cc in
    let on = last_group ps p groups rest in
    record {
      front = g ∷ on.front;
      last = on.last;
      groups_are = ap (λ (xs : List (List RowBytes)). g ∷ xs) on.groups_are;
      pieces_are = ap (λ (x : List ℕ). x ∷ ps) first ∙ ap (λ (xs : List (List ℕ)). piece_of g ∷ xs) on.pieces_are;
      piece_is = on.piece_is;
    }

within_parts : (gs : List (List RowBytes)) (g : List RowBytes) → AreWithin (gs ++ g ∷ []) → AreWithin gs × (length (piece_of g) ≤ PIECE_LIMIT)
within_parts [] g all = (tt, all.0)
within_parts (h ∷ gs) g all = let on = within_parts gs g all.1 in ((all.0, on.0), on.1)

short_parts : (rows more : List RowBytes) → AreShort (rows ++ more) → AreShort rows × AreShort more
short_parts [] more short = (tt, short)
short_parts (r ∷ rows) more short = let on = short_parts rows more short.1 in ((short.0, on.0), on.1)

short_join : (rows more : List RowBytes) → AreShort rows → AreShort more → AreShort (rows ++ more)
short_join [] more short next = next
short_join (r ∷ rows) more short next = (short.0, short_join rows more short.1 next)

full_parts : (h : List RowBytes) (gs : List (List RowBytes)) (g : List RowBytes) → AreFull h (gs ++ g ∷ []) → AreFull h gs × BeginsAfter (bytes_before (map piece_of (h ∷ gs))) g
unfolding bytes_before
full_parts h [] g full = (tt, full.0)
full_parts h (k ∷ gs) g full = let on = full_parts k gs g full.1 in ((full.0, on.0), on.1)

full_join : (h : List RowBytes) (gs : List (List RowBytes)) (g : List RowBytes) → AreFull h gs → BeginsAfter (bytes_before (map piece_of (h ∷ gs))) g → AreFull h (gs ++ g ∷ [])
unfolding bytes_before
full_join h [] g full next = (next, tt)
full_join h (k ∷ gs) g full next = (full.0, full_join k gs g full.1 next)

first_begins : (g : List RowBytes) → 0 < length g → BeginsAfter PIECE_LIMIT g
first_begins [] some = absurd (omega arith)
first_begins (r ∷ g) some = omega arith

some_begins : (before : ℕ) (g : List RowBytes) → BeginsAfter before g → 0 < length g
some_begins before [] begins = absurd begins
some_begins before (r ∷ g) begins = omega arith

greedy_parts : (gs : List (List RowBytes)) (g : List RowBytes) → IsGreedy (gs ++ g ∷ []) → IsGreedy gs × BeginsAfter (bytes_before (map piece_of gs)) g
unfolding bytes_before
greedy_parts [] g greedy = (tt, first_begins g greedy.0)
greedy_parts (h ∷ gs) g greedy = let on = full_parts h gs g greedy.1 in ((greedy.0, on.0), on.1)

greedy_join : (gs : List (List RowBytes)) (g : List RowBytes) → IsGreedy gs → BeginsAfter (bytes_before (map piece_of gs)) g → IsGreedy (gs ++ g ∷ [])
unfolding bytes_before
greedy_join [] g greedy next = (some_begins PIECE_LIMIT g next, tt)
greedy_join (h ∷ gs) g greedy next = (greedy.0, full_join h gs g greedy.1 next)

-- Payloads.

pub pieces_one : (ps : List (List ℕ)) (rows others : List RowBytes) → ArePiecesOf ps rows → ArePiecesOf ps others → rows ≡ others
pieces_one ps rows others are also =
    let a : IsCutOf (pieces rows) rows = cut_is rows are.short in
    let b : IsCutOf (pieces others) others = cut_is others also.short in
    a.rows_are ∙ ap joined (groups_one a.groups b.groups (sym a.pieces_are ∙ sym are.cut ∙ also.cut ∙ b.pieces_are)) ∙ sym b.rows_are

-- payloads of rows, without the last one
pub record Parts (ps : List (List ℕ)) (p : List ℕ) (rows : List RowBytes) : Type 0 where
  pub front : List RowBytes
  pub last : List RowBytes
  pub are : ArePiecesOf ps front
  pub follows : MayFollow (bytes_before ps) (kind_after 0 front) p last

pub pieces_parts : (ps : List (List ℕ)) (p : List ℕ) (rows : List RowBytes) → ArePiecesOf (ps ++ p ∷ []) rows → Parts ps p rows
pieces_parts ps p rows are =
    let cut : IsCutOf (pieces rows) rows = cut_is rows are.short in
    let l : LastGroup ps p cut.groups = last_group ps p cut.groups (are.cut ∙ cut.pieces_are) in
    let within = within_parts l.front l.last (subst AreWithin l.groups_are cut.within) in
    let greedy = greedy_parts l.front l.last (subst IsGreedy l.groups_are cut.greedy) in
    let rows_are : rows ≡ joined l.front ++ l.last = cut.rows_are ∙ ap joined l.groups_are ∙ join-append l.front l.last in
    let short = short_parts (joined l.front) l.last (subst AreShort rows_are are.short) in
    let order = kinds_parts 0 (joined l.front) l.last (subst (AreFromKind 0) rows_are are.order) in
    record {
      front = joined l.front;
      last = l.last;
      are = record { short = short.0; order = order.0; cut = l.pieces_are ∙ sym (greedy_is l.front within.0 greedy.0) };
      follows = record {
        short = short.1;
        piece_is = l.piece_is;
        within = subst (λ (x : List ℕ). length x ≤ PIECE_LIMIT) (sym l.piece_is) within.1;
        begins = subst (λ (xs : List (List ℕ)). BeginsAfter (bytes_before xs) l.last) (sym l.pieces_are) greedy.1;
        order = order.1;
      };
    }

pub pieces_join : (ps : List (List ℕ)) (p : List ℕ) (rows more : List RowBytes) → ArePiecesOf ps rows → MayFollow (bytes_before ps) (kind_after 0 rows) p more → ArePiecesOf (ps ++ p ∷ []) (rows ++ more)
pieces_join ps p rows more are follows =
    let cut : IsCutOf (pieces rows) rows = cut_is rows are.short in
    let ps_are : ps ≡ map piece_of cut.groups = are.cut ∙ cut.pieces_are in
    let long : length (piece_of more) ≤ PIECE_LIMIT = subst (λ (x : List ℕ). length x ≤ PIECE_LIMIT) follows.piece_is follows.within in
    let within = within_and cut.groups more cut.within long in
    let greedy = greedy_join cut.groups more cut.greedy (subst (λ (xs : List (List ℕ)). BeginsAfter (bytes_before xs) more) ps_are follows.begins) in
    let all : rows ++ more ≡ joined (cut.groups ++ more ∷ []) = ap (λ (xs : List RowBytes). xs ++ more) cut.rows_are ∙ sym (join-append cut.groups more) in
    record {
      short = short_join rows more are.short follows.short;
      order = kinds_join 0 rows more are.order follows.order;
      cut = ap (λ (xs : List (List ℕ)). xs ++ p ∷ []) ps_are ∙ ap (λ (x : List ℕ). map piece_of cut.groups ++ x ∷ []) follows.piece_is ∙ sym (map-append cut.groups more) ∙ sym (greedy_is (cut.groups ++ more ∷ []) within greedy) ∙ sym (ap pieces all);
    }

pub no_payloads : ArePiecesOf [] []
unfolding pieces_of
no_payloads = record { short = tt; order = tt; cut = refl }

-- a payload that can't follow
pub stuck_at : (ps : List (List ℕ)) (p : List ℕ) (rows : List RowBytes) → ArePiecesOf ps rows → ((more : List RowBytes) → MayFollow (bytes_before ps) (kind_after 0 rows) p more → ⊥) → (others : List RowBytes) → ArePiecesOf (ps ++ p ∷ []) others → ⊥
stuck_at ps p rows are none others all =
    let parts : Parts ps p others = pieces_parts ps p others all in
    let same : parts.front ≡ rows = pieces_one ps parts.front rows parts.are are in
    none parts.last (subst (λ (xs : List RowBytes). MayFollow (bytes_before ps) (kind_after 0 xs) p parts.last) same parts.follows)

nil_last : (ps : List (List ℕ)) → ps ++ [] ≡ ps
nil_last [] = refl
nil_last (p ∷ ps) = ap (λ (xs : List (List ℕ)). p ∷ xs) (nil_last ps)

-- payloads whose first ones are no pieces
pub none_after : (ps qs : List (List ℕ)) → ((rows : List RowBytes) → ArePiecesOf ps rows → ⊥) → (rows : List RowBytes) → ArePiecesOf (ps ++ qs) rows → ⊥
none_after ps [] none rows are = none rows (subst (λ (xs : List (List ℕ)). ArePiecesOf xs rows) (nil_last ps) are)
none_after ps (q ∷ qs) none rows are =
    none_after (ps ++ q ∷ []) qs (λ others all. let parts : Parts ps q others = pieces_parts ps q others all in none parts.front parts.are) rows
    (subst (λ (xs : List (List ℕ)). ArePiecesOf xs rows) (sym (append_assoc ps (q ∷ []) qs)) are)
