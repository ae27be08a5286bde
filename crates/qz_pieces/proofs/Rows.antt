-- Rows one after the other are read in one way.
use Rattle.std.proofs.Common.{◌≡◌, ℕ, ◌/◌, ◌%◌, ◌<◌, List, [], ◌∷◌, ◌++◌, length, Some, refl, sym, ap, subst, ◌∙◌, append_assoc, arith}
use Rattle.qz_pieces.specs.Kinds.{kind_byte, kind_of}
use Rattle.qz_pieces.specs.declared.kinds.RowKind.{RowKind}
use Rattle.qz_pieces.specs.declared.kinds.RowKind.TheVariants.{Job, Trigger, Calendar, Zone, Group, Member, Fired, JobGroup}
use Rattle.qz_pieces.specs.Pieces.{RowBytes, row_bytes, flat, IsShort, AreShort}

pub kind_back : (k : RowKind) → kind_of (kind_byte k) ≡ Some k
kind_back Job = refl
kind_back Trigger = refl
kind_back Calendar = refl
kind_back Zone = refl
kind_back Group = refl
kind_back Member = refl
kind_back Fired = refl
kind_back JobGroup = refl

some_one : (a b : RowKind) → Some a ≡ Some b → a ≡ b
some_one a b same = cc

-- lists of one length, each before some list
record Same (a b c d : List ℕ) : Type 0 where
  pub front : a ≡ c
  pub rest : b ≡ d

same_front : (a b c d : List ℕ) → length a ≡ length c → a ++ b ≡ c ++ d → Same a b c d
same_front [] b [] d n e = record { front = refl; rest = e }
same_front [] b (y ∷ c) d n e = absurd (omega arith)
same_front (x ∷ a) b [] d n e = absurd (omega arith)
same_front (x ∷ a) b (y ∷ c) d n e =
    let head : x ≡ y = cc in
    let tail : a ++ b ≡ c ++ d = cc in
    let more = same_front a b c d (omega arith) tail in
    record { front = ap (λ (z : ℕ). z ∷ a) head ∙ ap (λ (zs : List ℕ). y ∷ zs) more.front; rest = more.rest }

-- a kind has a byte of its own
one_kind : (a b : RowKind) → kind_byte a ≡ kind_byte b → a ≡ b
one_kind a b same = some_one a b (sym (kind_back a) ∙ ap kind_of same ∙ kind_back b)

length_from : (n m : ℕ) → n / 256 ≡ m / 256 → n % 256 ≡ m % 256 → n ≡ m
length_from n m high low = omega arith

-- the first rows are the same
pub record SameRow (r s : RowBytes) (a b : List ℕ) : Type 0 where
  pub row : r ≡ s
  pub rest : a ≡ b

abbrev pub row_with : RowKind → List ℕ → RowBytes
row_with kind bytes = record { kind = kind; bytes = bytes }

pub same_row : (r s : RowBytes) (a b : List ℕ) → row_bytes r ++ a ≡ row_bytes s ++ b → SameRow r s a b
same_row r s a b e =
    let kinds : r.kind ≡ s.kind = one_kind r.kind s.kind (cc) in
    let high : length r.bytes / 256 ≡ length s.bytes / 256 = cc in
    let low : length r.bytes % 256 ≡ length s.bytes % 256 = cc in
    let more : r.bytes ++ a ≡ s.bytes ++ b = cc in
    let same = same_front r.bytes a s.bytes b (length_from (length r.bytes) (length s.bytes) high low) more in
    record { row = ap (λ (k : RowKind). row_with k r.bytes) kinds ∙ ap (λ (xs : List ℕ). row_with s.kind xs) same.front; rest = same.rest }

pub flat-append : (rs ss : List RowBytes) → flat (rs ++ ss) ≡ flat rs ++ flat ss
flat-append [] ss = refl
flat-append (r ∷ rs) ss = ap (λ (xs : List ℕ). row_bytes r ++ xs) (flat-append rs ss) ∙ sym (append_assoc (row_bytes r) (flat rs) (flat ss))

-- rows whose bytes begin with those of others begin with them
pub record Goes (rs ss : List RowBytes) (rest : List ℕ) : Type 0 where
  pub more : List RowBytes
  pub rows : rs ≡ ss ++ more
  pub bytes : flat more ≡ rest

pub goes_on : (rs ss : List RowBytes) (rest : List ℕ) → flat rs ≡ flat ss ++ rest → Goes rs ss rest
goes_on rs [] rest e = record { more = rs; rows = refl; bytes = e }
goes_on [] (s ∷ ss) rest e = absurd (cc)
goes_on (r ∷ rs) (s ∷ ss) rest e =
    let same = same_row r s (flat rs) (flat ss ++ rest) (e ∙ append_assoc (row_bytes s) (flat ss) rest) in
    let on = goes_on rs ss rest same.rest in
    record { more = on.more; rows = ap (λ (x : RowBytes). x ∷ rs) same.row ∙ ap (λ (xs : List RowBytes). s ∷ xs) on.rows; bytes = on.bytes }

pub flat_one : (rs ss : List RowBytes) → flat rs ≡ flat ss → rs ≡ ss
flat_one [] [] e = refl
flat_one [] (s ∷ ss) e = absurd (cc)
flat_one (r ∷ rs) [] e = absurd (cc)
flat_one (r ∷ rs) (s ∷ ss) e =
    let same = same_row r s (flat rs) (flat ss) e in
    ap (λ (x : RowBytes). x ∷ rs) same.row ∙ ap (λ (xs : List RowBytes). s ∷ xs) (flat_one rs ss same.rest)

pub append_nil : (xs : List ℕ) → xs ++ [] ≡ xs
append_nil [] = refl
append_nil (x ∷ xs) = ap (λ (ys : List ℕ). x ∷ ys) (append_nil xs)

short_after : (rows : List RowBytes) (r : RowBytes) (more : List RowBytes) → AreShort (rows ++ r ∷ more) → IsShort r
short_after [] r more short = short.0
short_after (s ∷ rows) r more short = short_after rows r more short.1

short_and : (rows : List RowBytes) (r : RowBytes) → AreShort rows → IsShort r → AreShort (rows ++ r ∷ [])
short_and [] r short one = (one, tt)
short_and (s ∷ rows) r short one = (short.0, short_and rows r short.1 one)

no_more : (rows more : List RowBytes) (rest : List ℕ) → AreShort (rows ++ more) → flat more ≡ rest → 0 < length rest → ((r : RowBytes) (behind : List ℕ) → IsShort r → rest ≡ row_bytes r ++ behind → ⊥) → ⊥
no_more rows [] rest short bytes some none = absurd (let e : [] ≡ rest = bytes in let n : length rest ≡ 0 = sym (ap length e) in omega arith)
no_more rows (r ∷ more) rest short bytes some none = none r (flat more) (short_after rows r more short) (sym bytes)

-- bytes that go on with no row are no rows
pub stuck : (rs rows : List RowBytes) (rest piece : List ℕ) → piece ≡ 241 ∷ (flat rows ++ rest) → AreShort rs → piece ≡ 241 ∷ flat rs → 0 < length rest → ((r : RowBytes) (behind : List ℕ) → IsShort r → rest ≡ row_bytes r ++ behind → ⊥) → ⊥
stuck rs rows rest piece reads short whole some none =
    let same : 241 ∷ flat rs ≡ 241 ∷ (flat rows ++ rest) = sym whole ∙ reads in
    let tails : flat rs ≡ flat rows ++ rest = cc in
    let on = goes_on rs rows rest tails in
    no_more rows on.more rest (subst AreShort on.rows short) on.bytes some none

-- what was read so far
pub record ReadSo (piece : List ℕ) (rows : List RowBytes) (rest : List ℕ) : Type 0 where
  pub reads : piece ≡ 241 ∷ (flat rows ++ rest)
  pub short : AreShort rows

pub flat_single : (r : RowBytes) → flat (r ∷ []) ≡ row_bytes r
flat_single r = append_nil (row_bytes r)

pub row_more : (piece : List ℕ) (rows new : List RowBytes) (r : RowBytes) (rest after : List ℕ) → piece ≡ 241 ∷ (flat rows ++ rest) → AreShort rows → IsShort r → rest ≡ row_bytes r ++ after → new ≡ rows ++ r ∷ [] → ReadSo piece new after
row_more piece rows new r rest after reads short one is put = record {
  reads = reads ∙ ap (λ (xs : List ℕ). 241 ∷ xs)
      (ap (λ (xs : List ℕ). flat rows ++ xs) is ∙ sym (append_assoc (flat rows) (row_bytes r) after)
      ∙ ap (λ (xs : List ℕ). xs ++ after) (ap (λ (xs : List ℕ). flat rows ++ xs) (sym (flat_single r)) ∙ sym (flat-append rows (r ∷ [])) ∙ ap flat (sym put)));
  short = subst AreShort (sym put) (short_and rows r short one);
}
