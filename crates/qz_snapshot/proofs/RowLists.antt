-- Rows of one kind, one after the other.
use Rattle.std.proofs.Common.{◌≡◌, ℕ, suc, zero, ◌+◌, ◌<◌, List, [], ◌∷◌, ◌++◌, length, take, drop, get_or, map, refl, sym, ap, subst, ◌∙◌, arith}
use Rattle.std.specs.Prelude.{fold}
use Rattle.std.specs.List.{AllByRecursion, AllZip}
use Rattle.qz_values.specs.declared.versions.Version.{Version}
use Rattle.qz_values.specs.declared.versions.Version.TheVariants.{Two}
use Rattle.qz_codec.specs.Records.{recorded, IsRecord}
use Rattle.qz_pieces.specs.declared.kinds.RowKind.{RowKind}
use Rattle.qz_pieces.specs.Pieces.{RowBytes, Cut, IsShort, AreShort, with_row}
use Rattle.qz_snapshot.specs.Rows.{of_kind, written, BeginsOther, BeginWith}

-- ---- into pieces

cut_more : {A : Type 0} (kind : RowKind) (fields : Version → A → List ℕ) (c : Cut) (xs : List A) (x : A)
    → fold with_row c (of_kind kind (written fields (xs ++ x ∷ []))) ≡ with_row (fold with_row c (of_kind kind (written fields xs))) (record { kind = kind; bytes = recorded fields Two x })
cut_more kind fields c [] x = refl
cut_more kind fields c (y ∷ xs) x = cut_more kind fields (with_row c (record { kind = kind; bytes = recorded fields Two y })) xs x

pub all_more : {A : Type 0} (P : A → Type 0) (xs : List A) (x : A) → AllByRecursion P xs → P x → AllByRecursion P (xs ++ x ∷ [])
all_more P [] x all is = (is, tt)
all_more P (y ∷ xs) x all is = (all.0, all_more P xs x all.1 is)

next : {X Y : Type 0} (f : X → Y) (xs : List X) (i : ℕ) (d : X) → i < length xs → take (suc i) (map f xs) ≡ take i (map f xs) ++ f (get_or xs i d) ∷ []
next f [] i d lt = absurd (omega arith)
next f (x ∷ xs) zero d lt = refl
next f (x ∷ xs) (suc i) d lt = ap (λ ys. f x ∷ ys) (next f xs i d (omega arith))

pub taken : {X Y : Type 0} (f : X → Y) (xs : List X) (i : ℕ) (d : X) → i < length xs → take (i + 1) (map f xs) ≡ take i (map f xs) ++ f (get_or xs i d) ∷ []
taken f xs i d lt =
    let same : i + 1 ≡ suc i = omega arith in
    ap (λ n. take n (map f xs)) same ∙ next f xs i d lt

pub cut_on : {A : Type 0} (kind : RowKind) (fields : Version → A → List ℕ) (c d e : Cut) (xs ys : List A) (x : A) → ys ≡ xs ++ x ∷ [] → d ≡ fold with_row c (of_kind kind (written fields xs))
    → e ≡ with_row d (record { kind = kind; bytes = recorded fields Two x }) → e ≡ fold with_row c (of_kind kind (written fields ys))
cut_on kind fields c d e xs ys x is before next =
    next ∙ ap (λ b. with_row b (record { kind = kind; bytes = recorded fields Two x })) before ∙ sym (cut_more kind fields c xs x) ∙ ap (λ l. fold with_row c (of_kind kind (written fields l))) (sym is)

pub all_on : {A : Type 0} (P : A → Type 0) (xs ys : List A) (x : A) → ys ≡ xs ++ x ∷ [] → AllByRecursion P xs → P x → AllByRecursion P ys
all_on P xs ys x is all one = subst (AllByRecursion P) (sym is) (all_more P xs x all one)

short_more : {A : Type 0} (kind : RowKind) (fields : Version → A → List ℕ) (xs : List A) (x : A) → AreShort (of_kind kind (written fields xs)) → IsShort (record { kind = kind; bytes = recorded fields Two x })
    → AreShort (of_kind kind (written fields (xs ++ x ∷ [])))
short_more kind fields [] x all is = (is, tt)
short_more kind fields (y ∷ xs) x all is = (all.0, short_more kind fields xs x all.1 is)

pub short_on : {A : Type 0} (kind : RowKind) (fields : Version → A → List ℕ) (xs ys : List A) (x : A) → ys ≡ xs ++ x ∷ [] → AreShort (of_kind kind (written fields xs))
    → IsShort (record { kind = kind; bytes = recorded fields Two x }) → AreShort (of_kind kind (written fields ys))
short_on kind fields xs ys x is all one = subst (λ l. AreShort (of_kind kind (written fields l))) (sym is) (short_more kind fields xs x all one)

-- ---- out of pieces

zip_more : {A B : Type 0} (R : A → B → Type 0) (xs : List A) (ys : List B) (x : A) (y : B) → AllZip R xs ys → R x y → AllZip R (xs ++ x ∷ []) (ys ++ y ∷ [])
zip_more R [] [] x y all is = (is, tt)
zip_more R [] (b ∷ ys) x y all is = absurd all
zip_more R (a ∷ xs) [] x y all is = absurd all
zip_more R (a ∷ xs) (b ∷ ys) x y all is = (all.0, zip_more R xs ys x y all.1 is)

pub zip_on : {A B : Type 0} (R : A → B → Type 0) (xs xs' : List A) (ys ys' : List B) (x : A) (y : B) → xs' ≡ xs ++ x ∷ [] → ys' ≡ ys ++ y ∷ [] → AllZip R xs ys → R x y → AllZip R xs' ys'
zip_on R xs xs' ys ys' x y xs_is ys_is all is =
    subst (λ l. AllZip R l ys') (sym xs_is) (subst (λ l. AllZip R (xs ++ x ∷ []) l) (sym ys_is) (zip_more R xs ys x y all is))

-- each first has a second
pub zip_at : {A B : Type 0} (R : A → B → Type 0) (xs : List A) (ys : List B) (i : ℕ) (d : A) → i < length xs → AllZip R xs ys → (y : B) × R (get_or xs i d) y
zip_at R [] ys i d lt all = absurd (omega arith)
zip_at R (x ∷ xs) [] i d lt all = absurd all
zip_at R (x ∷ xs) (y ∷ ys) zero d lt all = (y, all.0)
zip_at R (x ∷ xs) (y ∷ ys) (suc i) d lt all = zip_at R xs ys i d (omega arith) all.1

-- ---- a kind, and what follows

-- The rows of a kind, and what follows them.
pub parts_once : (kind : RowKind) (ps qs : List (List ℕ)) (x y : List RowBytes) → BeginsOther kind x → BeginsOther kind y → of_kind kind ps ++ x ≡ of_kind kind qs ++ y → (ps ≡ qs) × (x ≡ y)
parts_once kind [] [] x y ox oy same = (refl, same)
parts_once kind [] (b ∷ qs) x y ox oy same = absurd (subst (BeginsOther kind) same ox refl)
parts_once kind (a ∷ ps) [] x y ox oy same = absurd (subst (BeginsOther kind) (sym same) oy refl)
parts_once kind (a ∷ ps) (b ∷ qs) x y ox oy same =
    let first : a ≡ b = ap (λ (l : List RowBytes). (get_or l 0 (record { kind = kind; bytes = [] })).bytes) same in
    let rest = parts_once kind ps qs x y ox oy (ap (λ (l : List RowBytes). drop 1 l) same) in
    ((λ i. first i ∷ rest.0 i), rest.1)

of_first : (kind : RowKind) (rows : List RowBytes) → AllByRecursion (λ r. r.kind ≡ kind) rows → rows ≡ of_kind kind (map (λ r. r.bytes) rows)
of_first kind [] all = refl
of_first kind (r ∷ rows) all = let rest = of_first kind rows all.1 in λ i. record { kind = all.0 i; bytes = r.bytes } ∷ rest i

module _ {A : Type 0} (write : Version → A → List ℕ) (Has : Version → A → Type 0) (kind : RowKind) where
  pub begin_with : (rows first rest : List RowBytes) (found : List A) → rows ≡ first ++ rest → AllByRecursion (λ r. r.kind ≡ kind) first → BeginsOther kind rest
      → AllZip (IsRecord write Has) (map (λ r. r.bytes) first) found → BeginWith write Has kind rows found rest
  begin_with rows first rest found parts same other recorded = record {
    records = map (λ r. r.bytes) first;
    parts = parts ∙ ap (λ (l : List RowBytes). l ++ rest) (of_first kind first same);
    recorded = recorded;
    other = other;
  }

  pub begin_not : (rows first rest : List RowBytes) → rows ≡ first ++ rest → AllByRecursion (λ r. r.kind ≡ kind) first → BeginsOther kind rest
      → ((found : List A) → AllZip (IsRecord write Has) (map (λ r. r.bytes) first) found → ⊥) → (found : List A) (after : List RowBytes) → BeginWith write Has kind rows found after → ⊥
  begin_not rows first rest parts same other none found after b =
      let both : of_kind kind b.records ++ after ≡ of_kind kind (map (λ r. r.bytes) first) ++ rest = sym b.parts ∙ parts ∙ ap (λ (l : List RowBytes). l ++ rest) (of_first kind first same) in
      let records = (parts_once kind b.records (map (λ r. r.bytes) first) after rest b.other other both).0 in
      none found (subst (λ (l : List (List ℕ)). AllZip (IsRecord write Has) l found) records b.recorded)
