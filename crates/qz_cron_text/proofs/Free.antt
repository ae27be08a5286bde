-- Texts without marks, and where they are cut.
use Rattle.std.proofs.Common.{◌≡◌, ◌∙◌, ap, sym, refl, ℕ, ◌+◌, ◌<◌, Bool, true, false, arith, List, [], ◌∷◌, ◌++◌, length, drop, get_or}
use Rattle.std.specs.Prelude.{Option, Some, None, ◌==◌, ◌||◌}
use Rattle.std.specs.List.{position, position_or_len, slice_split, AllByRecursion, before_first, after_first}
use Rattle.std.specs.Char.{is_ascii_digit, to_ascii_uppercase, is_ascii_uppercase}
use Rattle.std.proofs.lemmas.List.{take_at, drop_at, append_assoc}
use Rattle.std.proofs.lemmas.List.Sums.{split_at_first, passes_at_first}
use Rattle.qz_cron_text.specs.Cuts.{cut_at, cut_where}

-- no byte of the text passes
abbrev pub IsFree : (ℕ → Bool) → List ℕ → Type 0
IsFree p text = AllByRecursion (λ b. p b ≡ false) text

abbrev pub is_mark : ℕ → ℕ → Bool
is_mark mark b = b == mark

pub free-append : (p : ℕ → Bool) (xs ys : List ℕ) → IsFree p xs → IsFree p ys → IsFree p (xs ++ ys)
free-append p [] ys a b = b
free-append p (x ∷ xs) ys a b = (a.0, free-append p xs ys a.1 b)

pub free_split : (p : ℕ → Bool) (x : List ℕ) → IsFree p x → slice_split p x ≡ x ∷ []
free_split p [] free = refl
free_split p (b ∷ bs) free = rw (free.0, free_split p bs free.1) refl

pub free_split_at : (p : ℕ → Bool) (x : List ℕ) (m : ℕ) (ys : List ℕ) → IsFree p x → p m ≡ true → slice_split p (x ++ m ∷ ys) ≡ x ∷ slice_split p ys
free_split_at p [] m ys free is = rw is refl
free_split_at p (b ∷ bs) m ys free is = rw (free.0, free_split_at p bs m ys free.1 is) refl

pub free_position : (p : ℕ → Bool) (x : List ℕ) → IsFree p x → position_or_len p x ≡ length x
free_position p [] free = refl
free_position p (b ∷ bs) free = grind (arith, free_position p bs free.1, free.0)

pub free_position_at : (p : ℕ → Bool) (x : List ℕ) (m : ℕ) (ys : List ℕ) → IsFree p x → p m ≡ true → position_or_len p (x ++ m ∷ ys) ≡ length x
free_position_at p [] m ys free is = grind (arith, is)
free_position_at p (b ∷ bs) m ys free is = grind (arith, free_position_at p bs m ys free.1 is, free.0)

-- a text without the mark is one piece
pub uncut : (mark : ℕ) (x : List ℕ) → IsFree (is_mark mark) x → cut_at mark x ≡ record { front = x; rest = None }
unfolding cut_at
uncut mark x free =
    let at : position_or_len (is_mark mark) x ≡ length x = free_position (is_mark mark) x free in
    let none : position (λ b. b == mark) x ≡ None = grind (arith, at) in
    ap (λ (o : Option ℕ). cut_where o x) none

-- a text is cut at the first mark
pub cut_marked : (mark : ℕ) (x ys : List ℕ) → IsFree (is_mark mark) x → cut_at mark (x ++ mark ∷ ys) ≡ record { front = x; rest = Some ys }
unfolding cut_at
cut_marked mark x ys free =
    let at : position_or_len (is_mark mark) (x ++ mark ∷ ys) ≡ length x = free_position_at (is_mark mark) x mark ys free (grind arith) in
    let found : position (λ b. b == mark) (x ++ mark ∷ ys) ≡ Some (length x) = grind (arith, at, length_more x ys) in
    ap (λ (o : Option ℕ). cut_where o (x ++ mark ∷ ys)) found ∙ parts
  where
    length_more : (xs zs : List ℕ) → length xs < length (xs ++ mark ∷ zs)
    length_more [] zs = grind arith
    length_more (z ∷ xs) zs = grind (arith, length_more xs zs)

    regroup : x ++ mark ∷ ys ≡ (x ++ mark ∷ []) ++ ys
    regroup = sym (append_assoc x (mark ∷ []) ys)

    length_one : (xs : List ℕ) → length (xs ++ mark ∷ []) ≡ length xs + 1
    length_one [] = refl
    length_one (z ∷ xs) = grind (arith, length_one xs)

    behind : drop (length x + 1) (x ++ mark ∷ ys) ≡ ys
    behind = rw regroup (drop_at (x ++ mark ∷ []) ys (length x + 1) (length_one x))

    parts : cut_where (Some (length x)) (x ++ mark ∷ ys) ≡ record { front = x; rest = Some ys }
    parts = rw (take_at x (mark ∷ ys) (length x) refl, behind) refl

-- what a cut says of the text
abbrev pub IsCut : ℕ → List ℕ → List ℕ → Option (List ℕ) → Type 0
IsCut mark text front None = text ≡ front
IsCut mark text front (Some behind) = text ≡ front ++ mark ∷ behind

pub cut_is : (mark : ℕ) (text : List ℕ) → IsCut mark text (cut_at mark text).front (cut_at mark text).rest
unfolding cut_at
cut_is mark text = by_place (position (λ b. b == mark) text) refl
  where
    by_place : (o : Option ℕ) → position (λ b. b == mark) text ≡ o → IsCut mark text (cut_where o text).front (cut_where o text).rest
    by_place None is = refl
    by_place (Some place) is =
        let within : position_or_len (is_mark mark) text < length text = grind arith in
        let at : position_or_len (is_mark mark) text ≡ place = grind arith in
        let passes : (get_or text (position_or_len (is_mark mark) text) 0 == mark) ≡ true = passes_at_first (is_mark mark) text 0 within in
        let byte : get_or text (position_or_len (is_mark mark) text) 0 ≡ mark = grind (arith, passes) in
        let whole : text ≡ before_first (is_mark mark) text ++ (get_or text (position_or_len (is_mark mark) text) 0 ∷ after_first (is_mark mark) text) = split_at_first (is_mark mark) text 0 within in
        rw (byte, at) at whole

-- a digit, or a letter in either case
abbrev pub is_plain : ℕ → Bool
is_plain b = is_ascii_digit b || is_ascii_uppercase (to_ascii_uppercase b)

abbrev pub IsPlain : List ℕ → Type 0
IsPlain text = AllByRecursion (λ b. is_plain b ≡ true) text

pub plain_free : (p : ℕ → Bool) → ((b : ℕ) → is_plain b ≡ true → p b ≡ false) → (text : List ℕ) → IsPlain text → IsFree p text
plain_free p other [] plain = tt
plain_free p other (b ∷ bs) plain = (other b plain.0, plain_free p other bs plain.1)

pub plain-append : (xs ys : List ℕ) → IsPlain xs → IsPlain ys → IsPlain (xs ++ ys)
plain-append [] ys a b = b
plain-append (x ∷ xs) ys a b = (a.0, plain-append xs ys a.1 b)

-- the byte behind the first part of a plain text is plain
pub plain_at : (xs : List ℕ) (m : ℕ) (ys : List ℕ) → IsPlain (xs ++ m ∷ ys) → is_plain m ≡ true
plain_at [] m ys plain = plain.0
plain_at (x ∷ xs) m ys plain = plain_at xs m ys plain.1
