-- A text and its fields: reading them agrees with the grammar.
use Rattle.std.proofs.Common.{◌≡◌, ◌∙◌, ap, sym, refl, subst, ℕ, ◌+◌, ◌≤◌, Bool, true, false, arith, cond, List, [], ◌∷◌, ◌++◌, length, map, inl, inr}
use Rattle.std.specs.Prelude.{◌==◌, nat_eq, ◌⊎◌}
use Rattle.std.specs.List.{slice_split, onto_first, AllByRecursion}
use Rattle.std.proofs.lemmas.List.{append-nil}
use Rattle.qz_cron_text.specs.Texts.{is_blank, Placed, placed, fields_at}
use Rattle.qz_cron_text.specs.Grammar.{AreBlanks, AreJoined, last_field, next_field}
use Rattle.qz_cron_text.proofs.Free.{IsFree, free_split, free_split_at}

-- the pieces that aren't empty
abbrev pub words_among : List (List ℕ) → List (List ℕ)
words_among [] = []
words_among (piece ∷ pieces) = cond (nat_eq (length piece) 0) (words_among pieces) (piece ∷ words_among pieces)

abbrev pub text_of : Placed → List ℕ
text_of p = p.text

placed_texts : (at : ℕ) (pieces : List (List ℕ)) → map text_of (placed at pieces) ≡ words_among pieces
placed_texts at [] = refl
placed_texts at (piece ∷ pieces) = by_empty (nat_eq (length piece) 0) (placed_texts (at + 1) pieces) (placed_texts (at + length piece + 1) pieces)
  where
    by_empty : (b : Bool) → map text_of (placed (at + 1) pieces) ≡ words_among pieces → map text_of (placed (at + length piece + 1) pieces) ≡ words_among pieces
        → map text_of (cond b (placed (at + 1) pieces) (record { at = at; text = piece } ∷ placed (at + length piece + 1) pieces))
        ≡ cond b (words_among pieces) (piece ∷ words_among pieces)
    by_empty true skip keep = skip
    by_empty false skip keep = ap (λ (ts : List (List ℕ)). piece ∷ ts) keep

-- the words of a text, which don't depend on where it begins
abbrev pub words : List ℕ → List (List ℕ)
words text = words_among (slice_split is_blank text)

pub fields_texts : (at : ℕ) (text : List ℕ) → map text_of (fields_at at text) ≡ words text
unfolding fields_at
fields_texts at text = placed_texts at (slice_split is_blank text)

-- a field: no blank in it, and not empty
pub record IsWord (text : List ℕ) : Type 0 where
  pub some : 1 ≤ length text
  pub free : IsFree is_blank text

pub blank_is : (b : ℕ) → (b ≡ 32) ⊎ (b ≡ 9) → is_blank b ≡ true
blank_is b (inl is) = grind (arith, is)
blank_is b (inr is) = grind (arith, is)

pub is_blank_of : (b : ℕ) → is_blank b ≡ true → (b ≡ 32) ⊎ (b ≡ 9)
is_blank_of b is = by_space (b == 32) refl
  where
    by_space : (t : Bool) → (b == 32) ≡ t → (b ≡ 32) ⊎ (b ≡ 9)
    by_space true space = inl (grind (arith, space))
    by_space false other = inr (grind (arith, is, other))

words_blanks : (blanks text : List ℕ) → AreBlanks blanks → words (blanks ++ text) ≡ words text
words_blanks [] text are = refl
words_blanks (b ∷ bs) text are = rw (blank_is b are.0) (words_blanks bs text are.1)

not_empty : (text : List ℕ) → 1 ≤ length text → nat_eq (length text) 0 ≡ false
not_empty text some = grind (arith, some)

words_last : (field blanks : List ℕ) → IsWord field → AreBlanks blanks → words (field ++ blanks) ≡ field ∷ []
words_last field [] word are = rw (append-nil field, free_split is_blank field word.free, not_empty field word.some) refl
words_last field (b ∷ bs) word are =
    rw (free_split_at is_blank field b bs word.free (blank_is b are.0), not_empty field word.some)
    (ap (λ (ts : List (List ℕ)). field ∷ ts) (sym (ap (λ (t : List ℕ). words t) (append-nil bs)) ∙ words_blanks bs [] are.1))

words_next : (field : List ℕ) (b : ℕ) (blanks text : List ℕ) → IsWord field → AreBlanks (b ∷ blanks) → words (field ++ b ∷ (blanks ++ text)) ≡ field ∷ words text
words_next field b blanks text word are =
    rw (free_split_at is_blank field b (blanks ++ text) word.free (blank_is b are.0), not_empty field word.some)
    (ap (λ (ts : List (List ℕ)). field ∷ ts) (words_blanks blanks text are.1))

-- what is joined has just these words
pub joined_words : (fields : List (List ℕ)) (text : List ℕ) → AreJoined fields text → AllByRecursion IsWord fields → words text ≡ fields
joined_words fields text (last_field field blanks are) all = words_last field blanks all.0 are
joined_words fields text (next_field {fields = others} {text = rest} field blanks b are more) all =
    words_next field b blanks rest all.0 are ∙ ap (λ (ts : List (List ℕ)). field ∷ ts) (joined_words others rest more all.1)

pub spaced_words : (blanks : List ℕ) (fields : List (List ℕ)) (text : List ℕ) → AreBlanks blanks → AreJoined fields text → AllByRecursion IsWord fields
    → words (blanks ++ text) ≡ fields
spaced_words blanks fields text are joined all = words_blanks blanks text are ∙ joined_words fields text joined all

-- a text as blanks and what is joined behind them
abbrev pub AreJoinedOrNone : List (List ℕ) → List ℕ → Type 0
AreJoinedOrNone [] rest = rest ≡ []
AreJoinedOrNone (field ∷ fields) rest = AreJoined (field ∷ fields) rest

pub record IsSpaced (text : List ℕ) (fields : List (List ℕ)) : Type 0 where
  pub blanks : List ℕ
  pub rest : List ℕ
  pub are : AreBlanks blanks
  pub is : text ≡ blanks ++ rest
  pub joined : AreJoinedOrNone fields rest

-- one byte more at the front of the first field
abbrev pub grow : ℕ → List (List ℕ) → List (List ℕ)
grow b [] = []
grow b (field ∷ fields) = (b ∷ field) ∷ fields

joined_grows : (b : ℕ) (fields : List (List ℕ)) (text : List ℕ) → AreJoined fields text → AreJoined (grow b fields) (b ∷ text)
joined_grows b fields text (last_field first blanks are) = last_field (b ∷ first) blanks are
joined_grows b fields text (next_field {fields = others} {text = rest} first blanks c are more) = next_field (b ∷ first) blanks c are more

false_true : {A : Type 0} → true ≡ false → A
false_true e = absurd (clash e)
  where
    clash : true ≡ false → ⊥
    clash x = cc

record HasFirst (fields : List (List ℕ)) : Type 0 where
  first : List ℕ
  others : List (List ℕ)
  is : fields ≡ first ∷ others

onto_words : (b : ℕ) (parts : List (List ℕ)) → (p : List ℕ) × (ps : List (List ℕ)) × (onto_first b parts ≡ (b ∷ p) ∷ ps)
onto_words b [] = ([], [], refl)
onto_words b (part ∷ parts) = (part, parts, refl)

cons_word : (b : ℕ) (p : List ℕ) (ps : List (List ℕ)) → words_among ((b ∷ p) ∷ ps) ≡ (b ∷ p) ∷ words_among ps
cons_word b p ps = rw (not_empty (b ∷ p) (grind arith)) refl

words_grow : (b c : ℕ) (cs : List ℕ) → is_blank b ≡ false → is_blank c ≡ false → words (b ∷ c ∷ cs) ≡ grow b (words (c ∷ cs))
words_grow b c cs no_b no_c =
    let found : (p : List ℕ) × (ps : List (List ℕ)) × (onto_first c (slice_split is_blank cs) ≡ (c ∷ p) ∷ ps) = onto_words c (slice_split is_blank cs) in
    rw (no_b, no_c, found.2, cons_word c found.0 found.1, cons_word b (c ∷ found.0) found.1) refl

words_some : (c : ℕ) (cs : List ℕ) → is_blank c ≡ false → HasFirst (words (c ∷ cs))
words_some c cs no_c =
    let found : (p : List ℕ) × (ps : List (List ℕ)) × (onto_first c (slice_split is_blank cs) ≡ (c ∷ p) ∷ ps) = onto_words c (slice_split is_blank cs) in
    record { first = c ∷ found.0; others = words_among found.1; is = rw (no_c, found.2) (cons_word c found.0 found.1) }

abbrev pub tail : List ℕ → List ℕ
tail [] = []
tail (b ∷ bs) = bs

none_spaced : IsSpaced [] []
none_spaced = record { blanks = []; rest = []; are = tt; is = refl; joined = refl }

-- a blank in front
blank_spaced : (b : ℕ) (bs : List ℕ) (fields : List (List ℕ)) → is_blank b ≡ true → IsSpaced bs fields → IsSpaced (b ∷ bs) fields
blank_spaced b bs fields blank spaced =
    record { blanks = b ∷ spaced.blanks; rest = spaced.rest; are = (is_blank_of b blank, spaced.are); is = ap (λ (t : List ℕ). b ∷ t) spaced.is; joined = spaced.joined }

-- a field of one byte in front of a blank
byte_spaced : (b c : ℕ) (cs : List ℕ) (fields : List (List ℕ)) → is_blank c ≡ true → IsSpaced cs fields → IsSpaced (b ∷ c ∷ cs) ((b ∷ []) ∷ fields)
byte_spaced b c cs [] blank spaced =
    let none : cs ≡ spaced.blanks = spaced.is ∙ ap (λ (t : List ℕ). spaced.blanks ++ t) spaced.joined ∙ append-nil spaced.blanks in
    let joined : AreJoined ((b ∷ []) ∷ []) (b ∷ c ∷ spaced.blanks) = last_field (b ∷ []) (c ∷ spaced.blanks) (is_blank_of c blank, spaced.are) in
    record { blanks = []; rest = b ∷ c ∷ cs; are = tt; is = refl; joined = subst (λ (t : List ℕ). AreJoined ((b ∷ []) ∷ []) (b ∷ c ∷ t)) (sym none) joined }
byte_spaced b c cs (field ∷ fields) blank spaced =
    let joined : AreJoined ((b ∷ []) ∷ field ∷ fields) (b ∷ c ∷ (spaced.blanks ++ spaced.rest)) =
    next_field (b ∷ []) spaced.blanks c (is_blank_of c blank, spaced.are) spaced.joined in
    record { blanks = []; rest = b ∷ c ∷ cs; are = tt; is = refl; joined = subst (λ (t : List ℕ). AreJoined ((b ∷ []) ∷ field ∷ fields) (b ∷ c ∷ t)) (sym spaced.is) joined }

-- a byte in front of a field
grown_spaced : (b c : ℕ) (cs : List ℕ) (fields : List (List ℕ)) → is_blank c ≡ false → HasFirst fields → IsSpaced (c ∷ cs) fields → IsSpaced (b ∷ c ∷ cs) (grow b fields)
grown_spaced b c cs fields no_blank some spaced = by_blanks spaced.blanks spaced.rest spaced.are spaced.is spaced.joined
  where
    by_blanks : (blanks rest : List ℕ) → AreBlanks blanks → c ∷ cs ≡ blanks ++ rest → AreJoinedOrNone fields rest → IsSpaced (b ∷ c ∷ cs) (grow b fields)
    by_blanks (d ∷ ds) rest are is joined =
        let same : c ≡ d = cc in
        let blank : is_blank c ≡ true = ap (λ (x : ℕ). is_blank x) same ∙ blank_is d are.0 in
        false_true (sym blank ∙ no_blank)
    by_blanks [] rest are is joined =
        let here : AreJoined (some.first ∷ some.others) rest = subst (λ (fs : List (List ℕ)). AreJoinedOrNone fs rest) some.is joined in
        let grown : AreJoined ((b ∷ some.first) ∷ some.others) (b ∷ rest) = joined_grows b (some.first ∷ some.others) rest here in
        let whole : AreJoined ((b ∷ some.first) ∷ some.others) (b ∷ c ∷ cs) = subst (λ (t : List ℕ). AreJoined ((b ∷ some.first) ∷ some.others) (b ∷ t)) (sym is) grown in
        subst (λ (fs : List (List ℕ)). IsSpaced (b ∷ c ∷ cs) (grow b fs)) (sym some.is)
        (record { blanks = []; rest = b ∷ c ∷ cs; are = tt; is = refl; joined = whole })

step_spaced : (b : ℕ) (bs : List ℕ) → IsSpaced bs (words bs) → IsSpaced (tail bs) (words (tail bs)) → IsSpaced (b ∷ bs) (words (b ∷ bs))
step_spaced b [] here behind = by_blank (is_blank b) refl
  where
    by_blank : (t : Bool) → is_blank b ≡ t → IsSpaced (b ∷ []) (words_among (cond t ([] ∷ [] ∷ []) ((b ∷ []) ∷ [])))
    by_blank true blank = blank_spaced b [] [] blank none_spaced
    by_blank false other = rw (cons_word b [] []) (record { blanks = []; rest = b ∷ []; are = tt; is = refl; joined = last_field (b ∷ []) [] tt })
step_spaced b (c ∷ cs) here behind = by_blank (is_blank b) (is_blank c) refl refl
  where
    by_blank : (x y : Bool) → is_blank b ≡ x → is_blank c ≡ y → IsSpaced (b ∷ c ∷ cs) (words (b ∷ c ∷ cs))
    by_blank true y blank at_c = rw blank (blank_spaced b (c ∷ cs) (words (c ∷ cs)) blank here)
    by_blank false true other blank = rw (other, blank, cons_word b [] (slice_split is_blank cs)) (byte_spaced b c cs (words cs) blank behind)
    by_blank false false other no_blank = rw (words_grow b c cs other no_blank) (grown_spaced b c cs (words (c ∷ cs)) no_blank (words_some c cs no_blank) here)

both_spaced : (text : List ℕ) → IsSpaced text (words text) × IsSpaced (tail text) (words (tail text))
both_spaced [] = (none_spaced, none_spaced)
both_spaced (b ∷ bs) = let deeper : IsSpaced bs (words bs) × IsSpaced (tail bs) (words (tail bs)) = both_spaced bs in (step_spaced b bs deeper.0 deeper.1, deeper.0)

-- each text is its words with blanks between and round them
pub spaced : (text : List ℕ) → IsSpaced text (words text)
spaced text = (both_spaced text).0
