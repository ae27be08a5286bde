-- Fields: reading them agrees with the grammar.
use Rattle.std.proofs.Common.{◌≡◌, ◌∙◌, ap, sym, refl, subst, ℕ, ◌+◌, ◌<◌, Bool, true, false, arith, cond, List, [], ◌∷◌, ◌++◌, length, map, inl, inr}
use Rattle.std.specs.Prelude.{Some, None, Result, Ok, Err, ◌==◌, ◌&&◌, ◌||◌, is_some, bit_or, ◌⊎◌, max}
use Rattle.std.specs.List.{slice_split, onto_first, join_with_byte, AllByRecursion}
use Rattle.std.specs.Int.{bit_at}
use Rattle.std.proofs.lemmas.List.Splits.{join_with_byte-slice_split}
use Rattle.std.proofs.lemmas.Nat.Bits.{bit_at_or, bit_at-zero, bit_at-lt, same_from_bits}
use Rattle.qz_civil.specs.declared.fields.Field.{Field}
use Rattle.qz_civil.specs.Fields.{number, least}
use Rattle.qz_cron_text.specs.declared.errors.CronError.{CronError}
use Rattle.qz_cron_text.specs.declared.errors.CronError.TheVariants.{NotAlone}
use Rattle.qz_cron_text.specs.declared.runs.Run.{Run}
use Rattle.qz_cron_text.specs.declared.forms.Form.{Form}
use Rattle.qz_cron_text.specs.declared.forms.Form.TheVariants.{Values, Day, Week}
use Rattle.qz_cron_text.specs.declared.forms.DayForm.{DayForm}
use Rattle.qz_cron_text.specs.declared.forms.WeekForm.{WeekForm}
use Rattle.qz_cron_text.specs.declared.elements.Elements.{Elements}
use Rattle.qz_cron_text.specs.Cuts.{Parts, cut_at}
use Rattle.qz_cron_text.specs.Sets.{word_of}
use Rattle.qz_cron_text.specs.Forms.{element_of}
use Rattle.qz_cron_text.specs.Elements.{◌>>=◌, and_form, all_of, none_yet, elements_of, has_special, alone, field_of}
use Rattle.qz_cron_text.specs.Grammar.{IsElement, AreElements, one_element, more_elements, RunInRange, InRange, HasValue, SomeHas, HasBits, IsSet}
use Rattle.qz_cron_text.proofs.Free.{IsFree, is_mark, free_split, free_split_at, uncut, cut_marked}
use Rattle.qz_cron_text.proofs.ElementLaws.{element_read, element_is}
use Rattle.qz_cron_text.proofs.Bytes.{form_inner, inner_no_comma}
use Rattle.qz_cron_text.proofs.HasLaws.{word_bit, bit_word}

-- the elements of these forms
abbrev pub sum_of : Field → ℕ → Elements → List Form → Elements
sum_of field from found [] = found
sum_of field from found (form ∷ forms) = sum_of field from (and_form field from found form) forms

pub no_comma : (field : Field) (text : List ℕ) (form : Form) → IsElement field text form → IsFree (is_mark 44) text
no_comma field text form is = inner_no_comma text (form_inner field text form is.is_form)

ok_is : {A : Type 0} {x y : A} → ◌≡◌ {A = Result A CronError} (Ok x) (Ok y) → x ≡ y
ok_is e = cc

err_is : {A : Type 0} {x : CronError} {y : A} → ◌≡◌ {A = Result A CronError} (Err x) (Ok y) → ⊥
err_is e = cc

pub all_read : (field : Field) (from at : ℕ) (found : Elements) (text : List ℕ) (forms : List Form) → AreElements field text forms
    → all_of field from at found (slice_split (λ b. b == 44) text) ≡ Ok (sum_of field from found forms)
all_read field from at found text forms (one_element {text = word} {form} is) =
    rw (free_split (is_mark 44) word (no_comma field word form is), element_read field at word form is) refl
all_read field from at found text forms (more_elements {text = word} {texts} {form} {forms = others} is more) =
    rw (free_split_at (is_mark 44) word 44 texts (no_comma field word form is) refl, element_read field at word form is)
    (all_read field from (at + length word + 1) (and_form field from found form) texts others more)

-- elements with what they add up to
pub record Sums (field : Field) (from : ℕ) (found : Elements) (text : List ℕ) (result : Elements) : Type 0 where
  pub forms : List Form
  pub are : AreElements field text forms
  pub sum : result ≡ sum_of field from found forms

-- the elements of a field's pieces
pieces_are : (field : Field) (from at : ℕ) (found : Elements) (text : List ℕ) (texts : List (List ℕ)) (result : Elements)
    → all_of field from at found (text ∷ texts) ≡ Ok result → Sums field from found (join_with_byte 44 (text ∷ texts)) result
pieces_are field from at found text [] result is = by_form (element_of field at text) refl is
  where
    by_form : (r : Result Form CronError) → element_of field at text ≡ r → (r >>= λ form. Ok (and_form field from found form)) ≡ Ok result
        → Sums field from found text result
    by_form (Err fault) read e = absurd (err_is e)
    by_form (Ok form) read e = record { forms = form ∷ []; are = one_element (element_is field at text form read); sum = sym (ok_is e) }
pieces_are field from at found text (next ∷ texts) result is =
    by_form (element_of field at text) refl is
    (λ form. pieces_are field from (at + length text + 1) (and_form field from found form) next texts result)
  where
    by_form : (r : Result Form CronError) → element_of field at text ≡ r
        → (r >>= λ form. all_of field from (at + length text + 1) (and_form field from found form) (next ∷ texts)) ≡ Ok result
        → ((form : Form) → all_of field from (at + length text + 1) (and_form field from found form) (next ∷ texts) ≡ Ok result
        → Sums field from (and_form field from found form) (join_with_byte 44 (next ∷ texts)) result)
        → Sums field from found (text ++ 44 ∷ join_with_byte 44 (next ∷ texts)) result
    by_form (Err fault) read e deeper = absurd (err_is e)
    by_form (Ok form) read e deeper =
        let rest : Sums field from (and_form field from found form) (join_with_byte 44 (next ∷ texts)) result = deeper form e in
        record { forms = form ∷ rest.forms; are = more_elements (element_is field at text form read) rest.are; sum = rest.sum }

pub all_is : (field : Field) (from at : ℕ) (found : Elements) (text : List ℕ) (result : Elements)
    → all_of field from at found (slice_split (λ b. b == 44) text) ≡ Ok result → Sums field from found text result
all_is field from at found text result is = by_pieces (slice_split (λ b. b == 44) text) refl is
  where
    split_some : (xs : List ℕ) → slice_split (λ b. b == 44) xs ≡ [] → ⊥
    split_some [] e = cc
    split_some (x ∷ xs) e = some_piece (x == 44) (slice_split (λ b. b == 44) xs) e
      where
        some_piece : (b : Bool) (parts : List (List ℕ)) → cond b ([] ∷ parts) (onto_first x parts) ≡ [] → ⊥
        some_piece true parts e' = cc
        some_piece false [] e' = cc
        some_piece false (part ∷ parts) e' = cc

    by_pieces : (ps : List (List ℕ)) → slice_split (λ b. b == 44) text ≡ ps → all_of field from at found ps ≡ Ok result → Sums field from found text result
    by_pieces [] split e = absurd (split_some text split)
    by_pieces (p ∷ ps) split e =
        let whole : join_with_byte 44 (p ∷ ps) ≡ text = sym (ap (λ (ts : List (List ℕ)). join_with_byte 44 ts) split) ∙ join_with_byte-slice_split 44 text in
        subst (λ (t : List ℕ). Sums field from found t result) whole (pieces_are field from at found p ps result e)

-- the union of a word and the runs
abbrev pub words_of : Field → ℕ → ℕ → List Run → ℕ
words_of field from word [] = word
words_of field from word (run ∷ runs) = words_of field from (bit_or word (word_of field run from)) runs

pub sum_runs : (field : Field) (from : ℕ) (found : Elements) (runs : List Run)
    → sum_of field from found (map (λ run. Values run) runs) ≡ record found { word = words_of field from found.word runs }
unfolding and_form
sum_runs field from found [] = refl
sum_runs field from found (run ∷ runs) = sum_runs field from (record found { word = bit_or found.word (word_of field run from) }) runs

abbrev pub AreInRange : Field → List Run → Type 0
AreInRange field runs = AllByRecursion (λ run. RunInRange field run) runs

pub forms_in_range : (field : Field) (text : List ℕ) (forms : List Form) → AreElements field text forms → AllByRecursion (λ form. InRange field form) forms
forms_in_range field text forms (one_element {text = word} {form} is) = (is.in_range, tt)
forms_in_range field text forms (more_elements {text = word} {texts} {form} {forms = others} is more) = (is.in_range, forms_in_range field texts others more)

pub runs_in_range : (field : Field) (runs : List Run) → AllByRecursion (λ form. InRange field form) (map (λ run. Values run) runs) → AreInRange field runs
runs_in_range field [] right = tt
runs_in_range field (run ∷ runs) right = (right.0, runs_in_range field runs right.1)

one_of : (a b : ℕ) → a < 2 → b < 2 → max a b ≡ 1 → (a ≡ 1) ⊎ (b ≡ 1)
one_of a b small_a small_b most = by_first (a == 1) refl
  where
    by_first : (t : Bool) → (a == 1) ≡ t → (a ≡ 1) ⊎ (b ≡ 1)
    by_first true is = inl (grind (arith, is))
    by_first false other = inr (grind (arith, other, most, small_a, small_b))

-- a bit of a union is one of the word's or of some run's
words_bit : (field : Field) (from word : ℕ) (runs : List Run) (i : ℕ) → AreInRange field runs → bit_at (words_of field from word runs) i ≡ 1
    → (bit_at word i ≡ 1) ⊎ ((i < 64) × SomeHas field runs (least field + from + i))
words_bit field from word [] i right one = inl one
words_bit field from word (run ∷ runs) i right one = by_rest (words_bit field from (bit_or word (word_of field run from)) runs i right.1 one)
  where
    by_word : ((bit_at word i ≡ 1) ⊎ (bit_at (word_of field run from) i ≡ 1)) → (bit_at word i ≡ 1) ⊎ ((i < 64) × SomeHas field (run ∷ runs) (least field + from + i))
    by_word (inl e) = inl e
    by_word (inr e) = let has : (i < 64) × HasValue field run (least field + from + i) = word_bit field run from i right.0 e in inr (has.0, inl has.1)

    by_rest : ((bit_at (bit_or word (word_of field run from)) i ≡ 1) ⊎ ((i < 64) × SomeHas field runs (least field + from + i)))
        → (bit_at word i ≡ 1) ⊎ ((i < 64) × SomeHas field (run ∷ runs) (least field + from + i))
    by_rest (inl e) =
        by_word (one_of (bit_at word i) (bit_at (word_of field run from) i) (bit_at-lt word i) (bit_at-lt (word_of field run from) i) (sym (bit_at_or word (word_of field run from) i) ∙ e))
    by_rest (inr e) = inr (e.0, inr e.1)

union_left : (a b i : ℕ) → bit_at a i ≡ 1 → bit_at (bit_or a b) i ≡ 1
union_left a b i one = bit_at_or a b i ∙ grind (arith, one, bit_at-lt b i)

union_right : (a b i : ℕ) → bit_at b i ≡ 1 → bit_at (bit_or a b) i ≡ 1
union_right a b i one = bit_at_or a b i ∙ grind (arith, one, bit_at-lt a i)

bit_stays : (field : Field) (from word : ℕ) (runs : List Run) (i : ℕ) → bit_at word i ≡ 1 → bit_at (words_of field from word runs) i ≡ 1
bit_stays field from word [] i one = one
bit_stays field from word (run ∷ runs) i one = bit_stays field from (bit_or word (word_of field run from)) runs i (union_left word (word_of field run from) i one)

bit_words : (field : Field) (from word : ℕ) (runs : List Run) (i : ℕ) → AreInRange field runs → i < 64 → SomeHas field runs (least field + from + i)
    → bit_at (words_of field from word runs) i ≡ 1
bit_words field from word [] i right low has = absurd has
bit_words field from word (run ∷ runs) i right low (inl has) =
    bit_stays field from (bit_or word (word_of field run from)) runs i (union_right word (word_of field run from) i (bit_word field run from i right.0 low has))
bit_words field from word (run ∷ runs) i right low (inr has) = bit_words field from (bit_or word (word_of field run from)) runs i right.1 low has

-- the word of a list of runs
pub runs_bits : (field : Field) (from : ℕ) (text : List ℕ) (runs : List Run) → AreElements field text (map (λ run. Values run) runs)
    → HasBits field from runs (words_of field from 0 runs)
runs_bits field from text runs are i = (λ one. by_part (words_bit field from 0 runs i right one), λ has. bit_words field from 0 runs i right has.0 has.1)
  where
    right : AreInRange field runs
    right = runs_in_range field runs (forms_in_range field text (map (λ run. Values run) runs) are)

    by_part : ((bit_at 0 i ≡ 1) ⊎ ((i < 64) × SomeHas field runs (least field + from + i))) → (i < 64) × SomeHas field runs (least field + from + i)
    by_part (inl one) = let zero_bit : bit_at 0 i ≡ 0 = bit_at-zero i in absurd (omega (arith, zero_bit, one))
    by_part (inr has) = has

pub runs_are_set : (field : Field) (from : ℕ) (text : List ℕ) (runs : List Run) → AreElements field text (map (λ run. Values run) runs)
    → IsSet field from text (words_of field from 0 runs)
runs_are_set field from text runs are = record { runs = runs; elements = are; bits = runs_bits field from text runs are }

bits_same : (a b : ℕ) → ((i : ℕ) → bit_at a i ≡ 1 → bit_at b i ≡ 1) → ((i : ℕ) → bit_at b i ≡ 1 → bit_at a i ≡ 1) → a ≡ b
bits_same a b there back = same_from_bits a b (λ i. by_bit i (bit_at a i == 1) (bit_at b i == 1) refl refl)
  where
    by_bit : (i : ℕ) (x y : Bool) → (bit_at a i == 1) ≡ x → (bit_at b i == 1) ≡ y → bit_at a i ≡ bit_at b i
    by_bit i true y is_a is_b = let one : bit_at a i ≡ 1 = grind (arith, is_a) in one ∙ sym (there i one)
    by_bit i false true is_a is_b = let one : bit_at b i ≡ 1 = grind (arith, is_b) in back i one ∙ sym one
    by_bit i false false is_a is_b = grind (arith, is_a, is_b, bit_at-lt a i, bit_at-lt b i)

-- a set has one word
pub set_word : (field : Field) (from : ℕ) (text : List ℕ) (word : ℕ) (is : IsSet field from text word) → words_of field from 0 is.runs ≡ word
set_word field from text word is =
    let whole : HasBits field from is.runs (words_of field from 0 is.runs) = runs_bits field from text is.runs is.elements in
    bits_same (words_of field from 0 is.runs) word (λ i one. (is.bits i).1 ((whole i).0 one)) (λ i one. (whole i).1 ((is.bits i).0 one))

pub set_read : (field : Field) (from at : ℕ) (text : List ℕ) (word : ℕ) → IsSet field from text word
    → field_of field from at text ≡ Ok (record { word = word; day = None; week = None })
unfolding field_of elements_of
set_read field from at text word is =
    rw (all_read field from at none_yet text (map (λ run. Values run) is.runs) is.elements, sum_runs field from none_yet is.runs, set_word field from text word is)
    (alone_none (is_some (cut_at 44 text).rest))
  where
    alone_none : (b : Bool) → alone field b (record { word = word; day = None; week = None }) ≡ Ok (record { word = word; day = None; week = None })
    alone_none true = refl
    alone_none false = refl

-- one element alone
pub form_field : (field : Field) (from at : ℕ) (text : List ℕ) (form : Form) → IsElement field text form
    → field_of field from at text ≡ Ok (and_form field from none_yet form)
unfolding field_of elements_of
form_field field from at text form is =
    rw (all_read field from at none_yet text (form ∷ []) (one_element is), uncut 44 text (no_comma field text form is)) refl

pub special_stays : (field : Field) (from : ℕ) (found : Elements) (forms : List Form) → has_special found ≡ true → has_special (sum_of field from found forms) ≡ true
unfolding and_form
special_stays field from found [] special = special
special_stays field from found (Values run ∷ forms) special = special_stays field from (record found { word = bit_or found.word (word_of field run from) }) forms special
special_stays field from found (Day form ∷ forms) special = special_stays field from (record found { day = Some form }) forms refl
special_stays field from found (Week form ∷ forms) special = special_stays field from (record found { week = Some form }) forms (second (is_some found.day))
  where
    second : (b : Bool) → (b || true) ≡ true
    second true = refl
    second false = refl

-- forms that are runs all
pub record AreRuns (forms : List Form) : Type 0 where
  pub runs : List Run
  pub is : forms ≡ map (λ run. Values run) runs

false_true : {A : Type 0} → true ≡ false → A
false_true e = absurd (clash e)
  where
    clash : true ≡ false → ⊥
    clash x = cc

no_special : (field : Field) (from : ℕ) (found : Elements) (forms : List Form) → has_special (sum_of field from found forms) ≡ false → AreRuns forms
unfolding and_form
no_special field from found [] none = record { runs = []; is = refl }
no_special field from found (Values run ∷ forms) none =
    let rest : AreRuns forms = no_special field from (record found { word = bit_or found.word (word_of field run from) }) forms none in
    record { runs = run ∷ rest.runs; is = ap (λ (fs : List Form). Values run ∷ fs) rest.is }
no_special field from found (Day form ∷ forms) none =
    false_true (sym (special_stays field from (record found { day = Some form }) forms refl) ∙ none)
no_special field from found (Week form ∷ forms) none =
    false_true (sym (special_stays field from (record found { week = Some form }) forms (second (is_some found.day))) ∙ none)
  where
    second : (b : Bool) → (b || true) ≡ true
    second true = refl
    second false = refl

-- a field that was read: a set, or one element that isn't a run of values
pub data IsFieldOf (field : Field) (from : ℕ) (text : List ℕ) : Elements → Type 0 where
  a_set : {word : ℕ} → IsSet field from text word → IsFieldOf field from text (record { word = word; day = None; week = None })
  a_day : {form : DayForm} → IsElement field text (Day form) → IsFieldOf field from text (record { word = 0; day = Some form; week = None })
  a_week : {form : WeekForm} → IsElement field text (Week form) → IsFieldOf field from text (record { word = 0; day = None; week = Some form })

special_field : (field : Field) (from : ℕ) (text : List ℕ) (form : Form) → IsElement field text form → has_special (and_form field from none_yet form) ≡ true
    → IsFieldOf field from text (and_form field from none_yet form)
unfolding and_form
special_field field from text (Values run) is special = false_true (sym special)
special_field field from text (Day form) is special = a_day is
special_field field from text (Week form) is special = a_week is

several_is : (field : Field) (text : List ℕ) (forms : List Form) → AreElements field text forms → is_some (cut_at 44 text).rest ≡ false
    → (form : Form) × (forms ≡ form ∷ []) × IsElement field text form
several_is field text forms (one_element {text = word} {form} is) none = (form, refl, is)
several_is field text forms (more_elements {text = word} {texts} {form} {forms = others} is more) none =
    false_true (sym (ap (λ (parts : Parts). is_some parts.rest) (cut_marked 44 word texts (no_comma field word form is))) ∙ none)

pub field_is : (field : Field) (from at : ℕ) (text : List ℕ) (found : Elements) → field_of field from at text ≡ Ok found → IsFieldOf field from text found
unfolding field_of elements_of
field_is field from at text found is = by_elements (all_of field from at none_yet (slice_split (λ b. b == 44) text)) refl is
  where
    as_set : (result : Elements) → Sums field from none_yet text result → has_special result ≡ false → IsFieldOf field from text result
    as_set result sums none =
        let runs : AreRuns sums.forms = no_special field from none_yet sums.forms (ap (λ (x : Elements). has_special x) (sym sums.sum) ∙ none) in
        let are : AreElements field text (map (λ run. Values run) runs.runs) = subst (λ (fs : List Form). AreElements field text fs) runs.is sums.are in
        let sum : result ≡ record none_yet { word = words_of field from 0 runs.runs } =
        sums.sum ∙ ap (λ (fs : List Form). sum_of field from none_yet fs) runs.is ∙ sum_runs field from none_yet runs.runs in
        subst (λ (x : Elements). IsFieldOf field from text x) (sym sum) (a_set (runs_are_set field from text runs.runs are))

    as_form : (result : Elements) → Sums field from none_yet text result → is_some (cut_at 44 text).rest ≡ false → has_special result ≡ true → IsFieldOf field from text result
    as_form result sums none special =
        let one : (form : Form) × (sums.forms ≡ form ∷ []) × IsElement field text form = several_is field text sums.forms sums.are none in
        let sum : result ≡ and_form field from none_yet one.0 = sums.sum ∙ ap (λ (fs : List Form). sum_of field from none_yet fs) one.1 in
        subst (λ (x : Elements). IsFieldOf field from text x) (sym sum) (special_field field from text one.0 one.2 (ap (λ (x : Elements). has_special x) (sym sum) ∙ special))

    by_special : (result : Elements) → Sums field from none_yet text result → (several special : Bool) → is_some (cut_at 44 text).rest ≡ several → has_special result ≡ special
        → cond (several && special) (Err (NotAlone (number field))) (Ok result) ≡ Ok found → IsFieldOf field from text found
    by_special result sums several false at_several none e = subst (λ (x : Elements). IsFieldOf field from text x) (ok_is (keep several e)) (as_set result sums none)
      where
        keep : (b : Bool) → cond (b && false) (Err (NotAlone (number field))) (Ok result) ≡ Ok found → ◌≡◌ {A = Result Elements CronError} (Ok result) (Ok found)
        keep true x = x
        keep false x = x
    by_special result sums false true none special e = subst (λ (x : Elements). IsFieldOf field from text x) (ok_is e) (as_form result sums none special)
    by_special result sums true true several special e = absurd (err_is e)

    by_elements : (r : Result Elements CronError) → all_of field from at none_yet (slice_split (λ b. b == 44) text) ≡ r
        → (r >>= λ x. alone field (is_some (cut_at 44 text).rest) x) ≡ Ok found → IsFieldOf field from text found
    by_elements (Err fault) read e = absurd (err_is e)
    by_elements (Ok result) read e =
        by_special result (all_is field from at none_yet text result read) (is_some (cut_at 44 text).rest) (has_special result) refl refl e
