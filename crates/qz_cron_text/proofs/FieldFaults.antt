-- The first fault of a field: reading it agrees with the grammar.
use Rattle.std.proofs.Common.{◌≡◌, ◌∙◌, ap, sym, refl, subst, ℕ, ◌+◌, ◌≤◌, Bool, true, false, arith, cond, List, [], ◌∷◌, ◌++◌, length, inl, inr}
use Rattle.std.specs.Prelude.{Some, Result, Ok, Err, ◌&&◌, ◌||◌, is_some, ◌⊎◌}
use Rattle.std.specs.List.{slice_split, AllByRecursion}
use Rattle.qz_civil.specs.declared.fields.Field.{Field}
use Rattle.qz_civil.specs.Fields.{number}
use Rattle.qz_cron_text.specs.declared.errors.CronError.{CronError}
use Rattle.qz_cron_text.specs.declared.errors.CronError.TheVariants.{NotAlone}
use Rattle.qz_cron_text.specs.declared.forms.Form.{Form}
use Rattle.qz_cron_text.specs.declared.forms.Form.TheVariants.{Values, Day, Week}
use Rattle.qz_cron_text.specs.declared.elements.Elements.{Elements}
use Rattle.qz_cron_text.specs.Cuts.{Parts, cut_at}
use Rattle.qz_cron_text.specs.Forms.{element_of}
use Rattle.qz_cron_text.specs.Elements.{◌>>=◌, and_form, all_of, none_yet, elements_of, has_special, alone, field_of}
use Rattle.qz_cron_text.specs.Texts.{Placed}
use Rattle.qz_cron_text.specs.Grammar.{AreElements, one_element, more_elements}
use Rattle.qz_cron_text.specs.Faults.{part_at, AreParts, IsElementFault, IsRightElement, HasSpecial, IsRightField, IsFieldFault, in_element, not_alone}
use Rattle.qz_cron_text.proofs.Free.{is_mark, uncut, cut_marked}
use Rattle.qz_cron_text.proofs.ElementLaws.{element_read, element_is}
use Rattle.qz_cron_text.proofs.ElementFaults.{fault_read, fault_is}
use Rattle.qz_cron_text.proofs.PlaceLaws.{placed_parts, parts_found, are_parts}
use Rattle.qz_cron_text.proofs.FieldLaws.{sum_of, no_comma, all_read, Sums, all_is, AreRuns, sum_runs, special_stays}

err_same : {A : Type 0} {x y : CronError} → ◌≡◌ {A = Result A CronError} (Err x) (Err y) → x ≡ y
err_same e = cc

ok_err : {A : Type 0} {x : A} {y : CronError} → ◌≡◌ {A = Result A CronError} (Ok x) (Err y) → ⊥
ok_err e = cc

-- The first element with a fault.

no_parts : (before after : List Placed) (part : Placed) → [] ≡ before ++ part ∷ after → ⊥
no_parts [] after part e = cc
no_parts (p ∷ ps) after part e = cc

all_fault : (field : Field) (from at : ℕ) (found : Elements) (texts : List (List ℕ)) (before after : List Placed) (part : Placed) (fault : CronError)
    → placed_parts at texts ≡ before ++ part ∷ after → AllByRecursion (IsRightElement field) before → IsElementFault field part.at part.text fault
    → all_of field from at found texts ≡ Err fault
all_fault field from at found [] before after part fault e right wrong = absurd (no_parts before after part e)
all_fault field from at found (text ∷ texts) [] after part fault e right wrong =
    let here : part ≡ part_at at text = cc in
    let faulty : IsElementFault field at text fault = subst (λ (p : Placed). IsElementFault field p.at p.text fault) here wrong in
    rw (fault_read field at text fault faulty) refl
all_fault field from at found (text ∷ texts) (p ∷ before) after part fault e right wrong =
    let here : p ≡ part_at at text = cc in
    let rest : placed_parts (at + length text + 1) texts ≡ before ++ part ∷ after = cc in
    let first : IsRightElement field (part_at at text) = subst (λ (q : Placed). IsRightElement field q) here right.0 in
    rw (element_read field at text first.0 first.1) (all_fault field from (at + length text + 1) (and_form field from found first.0) texts before after part fault rest right.1 wrong)

-- where reading the elements fails
record FailsAt (field : Field) (parts : List Placed) (fault : CronError) : Type 0 where
  before : List Placed
  after : List Placed
  part : Placed
  is : parts ≡ before ++ part ∷ after
  right : AllByRecursion (IsRightElement field) before
  wrong : IsElementFault field part.at part.text fault

all_fails : (field : Field) (from at : ℕ) (found : Elements) (texts : List (List ℕ)) (fault : CronError) → all_of field from at found texts ≡ Err fault
    → FailsAt field (placed_parts at texts) fault
all_fails field from at found [] fault e = absurd (ok_err e)
all_fails field from at found (text ∷ texts) fault e =
    by_form (element_of field at text) refl e (λ form. all_fails field from (at + length text + 1) (and_form field from found form) texts fault)
  where
    by_form : (r : Result Form CronError) → element_of field at text ≡ r
        → (r >>= λ form. all_of field from (at + length text + 1) (and_form field from found form) texts) ≡ Err fault
        → ((form : Form) → all_of field from (at + length text + 1) (and_form field from found form) texts ≡ Err fault → FailsAt field (placed_parts (at + length text + 1) texts) fault)
        → FailsAt field (part_at at text ∷ placed_parts (at + length text + 1) texts) fault
    by_form (Err other) read x deeper = record {
      before = [];
      after = placed_parts (at + length text + 1) texts;
      part = part_at at text;
      is = refl;
      right = tt;
      wrong = fault_is field at text fault (read ∙ ap (λ y. Err y) (err_same x));
    }
    by_form (Ok form) read x deeper =
        let rest : FailsAt field (placed_parts (at + length text + 1) texts) fault = deeper form x in
        record {
          before = part_at at text ∷ rest.before;
          after = rest.after;
          part = rest.part;
          is = ap (λ (ps : List Placed). part_at at text ∷ ps) rest.is;
          right = ((form, element_is field at text form read), rest.right);
          wrong = rest.wrong;
        }

-- Forms that don't stand alone.

or_true : (b : Bool) → (b || true) ≡ true
or_true true = refl
or_true false = refl

sum_special : (field : Field) (from : ℕ) (found : Elements) (forms : List Form) → HasSpecial forms → has_special (sum_of field from found forms) ≡ true
unfolding and_form
sum_special field from found [] special = absurd special
sum_special field from found (Values run ∷ forms) special = sum_special field from (and_form field from found (Values run)) forms special
sum_special field from found (Day form ∷ forms) special = special_stays field from (record found { day = Some form }) forms refl
sum_special field from found (Week form ∷ forms) special = special_stays field from (record found { week = Some form }) forms (or_true (is_some found.day))

special_cases : (forms : List Form) → HasSpecial forms ⊎ AreRuns forms
special_cases [] = inr (record { runs = []; is = refl })
special_cases (Values run ∷ forms) = by_rest (special_cases forms)
  where
    by_rest : HasSpecial forms ⊎ AreRuns forms → HasSpecial forms ⊎ AreRuns (Values run ∷ forms)
    by_rest (inl special) = inl special
    by_rest (inr are) = inr (record { runs = run ∷ are.runs; is = ap (λ (fs : List Form). Values run ∷ fs) are.is })
special_cases (Day form ∷ forms) = inl tt
special_cases (Week form ∷ forms) = inl tt

runs_plain : (field : Field) (from : ℕ) (forms : List Form) → AreRuns forms → has_special (sum_of field from none_yet forms) ≡ false
runs_plain field from forms are =
    ap (λ (fs : List Form). has_special (sum_of field from none_yet fs)) are.is ∙ ap (λ (x : Elements). has_special x) (sum_runs field from none_yet are.runs)

-- whether there are several elements
several_or_one : (field : Field) (text : List ℕ) (forms : List Form) → AreElements field text forms
    → ((2 ≤ length forms) × (is_some (cut_at 44 text).rest ≡ true)) ⊎ ((length forms ≡ 1) × (is_some (cut_at 44 text).rest ≡ false))
several_or_one field text forms (one_element {text = word} {form} is) =
    inr (refl, ap (λ (parts : Parts). is_some parts.rest) (uncut 44 word (no_comma field word form is)))
several_or_one field text forms (more_elements {text = word} {texts} {form} {forms = others} is more) =
    inl (two others (some_elements texts others more), ap (λ (parts : Parts). is_some parts.rest) (cut_marked 44 word texts (no_comma field word form is)))
  where
    some_elements : (words : List ℕ) (fs : List Form) → AreElements field words fs → 1 ≤ length fs
    some_elements words fs (one_element is') = omega arith
    some_elements words fs (more_elements is' more') = omega arith

    two : (fs : List Form) → 1 ≤ length fs → 2 ≤ length (form ∷ fs)
    two fs le = omega arith

-- The first fault of a field.

pub field_fault_read : (field : Field) (from at : ℕ) (text : List ℕ) (fault : CronError) → IsFieldFault field at text fault → field_of field from at text ≡ Err fault
unfolding field_of elements_of
field_fault_read field from at text fault (in_element before after {part} {fault = wrong} are right is) =
    rw (all_fault field from at none_yet (slice_split (is_mark 44) text) before after part wrong (parts_found at text (before ++ part ∷ after) are) right is) refl
field_fault_read field from at text fault (not_alone {forms} are several special) =
    elim (several_or_one field text forms are) [
      | inl some ↦ rw (all_read field from at none_yet text forms are, some.1, sum_special field from none_yet forms special) refl
      | inr one ↦ absurd (let single = one.0 in omega arith)
    ]

pub field_fault_is : (field : Field) (from at : ℕ) (text : List ℕ) (fault : CronError) → field_of field from at text ≡ Err fault → IsFieldFault field at text fault
unfolding field_of elements_of
field_fault_is field from at text fault e = by_elements (all_of field from at none_yet (slice_split (is_mark 44) text)) refl e
  where
    by_alone : (result : Elements) → Sums field from none_yet text result → (several special : Bool) → is_some (cut_at 44 text).rest ≡ several → has_special result ≡ special
        → cond (several && special) (Err (NotAlone (number field))) (Ok result) ≡ Err fault → IsFieldFault field at text fault
    by_alone result sums true true several special x = subst (λ (y : CronError). IsFieldFault field at text y) (err_same x) (not_alone sums.are two other)
      where
        two : 2 ≤ length sums.forms
        two = elim (several_or_one field text sums.forms sums.are) [ inl some ↦ some.0 | inr one ↦ absurd (clash one.1) ]
          where
            clash : is_some (cut_at 44 text).rest ≡ false → ⊥
            clash none = cc

        other : HasSpecial sums.forms
        other = elim (special_cases sums.forms) [ inl has ↦ has | inr are ↦ absurd (clash (runs_plain field from sums.forms are)) ]
          where
            clash : has_special (sum_of field from none_yet sums.forms) ≡ false → ⊥
            clash plain = let same : has_special result ≡ false = ap (λ (y : Elements). has_special y) sums.sum ∙ plain in cc
    by_alone result sums true false several special x = absurd (ok_err x)
    by_alone result sums false special-test several special x = absurd (ok_err x)

    by_elements : (r : Result Elements CronError) → all_of field from at none_yet (slice_split (is_mark 44) text) ≡ r
        → (r >>= λ y. alone field (is_some (cut_at 44 text).rest) y) ≡ Err fault → IsFieldFault field at text fault
    by_elements (Err other) read x =
        let fails : FailsAt field (placed_parts at (slice_split (is_mark 44) text)) fault =
        all_fails field from at none_yet (slice_split (is_mark 44) text) fault (read ∙ ap (λ y. Err y) (err_same x)) in
        let are : AreParts at text (fails.before ++ fails.part ∷ fails.after) = subst (λ (ps : List Placed). AreParts at text ps) fails.is (are_parts at text) in
        in_element fails.before fails.after are fails.right fails.wrong
    by_elements (Ok result) read x =
        by_alone result (all_is field from at none_yet text result read) (is_some (cut_at 44 text).rest) (has_special result) refl refl x

-- Fields without a fault.

pub right_read : (field : Field) (from at : ℕ) (text : List ℕ) → IsRightField field text → (found : Elements) × (field_of field from at text ≡ Ok found)
unfolding field_of elements_of
right_read field from at text right =
    (sum_of field from none_yet right.forms, rw (all_read field from at none_yet text right.forms right.elements) (by_several (several_or_one field text right.forms right.elements)))
  where
    sum : Elements
    sum = sum_of field from none_yet right.forms

    by_several : ((2 ≤ length right.forms) × (is_some (cut_at 44 text).rest ≡ true)) ⊎ ((length right.forms ≡ 1) × (is_some (cut_at 44 text).rest ≡ false))
        → alone field (is_some (cut_at 44 text).rest) (sum_of field from none_yet right.forms) ≡ Ok (sum_of field from none_yet right.forms)
    by_several (inr one) = rw one.1 refl
    by_several (inl some) = elim (special_cases right.forms) [
      | inl special ↦ absurd (right.alone some.0 special)
      | inr are ↦ rw (some.1, runs_plain field from right.forms are) refl
    ]

pub right_is : (field : Field) (from at : ℕ) (text : List ℕ) (found : Elements) → field_of field from at text ≡ Ok found → IsRightField field text
unfolding field_of elements_of
right_is field from at text found e = by_elements (all_of field from at none_yet (slice_split (is_mark 44) text)) refl e
  where
    err_ok : {x : CronError} {y : Elements} → ◌≡◌ {A = Result Elements CronError} (Err x) (Ok y) → ⊥
    err_ok x = cc

    by_elements : (r : Result Elements CronError) → all_of field from at none_yet (slice_split (is_mark 44) text) ≡ r
        → (r >>= λ y. alone field (is_some (cut_at 44 text).rest) y) ≡ Ok found → IsRightField field text
    by_elements (Err other) read x = absurd (err_ok x)
    by_elements (Ok result) read x = record { forms = sums.forms; elements = sums.are; alone = λ two special. by_several two special (several_or_one field text sums.forms sums.are) }
      where
        sums : Sums field from none_yet text result
        sums = all_is field from at none_yet text result read

        by_several : 2 ≤ length sums.forms → HasSpecial sums.forms
            → ((2 ≤ length sums.forms) × (is_some (cut_at 44 text).rest ≡ true)) ⊎ ((length sums.forms ≡ 1) × (is_some (cut_at 44 text).rest ≡ false)) → ⊥
        by_several two special (inr one) = let single = one.0 in omega arith
        by_several two special (inl some) =
            let has : has_special result ≡ true = ap (λ (y : Elements). has_special y) sums.sum ∙ sum_special field from none_yet sums.forms special in
            let fails : alone field (is_some (cut_at 44 text).rest) result ≡ Err (NotAlone (number field)) = rw (some.1, has) refl in
            err_ok (sym fails ∙ x)
