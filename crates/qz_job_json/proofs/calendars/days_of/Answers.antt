use Rattle.std.proofs.Common.{◌≡◌, ◌∙◌, refl, sym, ap, ℕ, suc, ◌+◌, ◌<◌, ◌≤◌, List, [], true, Option, Some, None, length, drop, get_or, drop-cons, add-one, arith}
use Rattle.std.specs.Prelude.{option_map}
use Rattle.std.proofs.lemmas.Grind.{common_steps}
use Rattle.serde_json.specs.View.{view, items_view}
use Rattle.serde_json.specs.declared.value.Value.{Value}
use Rattle.qz_civil.specs.Calendars.{are_above, is_list_of}
use Rattle.qz_job_json.specs.declared.calendars.Dated.{Dated}
use Rattle.qz_job_json.specs.Calendars.{days_of, is_valid, number_of, put, with_all}
use Rattle.qz_job_json.specs.Clocks.{listed}
use Rattle.qz_job_json.specs.Members.{kept}
use Rattle.qz_job_json.proofs.PutLaws.{all_kept, too_many, with_first, put_above}
use Rattle.qz_job_json.proofs.calendars.days_of.Goals as goal

-- the days so far, with those of the rest from place i on
abbrev so_far : Dated → List ℕ → List Value → ℕ → Option (List ℕ)
so_far form days items i = option_map (with_all days) (listed (number_of form) (items_view (drop i items)))

abbrev wanted : Dated → List Value → Option (List ℕ)
wanted form items = option_map (with_all []) (listed (number_of form) (items_view items))

step : (form : Dated) (items : List Value) (i : ℕ) (v : Value) (days : List ℕ) (n : ℕ) → i < length items → v ≡ get_or items i v → Some n ≡ number_of form (view v)
    → so_far form days items i ≡ so_far form (put n days) items (i + 1)
step form items i v days n within item is =
    rw (drop-cons items i v within) (rw (sym item) (rw (sym is) (rw (add-one i) (with_first days n (listed (number_of form) (items_view (drop (suc i) items)))))))

fails : (form : Dated) (limit : ℕ) (items : List Value) (i : ℕ) (v : Value) (days : List ℕ) → i < length items → v ≡ get_or items i v → None ≡ number_of form (view v) → so_far form days items i ≡ wanted form items → None ≡ days_of form limit (items_view items)
fails form limit items i v days within item none so =
    let no_list : listed (number_of form) (items_view (drop i items)) ≡ None = rw (drop-cons items i v within) (rw (sym item) (rw (sym none) refl)) in
    let nothing : None ≡ wanted form items = sym (ap (option_map (with_all days)) no_list) ∙ so in
    rw (sym nothing) refl

full : (form : Dated) (limit : ℕ) (items : List Value) (i : ℕ) (v : Value) (days : List ℕ) (n : ℕ) → i < length items → v ≡ get_or items i v → Some n ≡ number_of form (view v) → limit < length (put n days)
    → so_far form days items i ≡ wanted form items → None ≡ days_of form limit (items_view items)
full form limit items i v days n within item is past so =
    let one = step form items i v days n within item is in
    sym (ap (kept (is_list_of (is_valid form) limit)) (sym so ∙ one) ∙ too_many (is_valid form) limit (put n days) (listed (number_of form) (items_view (drop (i + 1) items))) past)

ends : (form : Dated) (limit : ℕ) (items : List Value) (i : ℕ) (days : List ℕ) → length items ≤ i → length days ≤ limit → are_above (is_valid form) None days ≡ true → so_far form days items i ≡ wanted form items → Some days ≡ days_of form limit (items_view items)
ends form limit items i days past within above so =
    let none : drop i items ≡ [] = grind (arith, common_steps) in
    let all : wanted form items ≡ Some days = sym so ∙ ap (λ rest. option_map (with_all days) (listed (number_of form) (items_view rest))) none in
    sym (ap (kept (is_list_of (is_valid form) limit)) all ∙ all_kept (is_valid form) limit days within above)

with_nothing : (form : Dated) (items : List Value) (days : List ℕ) → days ≡ [] → option_map (with_all days) (listed (number_of form) (items_view items)) ≡ wanted form items
with_nothing form items days none = rw none refl

pub loop-item-init : goal.loop-item-init
loop-item-init g c = record {
  value = with_nothing _ _ _ c.new-days.ensures;
  within = rw c.new-days.ensures (omega arith);
  above = rw c.new-days.ensures refl;
}

pub loop-item-preserved : goal.loop-item-preserved
loop-item-preserved g c =
    let put_in = c.put.ensures.put c.if-not-put.false in
    let read = c.in_ok-number.ensures in
    record {
      value = rw put_in (sym (step _ _ _ _ _ _ c.loop-item-test.true c.item-item.is read.value) ∙ c.loop-item.invariant.value);
      within = c.put.ensures.fits;
      above = rw put_in (put_above (is_valid c.args.form) None c.in_ok-number.number c.loop-item.days.items read.valid refl c.loop-item.invariant.above);
    }

pub returns-in_err-number-clause-value : goal.returns-in_err-number-clause-value
returns-in_err-number-clause-value g c = rw c.from_residual.ensures (fails _ _ _ _ _ _ c.loop-item-test.true c.item-item.is c.in_err-number.ensures.value c.loop-item.invariant.value)

pub returns-then-not-put-clause-value : goal.returns-then-not-put-clause-value
returns-then-not-put-clause-value g c =
    full _ _ _ _ _ _ _ c.loop-item-test.true c.item-item.is c.in_ok-number.ensures.value (c.put.ensures.full c.if-not-put.true) c.loop-item.invariant.value

pub returns-clause-value : goal.returns-clause-value
returns-clause-value g c = ends _ _ _ _ _ c.loop-item-test.false c.loop-item.invariant.within c.loop-item.invariant.above c.loop-item.invariant.value

pub returns-clause-above : goal.returns-clause-above
returns-clause-above g c = c.loop-item.invariant.above
