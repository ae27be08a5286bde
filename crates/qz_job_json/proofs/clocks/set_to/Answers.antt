use Rattle.std.proofs.Common.{◌≡◌, ◌∙◌, refl, sym, ap, ℕ, suc, ◌+◌, ◌-◌, ◌*◌, ◌^◌, ◌%◌, ◌<◌, ◌≤◌, List, [], Option, Some, None, length, drop, get_or, drop-cons, add-one, arith}
use Rattle.std.specs.Prelude.{bit_or, option_map}
use Rattle.std.proofs.Math.Pow.{pow_mono}
use Rattle.std.proofs.lemmas.Grind.{common_steps}
use Rattle.serde_json.specs.View.{view, items_view}
use Rattle.serde_json.specs.declared.value.Value.{Value}
use Rattle.qz_job_json.specs.Clocks.{number_to, listed, set_of_numbers, set_to}
use Rattle.qz_job_json.proofs.Days.{with_number, number_small, with_none, all_set}
use Rattle.qz_job_json.proofs.clocks.set_to.Goals as goal

-- the set so far, with the numbers of the rest from place i on
abbrev so_far : ℕ → ℕ → List Value → ℕ → Option ℕ
so_far last set items i = option_map (λ ns. bit_or set (set_of_numbers last ns)) (listed (number_to last) (items_view (drop i items)))

step : (last : ℕ) (items : List Value) (i : ℕ) (v : Value) (set n : ℕ) → i < length items → v ≡ get_or items i v → Some n ≡ number_to last (view v) → 1 ≤ n → n ≤ last → last ≤ 31
    → so_far last set items i ≡ so_far last (bit_or set (1 * 2 ^ (n - 1) % 2 ^ 32)) items (i + 1)
step last items i v set n within item is low high most =
    rw (drop-cons items i v within) (rw (sym item) (rw (sym is) (rw (add-one i) (with_number last set n (listed (number_to last) (items_view (drop (suc i) items))) low high most))))

fails : (last : ℕ) (items : List Value) (i : ℕ) (v : Value) (set : ℕ) → i < length items → v ≡ get_or items i v → None ≡ number_to last (view v) → so_far last set items i ≡ set_to last (items_view items) → None ≡ set_to last (items_view items)
fails last items i v set within item none so =
    let no_list : listed (number_to last) (items_view (drop i items)) ≡ None = rw (drop-cons items i v within) (rw (sym item) (rw (sym none) refl)) in
    sym (ap (option_map (λ ns. bit_or set (set_of_numbers last ns))) no_list) ∙ so

ends : (last : ℕ) (items : List Value) (i set : ℕ) → length items ≤ i → so_far last set items i ≡ set_to last (items_view items) → Some set ≡ set_to last (items_view items)
ends last items i set past so =
    let none : drop i items ≡ [] = grind (arith, common_steps) in
    sym (sym so ∙ ap (λ rest. option_map (λ ns. bit_or set (set_of_numbers last ns)) (listed (number_to last) (items_view rest))) none ∙ ap Some (all_set last set))

positive : (last : ℕ) → 0 < 2 ^ last
positive last = omega (arith, pow_mono {i = 0} {j = last} (omega arith))

pub loop-item-init : goal.loop-item-init
loop-item-init c = record { value = with_none _ _; small = positive _ }

pub loop-item-preserved : goal.loop-item-preserved
loop-item-preserved c = record {
  value = sym (step _ _ _ _ _ _ c.loop-item-test.true c.item-item.is c.in_ok-number.ensures.value c.in_ok-number.ensures.low c.in_ok-number.ensures.high c.requires) ∙ c.loop-item.invariant.value;
  small = number_small _ _ _ c.in_ok-number.ensures.low c.in_ok-number.ensures.high c.requires c.loop-item.invariant.small;
}

pub returns-in_err-number-clause-value : goal.returns-in_err-number-clause-value
returns-in_err-number-clause-value c = rw c.from_residual.ensures (fails _ _ _ _ _ c.loop-item-test.true c.item-item.is c.in_err-number.ensures.value c.loop-item.invariant.value)

pub returns-clause-value : goal.returns-clause-value
returns-clause-value c = ends _ _ _ _ c.loop-item-test.false c.loop-item.invariant.value
