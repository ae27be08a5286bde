-- What is read off valid rows.
use Rattle.std.proofs.Common.{◌≡◌, Bor, ℕ, zero, suc, ◌<◌, ◌≤◌, List, [], ◌∷◌, length, get_or, ap, sym, ◌∙◌, subst, arith}
use Rattle.std.proofs.Props.{props}
use Rattle.std.proofs.Math.Logic.{∥∥₁_map, ∥∥₁_elim}
use Rattle.std.proofs.lemmas.Iterator.Adapters.{position_from-zero}
use Rattle.std.specs.Prelude.{Option, Some, None, IfSome, option_copied, ℤ}
use Rattle.std.specs.List.{AllByRecursion, position, position_from}
use Rattle.qz_types.specs.Rows.{StateData}
use Rattle.qz_types.specs.Sorted.{IsAscending}
use Rattle.qz_types.specs.Words.{text_cmp}
use Rattle.qz_types.specs.declared.limits.TheConstants.{STATE_LIMIT}
use Rattle.qz_checkin.specs.Rows.{StateTables, state_of, state_moment}
use Rattle.qz_checkin.specs.Lateness.{last_of, is_late, late_place}
use Rattle.qz_checkin.proofs.RowEdits.{found_moment}
use Rattle.qz_checkin.specs.Valid.{HasMoment, StatesValid}

pub order_of : (T : StateTables) → ∥ StatesValid T ∥₁ → ∥ IsAscending text_cmp (λ (r : StateData). r.node) T.rows ∥₁
order_of T valid = ∥∥₁_map valid (λ v. v.order)

pub moments_of : (T : StateTables) → ∥ StatesValid T ∥₁ → ∥ AllByRecursion HasMoment T.rows ∥₁
moments_of T valid = ∥∥₁_map valid (λ v. v.rows)

pub few_of : (T : StateTables) → ∥ StatesValid T ∥₁ → length T.rows ≤ STATE_LIMIT
few_of T valid = ∥∥₁_elim valid (hlevel props) (λ v. v.few)

all_at : (P : StateData → Type 0) (xs : List StateData) (i : ℕ) (x : StateData) → AllByRecursion P xs → i < length xs → x ≡ get_or xs i x → P x
all_at P [] i x all below is = absurd (omega (arith, below))
all_at P (y ∷ ys) zero x all below is = subst P (sym is) all.0
all_at P (y ∷ ys) (suc i) x all below is = all_at P ys i x all.1 (omega (arith, below)) is

pub moment_of_row : (xs : List StateData) (i : ℕ) (x : StateData) → ∥ AllByRecursion HasMoment xs ∥₁ → i < length xs → x ≡ get_or xs i x → HasMoment x
moment_of_row xs i x all below is = ∥∥₁_elim all (hlevel props) (λ a. all_at HasMoment xs i x a below is)

pub late_place_is : (T : StateTables) (at own_last now : ℤ) (own : List ℕ) (o : Option ℕ) → own_last ≡ last_of (state_of own T.rows) → now ≡ state_moment T at → o ≡ position_from (λ row. is_late row own_last now) 0 T.rows
    → o ≡ late_place T (state_moment T at) own
unfolding late_place
late_place_is T at own_last now own o own_is now_is is =
    is ∙ sym (position_from-zero (λ row. is_late row own_last now) T.rows)
    ∙ ap (λ (n : ℤ). position (λ row. is_late row n now) T.rows) own_is
    ∙ ap (λ (n : ℤ). position (λ row. is_late row (last_of (state_of own T.rows)) n) T.rows) now_is

-- the row that is found, if one is
pub found_if : (T : StateTables) (node : List ℕ) (o : Option (Bor StateData)) → ∥ StatesValid T ∥₁ → option_copied o ≡ state_of node T.rows → IfSome o (λ row. HasMoment row.now)
found_if T node None valid is = tt
found_if T node (Some row) valid is = found_moment T node row.now valid (sym is)
