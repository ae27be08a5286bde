-- Why a transaction is refused, and what valid rows say.
use Rattle.std.proofs.Common.{◌≡◌, ℕ, ℤ, List, refl, sym, subst}
use Rattle.std.proofs.Props.{props}
use Rattle.std.proofs.Math.Logic.{∥∥₁_elim}
use Rattle.std.specs.Prelude.{Option, Some, None, MatchOption}
use Rattle.qz_civil.specs.declared.limits.TheConstants.{LAST}
use Rattle.qz_types.specs.Rows.{StateData}
use Rattle.qz_types.specs.Entries.{StateEntryData}
use Rattle.qz_types.specs.Tables.{IsMoment}
use Rattle.qz_types.specs.Words.{text_cmp}
use Rattle.qz_types.specs.declared.replies.Refusal.{Refusal}
use Rattle.qz_types.specs.declared.states.StateCommand.TheVariants.{CheckIn, Forget}
use Rattle.qz_checkin.specs.Rows.{StateTables, state_of, state_moment, accepted, refused, IsAccepted, unless, check_in_refusal, forget_refusal}
use Rattle.qz_checkin.specs.Valid.{HasMoment, StatesValid, IsRefusalOf}
use Rattle.qz_checkin.specs.Edits.{All-found, moment-kept}

-- ---- refusals

refusal_by : (x y : Option Refusal) (T : StateTables) → y ≡ x → MatchOption y (IsAccepted (unless x (accepted T))) (λ z. unless x (accepted T) ≡ refused z)
refusal_by x y T same = subst (λ z. MatchOption z (IsAccepted (unless x (accepted T))) (λ w. unless x (accepted T) ≡ refused w)) (sym same) (own x) where
  own : (x : Option Refusal) → MatchOption x (IsAccepted (unless x (accepted T))) (λ w. unless x (accepted T) ≡ refused w)
  own None = tt
  own (Some z) = refl

pub check_in_refused : (T : StateTables) (e : StateEntryData) (node : List ℕ) (interval : ℤ) (y : Option Refusal) → e.command ≡ CheckIn node interval → y ≡ check_in_refusal T (state_of node T.rows) → IsRefusalOf T e y
check_in_refused T e node interval y is same = rw is (refusal_by (check_in_refusal T (state_of node T.rows)) y _ same)

pub forget_refused : (T : StateTables) (e : StateEntryData) (node : List ℕ) (last : ℤ) (y : Option Refusal) → e.command ≡ Forget node last → y ≡ forget_refusal (state_of node T.rows) last → IsRefusalOf T e y
forget_refused T e node last y is same = rw is (refusal_by (forget_refusal (state_of node T.rows) last) y _ same)

-- ---- what valid rows say

moment-prop : (m : ℤ) → IsProp (IsMoment LAST m)
moment-prop m = hlevel props

-- the last moment, and the last check-in of a row that is found, are moments that a store has
pub moment_at : (T : StateTables) (at : ℤ) → ∥ StatesValid T ∥₁ → IsMoment LAST (state_moment T at)
moment_at T at valid = ∥∥₁_elim valid (moment-prop (state_moment T at)) (λ v. moment-kept T at v.last_moment)

pub moment_is : (T : StateTables) (at m : ℤ) → ∥ StatesValid T ∥₁ → m ≡ state_moment T at → IsMoment LAST m
moment_is T at m valid is = subst (IsMoment LAST) (sym is) (moment_at T at valid)

pub found_moment : (T : StateTables) (node : List ℕ) (row : StateData) → ∥ StatesValid T ∥₁ → state_of node T.rows ≡ Some row → HasMoment row
unfolding state_of
found_moment T node row valid found = ∥∥₁_elim valid (moment-prop row.last) (λ v. All-found text_cmp (λ (r : StateData). r.node) HasMoment node row T.rows v.rows found)

pub last_range : (T : StateTables) → ∥ StatesValid T ∥₁ → IsMoment LAST T.last_moment
last_range T valid = ∥∥₁_elim valid (moment-prop T.last_moment) (λ v. v.last_moment)
