-- This fact has at most one proof, so that a held store can keep it.
use Rattle.std.proofs.Common.{◌≡◌, ◌≤◌, ℕ, Bool, true, false, List}
use Rattle.std.proofs.Props.{props}
use Rattle.qz_civil.specs.Causes.{Rose}
use Rattle.qz_stores.specs.Stores.{EntryKind, StoreState}
use Rattle.qz_shared.specs.Since.{IsSince}

number_once : (a b : ℕ) → IsProp (a ≡ b)
number_once a b = hlevel props

order_once : (a b : ℕ) → IsProp (a ≤ b)
order_once a b = hlevel props

fault_once : (was is : Bool) (a b : ℕ) → IsProp (was ≡ true → is ≡ false → Rose a b)
fault_once was is a b = hlevel props

module _ {H E R : Type 0} (kind : EntryKind H E R) (listed : H → List E) (histories_once : (h i : H) → IsProp (h ≡ i)) where
  pub IsSince-prop : (first now : StoreState H E) → IsProp (IsSince kind listed first now)
  IsSince-prop first now p q = λ i. record {
    history = histories_once _ _ p.history q.history i;
    gate = number_once _ _ p.gate q.gate i;
    payloads = number_once _ _ p.payloads q.payloads i;
    few = order_once _ _ p.few q.few i;
    later = order_once _ _ p.later q.later i;
    fault = fault_once first.is_open now.is_open first.faults now.faults p.fault q.fault i;
  }
