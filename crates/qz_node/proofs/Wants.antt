-- What a node may want at a moment.
use Rattle.std.proofs.Common.{◌≡◌, ◌≤ℤ◌, ◌<ℤ◌, ◌+ℤ◌, ℕ, ℤ, pos, false, int_le, ap, subst, arith, rules}
use Rattle.std.specs.Int.{int_max, int_min}
use Rattle.qz_node.specs.declared.turns.Want.TheVariants as want
use Rattle.qz_node.specs.Turns.{TurnData, wanted, IsHeld}
use Rattle.qz_node.proofs.Cases.{of_wanted}

-- how far an Acquire looks
abbrev IsDue : ℤ → ℤ → ℤ → Type 0
IsDue until now no_later = (no_later ≤ℤ int_max now (pos 0)) × (no_later ≤ℤ int_max until (pos 0)) × (pos 0 ≤ℤ no_later)

-- how long a rest is
abbrev IsBrief : ℤ → ℤ → ℤ → Type 0
IsBrief until now end = (now <ℤ end) × (end ≤ℤ (now +ℤ pos 1000)) × (end ≤ℤ until)

same_acquire : (a b : ℤ) → want.Acquire a ≡ want.Acquire b → a ≡ b
same_acquire a b is = ap (λ w. elim w as (λ _. ℤ) [ want.Acquire n ↦ n | other ↦ a ]) is

same_rest : (a b : ℤ) → want.Rest a ≡ want.Rest b → a ≡ b
same_rest a b is = ap (λ w. elim w as (λ _. ℤ) [ want.Rest n ↦ n | other ↦ a ]) is

same_execute : (a b : ℕ) → want.Execute a ≡ want.Execute b → a ≡ b
same_execute a b is = ap (λ w. elim w as (λ _. ℕ) [ want.Execute n ↦ n | other ↦ a ]) is

due_bounds : (until now : ℤ) → IsDue until now (int_max (int_min until now) (pos 0))
due_bounds until now = (grind arith, grind arith, grind arith)

brief_bounds : (until now : ℤ) → int_le until now ≡ false → IsBrief until now (int_min until (now +ℤ pos 1000))
brief_bounds until now early = (grind arith, grind arith, grind arith)

pub due : (t : TurnData) (now no_later : ℤ) → wanted t now ≡ want.Acquire no_later → IsDue t.until now no_later
due t now no_later =
    of_wanted t now (λ w. w ≡ want.Acquire no_later → IsDue t.until now no_later)
    (λ was is. search rules)
    (λ idle is. search rules)
    (λ idle is. subst (λ n. IsDue t.until now n) (same_acquire (int_max (int_min t.until now) (pos 0)) no_later is) (due_bounds t.until now))
    (λ idle early is. search rules)
    (λ idle late is. search rules)
    (λ entry holds is. search rules)
    (λ entry holds is. search rules)
    (λ entry code holds is. search rules)

pub brief : (t : TurnData) (now end : ℤ) → wanted t now ≡ want.Rest end → IsBrief t.until now end
brief t now end =
    of_wanted t now (λ w. w ≡ want.Rest end → IsBrief t.until now end)
    (λ was is. search rules)
    (λ idle is. search rules)
    (λ idle is. search rules)
    (λ idle early is. subst (λ n. IsBrief t.until now n) (same_rest (int_min t.until (now +ℤ pos 1000)) end is) (brief_bounds t.until now early))
    (λ idle late is. search rules)
    (λ entry holds is. search rules)
    (λ entry holds is. search rules)
    (λ entry code holds is. search rules)

-- what is executed is held
pub executes_held : (t : TurnData) (now : ℤ) (x : ℕ) → wanted t now ≡ want.Execute x → IsHeld x t.held
executes_held t now x =
    of_wanted t now (λ w. w ≡ want.Execute x → IsHeld x t.held)
    (λ was is. search rules)
    (λ idle is. search rules)
    (λ idle is. search rules)
    (λ idle early is. search rules)
    (λ idle late is. search rules)
    (λ entry holds is. search rules)
    (λ entry holds is. subst (λ n. IsHeld n t.held) (same_execute entry x is) holds)
    (λ entry code holds is. search rules)
