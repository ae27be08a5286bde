-- A fact of what a turn wants, where it holds of each kind of want. What is known of the turn then is given.
use Rattle.std.proofs.Common.{◌≡◌, ◌+ℤ◌, ℕ, ℤ, pos, Bool, true, false, int_le, if◌then◌else◌, refl, sym, subst}
use Rattle.std.specs.Prelude.{Option, Some, None}
use Rattle.std.specs.Int.{int_max, int_min}
use Rattle.qz_types.specs.declared.commands.Code.{Code}
use Rattle.qz_node.specs.declared.turns.LastHeard.{LastHeard}
use Rattle.qz_node.specs.declared.turns.LastHeard.TheVariants as last
use Rattle.qz_node.specs.declared.turns.Held.{Held}
use Rattle.qz_node.specs.declared.turns.Idle.{Idle}
use Rattle.qz_node.specs.declared.turns.Idle.TheVariants as idle
use Rattle.qz_node.specs.declared.turns.Want.{Want}
use Rattle.qz_node.specs.declared.turns.Want.TheVariants as want
use Rattle.qz_node.specs.Turns.{TurnData, wanted, wanted_with, wanted_idle, wanted_of, IsHeld, IsIdle}

module _ (t : TurnData) (now : ℤ) (P : Want → Type 0)
    (fenced : t.fenced ≡ true → P want.End)
    (misfires : IsIdle t idle.Misfires → P want.Misfires)
    (acquire : IsIdle t idle.Acquire → P (want.Acquire (int_max (int_min t.until now) (pos 0))))
    (rest : IsIdle t idle.Rest → int_le t.until now ≡ false → P (want.Rest (int_min t.until (now +ℤ pos 1000))))
    (done : IsIdle t idle.Rest → int_le t.until now ≡ true → P want.End)
    (fire : (entry : ℕ) → IsHeld entry t.held → P (want.Fire entry))
    (execute : (entry : ℕ) → IsHeld entry t.held → P (want.Execute entry))
    (complete : (entry : ℕ) (code : Code) → IsHeld entry t.held → P (want.Complete entry code)) where
  of_rest : (b : Bool) → IsIdle t idle.Rest → int_le t.until now ≡ b → P (if b then want.End else want.Rest (int_min t.until (now +ℤ pos 1000)))
  of_rest true is late = done is late
  of_rest false is early = rest is early

  of_idle : (i : Idle) → IsIdle t i → P (wanted_idle t.until i now)
  of_idle idle.Misfires is = misfires is
  of_idle idle.Acquire is = acquire is
  of_idle idle.Rest is = of_rest (int_le t.until now) is refl

  of_held : (entry : ℕ) (l : LastHeard) → IsHeld entry t.held → P (wanted_of entry l)
  of_held entry last.Acquired holds = fire entry holds
  of_held entry last.Fired holds = execute entry holds
  of_held entry last.Again holds = execute entry holds
  of_held entry (last.Executed code) holds = complete entry code holds

  of_hands : (o : Option Held) → t.held ≡ o → P (wanted_with o t now)
  of_hands None is = of_idle t.idle (record { free = is; wants = refl })
  of_hands (Some held) is = of_held held.entry held.last (subst (λ o. IsHeld held.entry o) (sym is) refl)

  of_turn : (b : Bool) → t.fenced ≡ b → P (if b then want.End else wanted_with t.held t now)
  of_turn true is = fenced is
  of_turn false is = of_hands t.held refl

  pub of_wanted : P (wanted t now)
  of_wanted = of_turn t.fenced refl
