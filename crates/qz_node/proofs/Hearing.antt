-- What a store replies to what a turn wants, the turn may hear; and what it wants is a node's command within its limits.
use Rattle.std.proofs.Common.{◌≡◌, ◌≤ℤ◌, ℕ, ℤ, pos, refl, sym, ap, subst, arith, rules}
use Rattle.std.specs.Prelude.{Some, None, IsTrue}
use Rattle.std.specs.Int.{int_max, int_min}
use Rattle.qz_civil.specs.Timings.{is_span}
use Rattle.qz_civil.specs.declared.limits.TheConstants.{LONGEST}
use Rattle.qz_types.specs.declared.commands.Code.{Code}
use Rattle.qz_types.specs.declared.commands.Command.{Command}
use Rattle.qz_types.specs.declared.commands.Command.TheVariants as asks
use Rattle.qz_types.specs.declared.replies.Reply.{Reply}
use Rattle.qz_types.specs.declared.replies.Reply.TheVariants as reply
use Rattle.qz_types.specs.Entries.{is_command, is_of_node}
use Rattle.qz_node.specs.declared.turns.Idle.TheVariants as idle
use Rattle.qz_node.specs.Turns.{TurnData, wanted, CanHearReply, IsHeld, IsIdle}
use Rattle.qz_node.specs.Hubs.{command_of, IsReplyTo}
use Rattle.qz_node.proofs.Cases.{of_wanted}

-- the command of what is wanted
some_same : (a b : Command) → Some a ≡ Some b → a ≡ b
some_same a b is = ap (λ o. elim o as (λ _. Command) [ None ↦ a | Some c ↦ c ]) is

none_some : (c : Command) → None ≡ Some c → ⊥
none_some c is = search rules

-- A fact of each command that a turn wants, where it holds of each kind of them.
module _ (t : TurnData) (now : ℤ) (P : Command → Type 0)
    (misfires : IsIdle t idle.Misfires → P asks.Misfires)
    (acquire : IsIdle t idle.Acquire → P (asks.Acquire (int_max (int_min t.until now) (pos 0)) (pos 0) 1))
    (fire : (entry : ℕ) → IsHeld entry t.held → P (asks.Fire entry))
    (complete : (entry : ℕ) (code : Code) → IsHeld entry t.held → P (asks.Complete entry code)) where
  of_command : (c : Command) → command_of (wanted t now) ≡ Some c → P c
  of_command c =
      of_wanted t now (λ w. command_of w ≡ Some c → P c)
      (λ was wants. absurd (none_some c wants))
      (λ is wants. subst P (some_same asks.Misfires c wants) (misfires is))
      (λ is wants. subst P (some_same (asks.Acquire (int_max (int_min t.until now) (pos 0)) (pos 0) 1) c wants) (acquire is))
      (λ is early wants. absurd (none_some c wants))
      (λ is late wants. absurd (none_some c wants))
      (λ entry holds wants. subst P (some_same (asks.Fire entry) c wants) (fire entry holds))
      (λ entry holds wants. absurd (none_some c wants))
      (λ entry code holds wants. subst P (some_same (asks.Complete entry code) c wants) (complete entry code holds))

module _ (t : TurnData) where
  hears_misfired : (r : Reply) → IsIdle t idle.Misfires → IsReplyTo asks.Misfires r → CanHearReply t r
  hears_misfired (reply.Misfired moved) is fits = is
  hears_misfired other is fits = absurd fits

  hears_acquired : (r : Reply) (no_later : ℤ) → IsIdle t idle.Acquire → IsReplyTo (asks.Acquire no_later (pos 0) 1) r → CanHearReply t r
  hears_acquired (reply.Acquired taken) no_later is fits = (is, fits)
  hears_acquired other no_later is fits = absurd fits

  hears_fired : (r : Reply) (entry : ℕ) → IsHeld entry t.held → IsReplyTo (asks.Fire entry) r → CanHearReply t r
  hears_fired (reply.Fired of scheduled fired next trigger job) entry holds fits = subst (λ x. IsHeld x t.held) (sym fits) holds
  hears_fired other entry holds fits = absurd fits

  hears_completed : (r : Reply) (entry : ℕ) (code : Code) → IsHeld entry t.held → IsReplyTo (asks.Complete entry code) r → CanHearReply t r
  hears_completed (reply.Completed of) entry code holds fits = subst (λ x. IsHeld x t.held) (sym fits) holds
  hears_completed (reply.Again of) entry code holds fits = subst (λ x. IsHeld x t.held) (sym fits.0) holds
  hears_completed other entry code holds fits = absurd fits

pub can_hear : (t : TurnData) (now : ℤ) (c : Command) (r : Reply) → command_of (wanted t now) ≡ Some c → IsReplyTo c r → CanHearReply t r
can_hear t now c r wants fits =
    of_command t now (λ k. IsReplyTo k r → CanHearReply t r)
    (λ is. hears_misfired t r is)
    (λ is. hears_acquired t r (int_max (int_min t.until now) (pos 0)) is)
    (λ entry holds. hears_fired t r entry holds)
    (λ entry code holds. hears_completed t r entry code holds)
    c wants fits

-- what a turn wants is a node's command
pub is_node_command : (t : TurnData) (now : ℤ) (c : Command) → command_of (wanted t now) ≡ Some c → IsTrue (is_of_node c)
is_node_command t now c wants =
    of_command t now (λ k. IsTrue (is_of_node k))
    (λ is. refl)
    (λ is. refl)
    (λ entry holds. refl)
    (λ entry code holds. refl)
    c wants

-- the lesser of two moments, or 0, is within the limits where the first is at most the limit
span_of : (until now : ℤ) → until ≤ℤ LONGEST → IsTrue (is_span (int_max (int_min until now) (pos 0)))
span_of until now below = grind arith

-- what a turn wants is within the limits of commands
pub is_valid : (t : TurnData) (now : ℤ) (c : Command) → t.until ≤ℤ LONGEST → command_of (wanted t now) ≡ Some c → IsTrue (is_command c)
is_valid t now c below wants =
    of_command t now (λ k. IsTrue (is_command k))
    (λ is. refl)
    (λ is. let s = span_of t.until now below in search (rules, s))
    (λ entry holds. refl)
    (λ entry code holds. refl)
    c wants
