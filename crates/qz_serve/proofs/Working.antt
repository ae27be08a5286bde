-- What a turn wants of the trigger store is a scheduler thread's work.
use Rattle.std.proofs.Common.{◌≡◌, ℤ, refl, ap, subst, rules}
use Rattle.std.specs.Prelude.{Some, None}
use Rattle.qz_types.specs.declared.commands.Command.{Command}
use Rattle.qz_types.specs.declared.commands.Command.TheVariants as asks
use Rattle.qz_node.specs.declared.turns.Want.{Want}
use Rattle.qz_node.specs.declared.turns.Want.TheVariants as want
use Rattle.qz_node.specs.Turns.{TurnData, wanted}
use Rattle.qz_node.specs.Hubs.{command_of}
use Rattle.qz_node.proofs.Wants.{due}
use Rattle.qz_serve.specs.Entries.{IsWork}

some_same : (a b : Command) → Some a ≡ Some b → a ≡ b
some_same a b is = ap (λ o. elim o as (λ _. Command) [ None ↦ a | Some c ↦ c ]) is

none_some : (c : Command) → None ≡ Some c → ⊥
none_some c is = search rules

wants : (t : TurnData) (now : ℤ) (w : Want) (c : Command) → wanted t now ≡ w → command_of w ≡ Some c → IsWork t.until c
wants t now want.Misfires c is asked = subst (IsWork t.until) (some_same asks.Misfires c asked) tt
wants t now (want.Acquire no_later) c is asked = subst (IsWork t.until) (some_same _ c asked) (record { due = (due t now no_later is).1; no_window = refl; one = refl })
wants t now (want.Fire entry) c is asked = subst (IsWork t.until) (some_same (asks.Fire entry) c asked) tt
wants t now (want.Complete entry code) c is asked = subst (IsWork t.until) (some_same (asks.Complete entry code) c asked) tt
wants t now (want.Execute entry) c is asked = absurd (none_some c asked)
wants t now (want.Rest until) c is asked = absurd (none_some c asked)
wants t now want.End c is asked = absurd (none_some c asked)

pub is_work : (t : TurnData) (now : ℤ) (c : Command) → command_of (wanted t now) ≡ Some c → IsWork t.until c
is_work t now c asked = wants t now (wanted t now) c refl asked
