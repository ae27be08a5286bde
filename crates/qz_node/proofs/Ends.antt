-- When a node wants to end: what it does next agrees with what it has heard.
use Rattle.std.proofs.Common.{◌≡◌, ◌⊎◌, inl, inr, ℤ, int_le, Bool, true, false, ◌||◌, List, [], ◌∷◌, refl, sym, ap, ◌∙◌, arith, rules, subst, if◌then◌else◌}
use Rattle.std.specs.Prelude.{⊤, Option, Some, None}
use Rattle.std.specs.Option.{option_or}
use Rattle.qz_types.specs.declared.replies.Taken.{Taken}
use Rattle.qz_types.specs.declared.replies.MovedRow.{MovedRow}
use Rattle.qz_types.specs.declared.replies.Reply.{Reply}
use Rattle.qz_types.specs.declared.replies.Reply.TheVariants as reply
use Rattle.qz_node.specs.declared.turns.Held.{Held}
use Rattle.qz_node.specs.declared.turns.Idle.{Idle}
use Rattle.qz_node.specs.declared.turns.Idle.TheVariants as idle
use Rattle.qz_node.specs.declared.turns.Heard.{Heard}
use Rattle.qz_node.specs.declared.turns.Heard.TheVariants as hears
use Rattle.qz_node.specs.declared.turns.Want.TheVariants as want
use Rattle.qz_node.specs.Turns.{TurnData, learnt, learnt_reply, refused_with, ends_at_refusal, ended, IsIdle, CanHear, CanHearReply, is_fenced, wanted}
use Rattle.qz_node.proofs.Cases.{of_wanted}
use Rattle.qz_node.proofs.Keeping.{Keeps, heard_keeps}
use Rattle.qz_node.specs.TurnRuns.{turn_of, CouldHear, misfired_in, acquired_in, misfired_by, acquired_by, is_fencing, last_misfired, last_acquired, was_fenced, IsDone}

-- what was heard last, by what an idle node does next
abbrev Agrees : Idle → Option (List MovedRow) → Option (List Taken) → Type 0
Agrees idle.Misfires moved taken = ⊤
Agrees idle.Acquire moved taken = moved ≡ Some []
Agrees idle.Rest moved taken = (moved ≡ Some []) × (taken ≡ Some [])

reply_agrees : (t : TurnData) (r : Reply) (moved : Option (List MovedRow)) (taken : Option (List Taken)) → CanHearReply t r → Agrees t.idle moved taken → Agrees (learnt_reply t r).idle (option_or (misfired_in r) moved) (option_or (acquired_in r) taken)
reply_agrees t (reply.Misfired []) moved taken can a = refl
reply_agrees t (reply.Misfired (m ∷ ms)) moved taken can a = subst (λ i. Agrees i (Some (m ∷ ms)) taken) (sym can.wants) tt
reply_agrees t (reply.Acquired []) moved taken can a = (subst (λ i. Agrees i moved taken) can.0.wants a, refl)
reply_agrees t (reply.Acquired (x ∷ xs)) moved taken can a = subst (λ i. Agrees i moved (Some (x ∷ xs))) (sym can.0.wants) (subst (λ i. Agrees i moved taken) can.0.wants a)
reply_agrees t (reply.Completed entry) moved taken can a = tt
reply_agrees t other moved taken can a = a

ended_agrees : (t : TurnData) (b : Bool) (moved : Option (List MovedRow)) (taken : Option (List Taken)) → Agrees t.idle moved taken → Agrees (if b then ended t else t).idle moved taken
ended_agrees t true moved taken a = tt
ended_agrees t false moved taken a = a

refused_agrees : (t : TurnData) (h : Option Held) (moved : Option (List MovedRow)) (taken : Option (List Taken)) → Agrees t.idle moved taken → Agrees (refused_with h t).idle moved taken
refused_agrees t None moved taken a = a
refused_agrees t (Some held) moved taken a = ended_agrees t (ends_at_refusal held.last) moved taken a

heard_agrees : (t : TurnData) (h : Heard) (moved : Option (List MovedRow)) (taken : Option (List Taken)) → CanHear t h → Agrees t.idle moved taken → Agrees (learnt t h).idle (option_or (misfired_by h) moved) (option_or (acquired_by h) taken)
heard_agrees t (hears.Reply r) moved taken can a = reply_agrees t r.now moved taken can a
heard_agrees t (hears.Refused r) moved taken can a = refused_agrees (record t { fenced = is_fenced r.now || t.fenced }) t.held moved taken a
heard_agrees t (hears.Executed entry code) moved taken can a = a
heard_agrees t hears.Rested moved taken can a = tt

agrees : (until : ℤ) (heard : List Heard) → CouldHear until heard → Agrees (turn_of until heard).idle (last_misfired heard) (last_acquired heard)
agrees until [] could = tt
agrees until (h ∷ past) could = heard_agrees (turn_of until past) h (last_misfired past) (last_acquired past) could.0 (agrees until past could.1)

keeps : (until : ℤ) (heard : List Heard) → Keeps (turn_of until heard) until (was_fenced heard)
keeps until [] = record { until = refl; fenced = refl }
keeps until (h ∷ past) =
    let before = keeps until past in
    let now = heard_keeps (turn_of until past) h in
    record { until = now.until ∙ before.until; fenced = now.fenced ∙ ap (λ b. is_fencing h || b) before.fenced }

-- a node that would rest from its last moment on is done
done : (until now : ℤ) (heard : List Heard) → (turn_of until heard).until ≡ until → IsIdle (turn_of until heard) idle.Rest → int_le (turn_of until heard).until now ≡ true → Agrees idle.Rest (last_misfired heard) (last_acquired heard) → IsDone until now heard
done until now heard same is late seen =
    record { no_misfires = seen.0; none_due = seen.1; none_held = is.free; late_enough = grind arith }

pub ends : (until now : ℤ) (heard : List Heard) → CouldHear until heard → wanted (turn_of until heard) now ≡ want.End → (was_fenced heard ≡ true) ⊎ IsDone until now heard
ends until now heard could =
    let t = turn_of until heard in
    let kept = keeps until heard in
    let seen = agrees until heard could in
    of_wanted t now (λ w. w ≡ want.End → (was_fenced heard ≡ true) ⊎ IsDone until now heard)
    (λ was is. inl (sym kept.fenced ∙ was))
    (λ idle is. search rules)
    (λ idle is. search rules)
    (λ idle early is. search rules)
    (λ idle late is. inr (done until now heard kept.until idle late (subst (λ i. Agrees i (last_misfired heard) (last_acquired heard)) idle.wants seen)))
    (λ entry holds is. search rules)
    (λ entry holds is. search rules)
    (λ entry code holds is. search rules)
