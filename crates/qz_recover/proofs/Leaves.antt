-- What a leave comes to, by its refusals.
use Rattle.std.proofs.Common.{◌≡◌, ℕ, suc, ℤ, Bool, true, false, List, [], ◌∷◌, length, nat_lt, Option, Some, None, MatchOption, refl, ap, sym, ◌∙◌, arith}
use Rattle.std.proofs.lemmas.Bool.Decides.{nat_tests}
use Rattle.qz_types.specs.Rows.{TriggerData, MemberData, FiredData}
use Rattle.qz_types.specs.declared.replies.Refusal.{Refusal}
use Rattle.qz_types.specs.declared.replies.Refusal.TheVariants.{InUse}
use Rattle.qz_types.specs.declared.replies.Reply.TheVariants.{Done}
use Rattle.qz_types.specs.Tables.{SchedulerTables}
use Rattle.qz_types.specs.Outcomes.{Outcome, accepted, refused, unless, IsAccepted}
use Rattle.qz_types.specs.Words.{without_member}
use Rattle.qz_model.specs.Membership.{node_refusal}
use Rattle.qz_model.specs.Recovery.{lost_of, rows_of_others, freed_by, unblocked_by, leave_refusal, leave}
use Rattle.qz_model.specs.Tests.{or_refusal, refuse_if}
use Rattle.qz_apply.proofs.Accepted.{no_refusal}
use Rattle.qz_recover.proofs.Walk.{none_excluded}

fenced_at : (x y : Option Refusal) (r : Refusal) (o : Outcome) → x ≡ Some r → unless (or_refusal x y) o ≡ refused r
fenced_at None y r o e = absurd (cc)
fenced_at (Some x) y r o e = let same : x ≡ r = cc in ap refused same

of_second : (x y : Option Refusal) (o : Outcome) → x ≡ None → IsAccepted o → MatchOption y (IsAccepted (unless (or_refusal x y) o)) (λ r. unless (or_refusal x y) o ≡ refused r)
of_second None None o e is = is
of_second None (Some r) o e is = refl
of_second (Some x) y o e is = absurd (cc)

-- a node that is no member is refused
pub fenced : (T : SchedulerTables) (m : ℤ) (me : MemberData) (r : Refusal) → node_refusal T me ≡ Some r → leave T m me ≡ refused r
fenced T m me r e = fenced_at (node_refusal T me) (leave_refusal T me) r _ e

-- a member leaves unless its executions keep it
pub of_leave : (T : SchedulerTables) (m : ℤ) (me : MemberData) → node_refusal T me ≡ None → MatchOption (leave_refusal T me) (IsAccepted (leave T m me)) (λ r. leave T m me ≡ refused r)
of_leave T m me e = of_second (node_refusal T me) (leave_refusal T me) _ e tt

-- Executions of its own would refuse it.
not_over : (x : Option Refusal) (b : Bool) (r : Refusal) (o : Outcome) → IsAccepted (unless (or_refusal x (refuse_if b r None)) o) → b ≡ false
not_over None true r o is = absurd is
not_over None false r o is = refl
not_over (Some x) b r o is = absurd is

positive : (n : ℕ) → nat_lt 0 (suc n) ≡ false → ⊥
positive n e = grind (arith, nat_tests)

none_counted : (rows : List FiredData) → nat_lt 0 (length rows) ≡ false → rows ≡ []
none_counted [] e = refl
none_counted (f ∷ rows) e = absurd (positive (length rows) e)

-- so there is none that excluded a trigger
given_back : (T : SchedulerTables) (m : ℤ) (me : MemberData) → IsAccepted (leave T m me) → unblocked_by (lost_of me T.fired) (freed_by me T.fired T.triggers) ≡ freed_by me T.fired T.triggers
unfolding leave_refusal
given_back T m me is =
    let none : lost_of me T.fired ≡ [] = none_counted (lost_of me T.fired) (not_over (node_refusal T me) (nat_lt 0 (length (lost_of me T.fired))) (InUse (length (lost_of me T.fired))) _ is) in
    ap (λ rows. unblocked_by rows (freed_by me T.fired T.triggers)) none ∙ none_excluded (freed_by me T.fired T.triggers)

-- what an accepted Leave comes to
pub leave_accepted : (T : SchedulerTables) (m : ℤ) (me : MemberData) → IsAccepted (leave T m me)
    → leave T m me ≡ accepted (record T {
      triggers = unblocked_by (lost_of me T.fired) (freed_by me T.fired T.triggers);
      fired = rows_of_others me T.fired;
      members = without_member me.node T.members;
      last_moment = m;
    }) Done
leave_accepted T m me is =
    no_refusal (or_refusal (node_refusal T me) (leave_refusal T me)) _ is
    ∙ ap (λ (ts : List TriggerData). accepted (record T { triggers = ts; fired = rows_of_others me T.fired; members = without_member me.node T.members; last_moment = m }) Done)
    (sym (given_back T m me is))
