-- What a join comes to.
use Rattle.std.proofs.Common.{◌≡◌, ◌+◌, ◌<◌, ℕ, ℤ, Bool, true, false, nat_lt, nat_le, List, length, Option, Some, None, MatchOption, refl, ap, ◌∙◌, arith}
use Rattle.std.proofs.lemmas.Bool.Decides.{nat_tests}
use Rattle.qz_types.specs.Rows.{MemberData}
use Rattle.qz_types.specs.declared.limits.TheConstants.{MEMBER_LIMIT, NUMBER_LIMIT}
use Rattle.qz_types.specs.declared.replies.Refusal.{Refusal}
use Rattle.qz_types.specs.declared.replies.Refusal.TheVariants.{TooMany}
use Rattle.qz_types.specs.declared.replies.Reply.TheVariants.{Joined}
use Rattle.qz_types.specs.Tables.{SchedulerTables}
use Rattle.qz_types.specs.Outcomes.{Outcome, accepted, refused, unless, IsAccepted}
use Rattle.qz_types.specs.Words.{member_of, put_member, without_member}
use Rattle.qz_model.specs.Recovery.{recovered, recovery_refusal, with_new_member, epoch_refusal, join_refusal, joined, join}
use Rattle.qz_model.specs.Tests.{or_refusal, refuse_if}
use Rattle.qz_model.proofs.RowLaws.{member_of-alike, member_of-node, member_of-without_own}
use Rattle.qz_apply.proofs.Accepted.{no_refusal}
use Rattle.qz_apply.proofs.Refused.{of_one}
use Rattle.qz_recover.specs.Recovering.{executions_of, taken_over, triggers_for}

joined_accepted : (T : SchedulerTables) (m : ℤ) (node : List ℕ) (o : Option MemberData) → IsAccepted (joined T m node o)
joined_accepted T m node None = tt
joined_accepted T m node (Some member) = tt

-- what refuses the node refuses the join
pub of_join : (T : SchedulerTables) (m : ℤ) (node : List ℕ) → MatchOption (join_refusal T (member_of node T.members)) (IsAccepted (join T m node)) (λ r. join T m node ≡ refused r)
of_join T m node = of_one (join_refusal T (member_of node T.members)) (joined T m node (member_of node T.members)) (joined_accepted T m node (member_of node T.members))

same_epoch : (T : SchedulerTables) (o : Option MemberData) → (taken_over T o).next_epoch ≡ T.next_epoch
unfolding recovered
same_epoch T None = refl
same_epoch T (Some member) = refl

-- what is left, whether a member has the name or not
pub same_joined : (T : SchedulerTables) (m : ℤ) (node : List ℕ) (o : Option MemberData)
    → joined T m node o ≡ accepted (record (with_new_member (taken_over T o) node) { last_moment = m }) (Joined T.next_epoch (executions_of T o) (triggers_for T o))
same_joined T m node None = refl
same_joined T m node (Some member) = refl

with_epoch : (U : SchedulerTables) (m : ℤ) (node : List ℕ) (epoch : ℕ) → U.next_epoch ≡ epoch
    → record (with_new_member U node) { last_moment = m } ≡ record U { members = put_member (record { node = node; epoch = epoch }) U.members; next_epoch = epoch + 1; last_moment = m }
unfolding with_new_member
with_epoch U m node epoch same = ap (λ (n : ℕ). record U { members = put_member (record { node = node; epoch = n }) U.members; next_epoch = n + 1; last_moment = m }) same

-- a join that is accepted, where the member of its name is this one
pub join_accepted : (T : SchedulerTables) (m : ℤ) (node : List ℕ) (o : Option MemberData) → member_of node T.members ≡ o → IsAccepted (join T m node)
    → join T m node ≡ accepted (record (taken_over T o) {
      members = put_member (record { node = node; epoch = T.next_epoch }) (taken_over T o).members;
      next_epoch = T.next_epoch + 1;
      last_moment = m;
    }) (Joined T.next_epoch (executions_of T o) (triggers_for T o))
join_accepted T m node o found is =
    no_refusal (join_refusal T (member_of node T.members)) (joined T m node (member_of node T.members)) is
    ∙ ap (joined T m node) found
    ∙ same_joined T m node o
    ∙ ap (λ (U : SchedulerTables). accepted U (Joined T.next_epoch (executions_of T o) (triggers_for T o))) (with_epoch (taken_over T o) m node T.next_epoch (same_epoch T o))

-- an epoch is left where a join is accepted
not_refused : (b : Bool) (r : Refusal) (next : Option Refusal) (o : Outcome) → IsAccepted (unless (refuse_if b r next) o) → (b ≡ false) × IsAccepted (unless next o)
not_refused true r next o is = absurd is
not_refused false r next o is = (refl, is)

second : (x y : Option Refusal) (o : Outcome) → IsAccepted (unless (or_refusal x y) o) → IsAccepted (unless y o)
second None y o is = is
second (Some r) y o is = absurd is

epoch_within : (T : SchedulerTables) (o : Outcome) → IsAccepted (unless (epoch_refusal T) o) → T.next_epoch < NUMBER_LIMIT
unfolding epoch_refusal
epoch_within T o is =
    let within = (not_refused (nat_lt NUMBER_LIMIT (T.next_epoch + 1)) (TooMany NUMBER_LIMIT) None o is).0 in
    grind (arith, nat_tests, within)

epoch_after : (T : SchedulerTables) (found : Option MemberData) (o : Outcome) → IsAccepted (unless (join_refusal T found) o) → T.next_epoch < NUMBER_LIMIT
unfolding join_refusal
epoch_after T None o is = epoch_within T o (not_refused (nat_le MEMBER_LIMIT (length T.members)) (TooMany MEMBER_LIMIT) (epoch_refusal T) o is).1
epoch_after T (Some member) o is = epoch_within T o (second (recovery_refusal T member) (epoch_refusal T) o is)

pub epoch_left : (T : SchedulerTables) (m : ℤ) (node : List ℕ) → IsAccepted (join T m node) → T.next_epoch < NUMBER_LIMIT
epoch_left T m node is = epoch_after T (member_of node T.members) (joined T m node (member_of node T.members)) is

-- no member has the name once that of the name is gone
pub no_member : (T : SchedulerTables) (node : List ℕ) (o : Option MemberData) → member_of node T.members ≡ o → member_of node (taken_over T o).members ≡ None
unfolding recovered
no_member T node None is = is
no_member T node (Some member) is = member_of-alike node member.node (without_member member.node T.members) (member_of-node node member T.members is) ∙ member_of-without_own member.node T.members
