-- A member that leaves keeps the tables valid.
use Rattle.std.proofs.Common.{◌≡◌, ◌≤◌, ℤ, Bool, true, false, not, ◌&&◌, List, length, nat_lt, Option, Some, None, IsSomeAnd, refl, subst}
use Rattle.std.specs.Prelude.{⊤}
use Rattle.std.specs.List.{AllByRecursion}
use Rattle.std.proofs.lemmas.Bool.{ltb-false}
use Rattle.qz_types.specs.Rows.{MemberData, FiredData}
use Rattle.qz_types.specs.declared.replies.Reply.{Reply}
use Rattle.qz_types.specs.declared.replies.Reply.TheVariants.{Done}
use Rattle.qz_types.specs.declared.replies.Refusal.TheVariants.{InUse}
use Rattle.qz_types.specs.Changes.{without_acquired}
use Rattle.qz_types.specs.States.{is_acquired}
use Rattle.qz_types.specs.Tables.{SchedulerTables, IsMoment}
use Rattle.qz_types.specs.Outcomes.{accepted}
use Rattle.qz_types.specs.Words.{member_of, without_member}
use Rattle.qz_model.specs.Invariant.{TablesValid}
use Rattle.qz_model.specs.Membership.{node_refusal}
use Rattle.qz_model.specs.Recovery.{lost_of, rows_of_others, freed_by, leave_refusal, leave}
use Rattle.qz_model.specs.Tests.{is_of, or_refusal}
use Rattle.qz_model.proofs.Changes.{passes, valid-moment}
use Rattle.qz_model.proofs.GivenBack.{valid-given_back}
use Rattle.qz_model.proofs.KeptAcquiring.{member_of_actor}
use Rattle.qz_model.proofs.MembersGone.{valid-without_member}
use Rattle.qz_model.proofs.Refusals.{not_refused, no_first}
use Rattle.qz_model.proofs.RowPoints.{All-from, All-left, All-weaker, filter-alike, none-filtered}

-- a row of the member is acquired where it has no executions
same_answer : (taken mine : Bool) → (not taken && mine) ≡ false → not (taken && mine) ≡ not mine
same_answer true mine e = refl
same_answer false true e = absurd (cc)
same_answer false false e = refl

-- so its acquired rows are all that it has
pub rows_where_none_lost : (me : MemberData) (fired : List FiredData) → length (lost_of me fired) ≤ 0 → without_acquired (is_of me) fired ≡ rows_of_others me fired
unfolding lost_of rows_of_others without_acquired
rows_where_none_lost me fired none =
    filter-alike (λ f. not (is_acquired f.state && is_of me f)) (λ f. not (is_of me f)) fired
    (All-weaker (λ f. (not (is_acquired f.state) && is_of me f) ≡ false) (λ f. not (is_acquired f.state && is_of me f) ≡ not (is_of me f)) fired (λ f no. same_answer (is_acquired f.state) (is_of me f) no)
    (none-filtered (λ f. not (is_acquired f.state) && is_of me f) fired none))

pub none_of_others : (me : MemberData) (fired : List FiredData) → AllByRecursion (λ f. is_of me f ≡ false) (rows_of_others me fired)
unfolding rows_of_others
none_of_others me fired = All-left (λ f. ⊤) (λ f. is_of me f ≡ false) (is_of me) fired (All-from (λ f. ⊤) fired (λ f. tt)) (λ f other any. other)

left_at : (T : SchedulerTables) (m : ℤ) (me : MemberData) (o : Option MemberData) → TablesValid T → IsMoment T.horizon m → member_of me.node T.members ≡ o → IsSomeAnd o (λ x. x.epoch ≡ me.epoch)
    → length (lost_of me T.fired) ≤ 0
    → TablesValid (record T { triggers = freed_by me T.fired T.triggers; fired = rows_of_others me T.fired; members = without_member me.node T.members; last_moment = m })
left_at T m me None valid is found live none = absurd live
left_at T m me (Some member) valid is found live none =
    let U : SchedulerTables = record T { triggers = freed_by me T.fired T.triggers; fired = rows_of_others me T.fired } in
    let given_back : TablesValid U = subst (λ fired. TablesValid (record T { triggers = freed_by me T.fired T.triggers; fired = fired })) (rows_where_none_lost me T.fired none) (valid-given_back T me valid) in
    valid-moment (record U { members = without_member me.node T.members }) m (valid-without_member U me member given_back found live (none_of_others me T.fired)) is

none_lost : (T : SchedulerTables) (me : MemberData) → leave_refusal T me ≡ None → length (lost_of me T.fired) ≤ 0
unfolding leave_refusal
none_lost T me clear = ltb-false 0 (length (lost_of me T.fired)) (not_refused (nat_lt 0 (length (lost_of me T.fired))) (InUse (length (lost_of me T.fired))) None clear).0

pub kept-leave : (T T' : SchedulerTables) (m : ℤ) (me : MemberData) (r : Reply) → TablesValid T → IsMoment T.horizon m → leave T m me ≡ accepted T' r → TablesValid T'
kept-leave T T' m me r valid is e =
    let way = passes (or_refusal (node_refusal T me) (leave_refusal T me)) _ T' r e in
    let clear = no_first (node_refusal T me) (leave_refusal T me) way.clear in
    let same : accepted (record T { triggers = freed_by me T.fired T.triggers; fired = rows_of_others me T.fired; members = without_member me.node T.members; last_moment = m }) Done ≡ accepted T' r = way.outcome in
    subst TablesValid (cc) (left_at T m me (member_of me.node T.members) valid is refl (member_of_actor T me clear.0) (none_lost T me clear.1))
