-- What a Leave leaves.
use Rattle.std.proofs.Common.{◌≡◌, ◌==◌, ℤ, ℕ, List, [], false, not, ◌&&◌}
use Rattle.std.specs.List.{AllByRecursion}
use Rattle.std.proofs.lemmas.Bool.{and_left}
use Rattle.qz_types.specs.Rows.{TriggerData, MemberData, FiredData}
use Rattle.qz_types.specs.declared.triggers.TriggerState.TheVariants.{Waiting}
use Rattle.qz_types.specs.declared.replies.Reply.{Reply}
use Rattle.qz_types.specs.declared.replies.Reply.TheVariants.{Done}
use Rattle.qz_types.specs.Changes.{in_state}
use Rattle.qz_types.specs.States.{is_acquired_for}
use Rattle.qz_types.specs.Tables.{SchedulerTables}
use Rattle.qz_types.specs.Outcomes.{accepted}
use Rattle.qz_types.specs.Words.{same_text, without_member}
use Rattle.qz_model.specs.Membership.{node_refusal}
use Rattle.qz_model.specs.Recovery.{rows_of_others, has_acquired, freed_by, leave_refusal, leave}
use Rattle.qz_model.specs.Tests.{is_of, or_refusal}
use Rattle.qz_model.proofs.Changes.{passes}
use Rattle.qz_model.proofs.RowPoints.{All-weaker, any_none}
use Rattle.qz_seen.specs.Seen.{rows_of}
use Rattle.qz_seen.proofs.Lists.{map_unchanged}
use Rattle.qz_seen.proofs.NodeRows.{IsOthers, others-of, none-filter}

-- the tables after it
pub record Left (T T' : SchedulerTables) (m : ℤ) (me : MemberData) (r : Reply) : Type 0 where
  pub tables : T' ≡ record T { triggers = freed_by me T.fired T.triggers; fired = rows_of_others me T.fired; members = without_member me.node T.members; last_moment = m }
  pub reply : r ≡ Done

pub left : (T T' : SchedulerTables) (m : ℤ) (me : MemberData) (r : Reply) → leave T m me ≡ accepted T' r → Left T T' m me r
left T T' m me r e =
    let way = passes (or_refusal (node_refusal T me) (leave_refusal T me)) _ T' r e in
    let same : accepted (record T { triggers = freed_by me T.fired T.triggers; fired = rows_of_others me T.fired; members = without_member me.node T.members; last_moment = m }) Done ≡ accepted T' r = way.outcome in
    record { tables = cc; reply = cc }

-- a node with no rows has none
pub others_alone : (me : MemberData) (fired : List FiredData) → rows_of me.node fired ≡ [] → AllByRecursion (λ f. is_of me f ≡ false) fired
unfolding is_of
others_alone me fired none = All-weaker (IsOthers me.node) (λ f. is_of me f ≡ false) fired (λ f other. and_left (same_text me.node f.node) (me.epoch == f.epoch) other) (others-of me.node fired none)

-- no row comes from nothing
pub left-free : (n : List ℕ) (me : MemberData) (fired : List FiredData) → rows_of n fired ≡ [] → rows_of n (rows_of_others me fired) ≡ []
unfolding rows_of_others
left-free n me fired none = none-filter n (λ f. not (is_of me f)) fired none

-- where the member has no rows, the triggers stay
pub left-triggers : (me : MemberData) (fired : List FiredData) (triggers : List TriggerData) → rows_of me.node fired ≡ [] → freed_by me fired triggers ≡ triggers
unfolding freed_by
left-triggers me fired triggers none =
    map_unchanged (λ t. has_acquired me fired t.spec.key) (in_state Waiting) triggers
    (λ t. any_none (λ f. is_of me f && is_acquired_for t.spec.key f) fired
    (All-weaker (λ f. is_of me f ≡ false) (λ f. (is_of me f && is_acquired_for t.spec.key f) ≡ false) fired
    (λ f other. and_left (is_of me f) (is_acquired_for t.spec.key f) other) (others_alone me fired none)))
