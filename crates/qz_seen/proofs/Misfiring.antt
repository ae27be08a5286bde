-- What a Misfires leaves.
use Rattle.std.proofs.Common.{◌≡◌, ℤ, [], fold, filter, map, false, sym, ap, subst}
use Rattle.qz_types.specs.Due.{in_due_order}
use Rattle.qz_types.specs.Rows.{MemberData}
use Rattle.qz_types.specs.declared.replies.Reply.{Reply}
use Rattle.qz_types.specs.declared.replies.Reply.TheVariants as reply
use Rattle.qz_types.specs.Tables.{SchedulerTables}
use Rattle.qz_types.specs.Outcomes.{accepted}
use Rattle.qz_model.specs.Membership.{node_refusal}
use Rattle.qz_model.specs.Misfires.{misfired_triggers, moved_row, with_moved, misfires}
use Rattle.qz_model.proofs.Changes.{passes}
use Rattle.qz_model.proofs.RowPoints.{any_none}
use Rattle.qz_seen.specs.Seen.{some_misfired, waits_misfired}
use Rattle.qz_seen.proofs.Lists.{map_empty, take_empty, none_passes, none_in_order}
use Rattle.qz_seen.proofs.Still.{IsStill, KeepsHands}

-- where a Misfires would move none, none that waits is misfired
none_misfired : (T : SchedulerTables) (m : ℤ) → misfired_triggers T m ≡ [] → some_misfired T m ≡ false
unfolding misfired_triggers some_misfired
none_misfired T m e =
    any_none (waits_misfired T m) T.triggers
    (none_passes (waits_misfired T m) T.triggers (none_in_order (filter (waits_misfired T m) T.triggers) (take_empty 19 (in_due_order (filter (waits_misfired T m) T.triggers)) e)))

pub misfires-keeps : (T T' : SchedulerTables) (m : ℤ) (me : MemberData) (r : Reply) → misfires T m me ≡ accepted T' r → KeepsHands T T' m
misfires-keeps T T' m me r e =
    let way = passes (node_refusal T me) _ T' r e in
    let same : accepted (record T { triggers = fold (with_moved T m) T.triggers (misfired_triggers T m); last_moment = m }) (reply.Misfired (map (moved_row T m) (misfired_triggers T m))) ≡ accepted T' r = way.outcome in
    let is : record T { triggers = fold (with_moved T m) T.triggers (misfired_triggers T m); last_moment = m } ≡ T' = cc in
    record { fired = ap (λ t. t.fired) (sym is); members = ap (λ t. t.members) (sym is); last = ap (λ t. t.last_moment) (sym is) }

pub misfires-reply : (T T' : SchedulerTables) (m : ℤ) (me : MemberData) (r : Reply) → misfires T m me ≡ accepted T' r → r ≡ reply.Misfired (map (moved_row T m) (misfired_triggers T m))
misfires-reply T T' m me r e =
    let way = passes (node_refusal T me) _ T' r e in
    let same : accepted (record T { triggers = fold (with_moved T m) T.triggers (misfired_triggers T m); last_moment = m }) (reply.Misfired (map (moved_row T m) (misfired_triggers T m))) ≡ accepted T' r = way.outcome in
    cc

-- a Misfires with nothing to move
pub misfires-none : (T T' : SchedulerTables) (m : ℤ) (me : MemberData) → misfires T m me ≡ accepted T' (reply.Misfired []) → IsStill T T' m × (some_misfired T m ≡ false)
misfires-none T T' m me e =
    let way = passes (node_refusal T me) _ T' (reply.Misfired []) e in
    let same : accepted (record T { triggers = fold (with_moved T m) T.triggers (misfired_triggers T m); last_moment = m }) (reply.Misfired (map (moved_row T m) (misfired_triggers T m))) ≡ accepted T' (reply.Misfired []) = way.outcome in
    let is : T' ≡ record T { triggers = fold (with_moved T m) T.triggers (misfired_triggers T m); last_moment = m } = cc in
    let none : misfired_triggers T m ≡ [] = map_empty (moved_row T m) (misfired_triggers T m) (cc) in
    (subst (λ ts. T' ≡ record T { triggers = fold (with_moved T m) T.triggers ts; last_moment = m }) none is, none_misfired T m none)
