use Rattle.std.proofs.Common.{◌∙◌, inl, inr, refl, sym}
use Rattle.qz_top.proofs.MomentLaws.{Shows-none}
use Rattle.qz_top.proofs.RestLaws.{rests_open, rests_closed, rested_open, broken_closed, closed_not_ok, open_first}
use Rattle.qz_top.proofs.checkpoints.end_lines.Goals as goal

-- a store was closed before
pub returns-then-closed-clause-rests : goal.returns-then-closed-clause-rests
returns-then-closed-clause-rests g c = rests_closed _ _ _ _ _ _ _ c.finish.ensures.finishes c.finish.ensures.other (inl (inl refl))

pub returns-then-closed-clause-finishes : goal.returns-then-closed-clause-finishes
returns-then-closed-clause-finishes g c = rw (sym c.closed.ensures ∙ c.if-closed.true) c.finish.ensures.finishes

pub returns-then-closed-clause-few : goal.returns-then-closed-clause-few
returns-then-closed-clause-few g c is = absurd (closed_not_ok _ _ _ _ _ c.finish.ensures.finishes is)

pub returns-then-closed-clause-shows : goal.returns-then-closed-clause-shows
returns-then-closed-clause-shows g c = Shows-none _ _

-- there is a snapshot, or none is due
pub returns-in-Ok-clause-rests : goal.returns-in-Ok-clause-rests
returns-in-Ok-clause-rests g c = rests_open _ _ _ _ _ _ _ c.finish-in-Ok.ensures.finishes c.finish-in-Ok.ensures.other c.in-Ok.ensures.rests

pub returns-in-Ok-clause-finishes : goal.returns-in-Ok-clause-finishes
returns-in-Ok-clause-finishes g c = rw (rested_open _ _ c.in-Ok.ensures.rests (sym c.closed.ensures ∙ c.if-closed.false)) c.finish-in-Ok.ensures.finishes

pub returns-in-Ok-clause-few : goal.returns-in-Ok-clause-few
returns-in-Ok-clause-few g c is not_own =
    let still = open_first _ _ (rested_open _ _ c.in-Ok.ensures.rests (sym c.closed.ensures ∙ c.if-closed.false)) in
    (still, c.in-Ok.ensures.few not_own still)

-- the disk failed in it
pub returns-in-Err-Fault-clause-rests : goal.returns-in-Err-Fault-clause-rests
returns-in-Err-Fault-clause-rests g c = rests_closed _ _ _ _ _ _ _ c.finish-in-Err-Fault.ensures.finishes c.finish-in-Err-Fault.ensures.other (inr (rw c.in-Err-Fault.field-0-is at c.in-Err-Fault.ensures.rests))

pub returns-in-Err-Fault-clause-finishes : goal.returns-in-Err-Fault-clause-finishes
returns-in-Err-Fault-clause-finishes g c = rw (broken_closed _ _ (rw c.in-Err-Fault.field-0-is at c.in-Err-Fault.ensures.rests)) c.finish-in-Err-Fault.ensures.finishes

pub returns-in-Err-Fault-clause-few : goal.returns-in-Err-Fault-clause-few
returns-in-Err-Fault-clause-few g c is = absurd (closed_not_ok _ _ _ _ _ c.finish-in-Err-Fault.ensures.finishes is)
