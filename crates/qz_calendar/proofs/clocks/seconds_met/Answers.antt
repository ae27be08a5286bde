use Rattle.qz_calendar.proofs.ClockSets.{no_bit, any_more}
use Rattle.qz_calendar.proofs.clocks.seconds_met.Goals as goal

pub loop-field-init : goal.loop-field-init
loop-field-init c s = no_bit s

pub loop-field-preserved : goal.loop-field-preserved
loop-field-preserved c s = any_more _ _ _ _ _ _ _ s c.loop-field-test.true (c.loop-field.invariant s) (c.seconds_in-met.ensures s)
