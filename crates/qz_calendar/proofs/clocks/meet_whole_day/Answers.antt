use Rattle.qz_calendar.proofs.ClockSets.{no_bit, any_always}
use Rattle.qz_calendar.proofs.clocks.meet_whole_day.Goals as goal

pub loop-field-init : goal.loop-field-init
loop-field-init c h m s low mid bit = absurd (cc (no_bit s, bit))

pub loop-field-preserved : goal.loop-field-preserved
loop-field-preserved c h m s low mid bit = any_always _ _ _ _ _ h m s c.loop-field-test.true (c.loop-field.invariant h m s low mid) (c.seconds_always-met.ensures h m s low mid) bit
