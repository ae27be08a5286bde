use Rattle.qz_cron.proofs.LongMonths.{least_of_set, least_of_none, least_of_last, least_of_nearest}
use Rattle.qz_cron.proofs.lengths.least_length.Goals as goal

pub returns-in-Some : goal.returns-in-Some
returns-in-Some c length d w h met =
    least_of_set c.in-Set.set c.in-Some.bit length d w (rw c.from.ensures at c.in-Some.ensures.first) h (rw c.in-Set.is at met)

pub returns-in-None : goal.returns-in-None
returns-in-None c length d w h met =
    least_of_none c.in-Set.set length d w (rw c.from.ensures at c.in-None.ensures.first) h (rw c.in-Set.is at met)

pub returns-in-Last : goal.returns-in-Last
returns-in-Last c length d w h met = rw c.from-in-Last.ensures (least_of_last c.in-Last.back length d w h (rw c.in-Last.is at met))

pub returns-in-Nearest : goal.returns-in-Nearest
returns-in-Nearest c length d w h met = rw c.from-in-Nearest.ensures (least_of_nearest c.in-Nearest.day length d w (rw c.in-Nearest.is at met))
