use Rattle.qz_schedule.proofs.chains.+place_in.Given as goal

abbrev pub decreases-place_in : goal.decreases-place_in
decreases-place_in l = l.length
