use Rattle.qz_interval.proofs.NumberLemmas.{has_turn}
use Rattle.qz_interval.proofs.numbers.place_from.Goals as goal

pub unwrap-requires : goal.unwrap-requires
unwrap-requires c = has_turn c.args.first c.args.step c.args.number c.first_occurrence.result c.requires.step c.first_occurrence.ensures.none
