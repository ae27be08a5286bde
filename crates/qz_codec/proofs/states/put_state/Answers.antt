use Rattle.qz_codec.proofs.StateRecords.{written_unique}
use Rattle.qz_codec.proofs.states.put_state.Goals as goal

pub returns-clause-unique : goal.returns-clause-unique
returns-clause-unique c = written_unique c.write.result c.args.entry.now c.write.ensures.bytes c.write.ensures.unique
