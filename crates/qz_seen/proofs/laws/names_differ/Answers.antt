use Rattle.qz_seen.proofs.Names.{other_name}
use Rattle.qz_seen.proofs.laws.names_differ.Goals as goal

pub returns : goal.returns
returns c n k small differ = other_name n k small differ
