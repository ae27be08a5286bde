use Rattle.qz_laws.proofs.Fenced.{gone_never_acts}
use Rattle.qz_laws.proofs.laws.gone_nodes_never_act.Goals as goal

pub returns : goal.returns
returns c T es me valid good legal gone = gone_never_acts T es me valid good legal gone
