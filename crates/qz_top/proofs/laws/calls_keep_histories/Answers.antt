use Rattle.qz_top.proofs.TurnLaws.{all_keep}
use Rattle.qz_top.proofs.laws.calls_keep_histories.Goals as goal

pub returns : goal.returns
returns g c honest w v first calls begins headlines turns = all_keep honest (λ d. g.met.D.Disk.lawful honest d) w v first calls begins headlines turns
