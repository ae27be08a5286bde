use Rattle.qz_shared_stores.specs.Laws.{triggers_begun, states_begun}
use Rattle.qz_serve.specs.Going.{state_of_both}
use Rattle.qz_serve.proofs.Limiting.{grew_none}
use Rattle.qz_serve.proofs.both_stores.BothStores.keep_all.Goals as goal

pub returns : goal.returns
returns g c =
    let stores = c.args.self.now in
    record { triggers = ∣ triggers_begun (λ disk honest. g.met.D.Disk.lawful honest disk) stores.triggers.store ∣₁; states = ∣ states_begun (λ disk honest. g.met.D.Disk.lawful honest disk) stores.states.store ∣₁; grew = grew_none (state_of_both stores) }
