use Rattle.qz_serve.proofs.both_stores.BothStores.ask.Goals as goal

pub returns-clause-keeps : goal.returns-clause-keeps
returns-clause-keeps g c = record { triggers = λ first went. c.ask.ensures.went (record { store = first }) went; states = λ first went. went }
