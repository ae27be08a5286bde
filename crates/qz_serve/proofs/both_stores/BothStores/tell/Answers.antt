use Rattle.qz_serve.proofs.both_stores.BothStores.tell.Goals as goal

pub returns-clause-keeps : goal.returns-clause-keeps
returns-clause-keeps g c = record { triggers = λ first went. went; states = λ first went. c.tell.ensures.went (record { store = first }) went }
