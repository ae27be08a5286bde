use Rattle.qz_serve.proofs.threads.serving.lists_last.Goals as goal

pub returns : goal.returns
returns g c = g.met.S.RowStore.lists
