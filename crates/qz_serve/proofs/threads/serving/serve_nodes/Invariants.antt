use Rattle.std.proofs.Common.{map}
use Rattle.qz_serve.proofs.threads.serving.serve_nodes.Given as goal

abbrev pub ghosts-run_watched : goal.ghosts-run_watched
ghosts-run_watched g a = record { meanings = λ jobs. map (λ b. (g.dyn-1.0.entry b.vtable).1.means b.value) jobs.items }
