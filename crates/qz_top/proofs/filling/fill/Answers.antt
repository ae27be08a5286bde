use Rattle.std.proofs.lemmas.List.Elements.{recursion_from_All}
use Rattle.qz_run_stores.proofs.Ways.{triggers_begin}
use Rattle.qz_top.specs.Clients.{IsOfClient}
use Rattle.qz_top.proofs.filling.fill.Goals as goal

pub do_all-requires-clause-valid : goal.do_all-requires-clause-valid
do_all-requires-clause-valid g c = recursion_from_All IsOfClient _ c.in-Ok.ensures.valid

pub returns-in-Err-clause-any_moment : goal.returns-in-Err-clause-any_moment
returns-in-Err-clause-any_moment g c = triggers_begin (λ d honest. g.met.D.Disk.lawful honest d) c.args.triggers.now
