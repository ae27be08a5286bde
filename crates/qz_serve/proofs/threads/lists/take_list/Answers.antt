use Rattle.std.proofs.Common.{ap, ◌∙◌}
use Rattle.qz_serve.proofs.Lists.{put_as}
use Rattle.qz_serve.proofs.threads.lists.take_list.Goals as goal

pub returns-in-Some-clause-rest : goal.returns-in-Some-clause-rest
returns-in-Some-clause-rest g c = put_as g.M.Meaning.meanings c.args.lists.now.items c.args.place c.replace.new.dest _ (ap g.M.Meaning.meanings c.replace.ensures.after ∙ c.requires.none _ c.empty.ensures)
