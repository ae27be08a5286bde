use Rattle.std.proofs.lemmas.List.{map-set}
use Rattle.qz_serve.proofs.threads.lists.put_list.Goals as goal

pub returns-in-Some : goal.returns-in-Some
returns-in-Some g c = map-set g.M.Meaning.meanings c.args.lists.now.items c.args.place c.args.list
