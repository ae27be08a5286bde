use Rattle.std.proofs.Common.{rules}
use Rattle.qz_serve.proofs.threads.watched.run_watched.Goals as goal

pub join-ran-requires-after_bounds : goal.join-ran-requires-after_bounds
join-ran-requires-after_bounds g c κs within =
    let r = c.requires in
    (((r.of.0, r.of.1, r.home.0, r.home.1, search rules, r.performs.0, r.performs.1, r.none, r.new.0, r.new.1, r.own.0, r.own.1, r.few, r.more.0, r.more.1), (search rules, search rules, search rules, search rules, search rules, search rules, search rules, search rules, search rules)), tt)
