use Rattle.std.proofs.Common.{◌≡◌, sym, rules, to_z, of_z, w64}
use Rattle.qz_serve.proofs.both_stores.BothStores.is_due.Goals as goal

pub returns-in-Some : goal.returns-in-Some
returns-in-Some g c =
    let next : to_z w64 (of_z w64 c.in-Some.next) ≡ c.in-Some.next = search rules in
    let until : to_z w64 (of_z w64 c.args.until) ≡ c.args.until = search rules in
    rw (next, until) (sym (c.in-Some.ensures c.args.until))
