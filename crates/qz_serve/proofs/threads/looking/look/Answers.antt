use Rattle.std.proofs.Common.{◌∙◌, sym, subst}
use mathlib.Core.List.{IsPrefix}
use Rattle.qz_row_lock.specs.Seats.{ids, mine, seen, first_value}
use Rattle.qz_serve.proofs.Looking.{none_own, same_deeds}
use Rattle.qz_serve.proofs.threads.looking.look.Goals as goal

pub returns-clause-mine : goal.returns-clause-mine
returns-clause-mine g c =
    let k = g.S.RowStore in
    let t = c.take-held.ensures in
    none_own (k.listed (k.state c.take-held.result.store).history) (seen c.take-held.new.seat) (mine c.take-held.new.seat) (mine c.args.seat.now) (mine c.give.new.seat) t.seen t.keeps.mine c.give.ensures.mine

pub returns-clause-deeds : goal.returns-clause-deeds
returns-clause-deeds g c =
    let k = g.S.RowStore in
    let t = c.take-held.ensures in
    let f = c.give.ensures in
    let s = c.args.seat.now in
    let n = c.give.new.seat in
    let row = c.args.row.now in
    let same = none_own (k.listed (k.state c.take-held.result.store).history) (seen c.take-held.new.seat) (mine c.take-held.new.seat) (mine s) (mine n) t.seen t.keeps.mine f.mine in
    let begins : IsPrefix (seen s) (seen n) = subst (IsPrefix (seen s)) (sym f.seen) t.begins in
    same_deeds k.kind k.listed k.seat_of (k.state (first_value row).opened.value) (k.listed (k.state (first_value row).store).history) (ids s) (ids n) c.requires.of.past f.of.past (seen s) (seen n) (mine s) (mine n)
    c.requires.of.seen_is c.requires.of.mine_is f.of.seen_is f.of.mine_is begins same (f.ids.0 ∙ t.keeps.ids)
