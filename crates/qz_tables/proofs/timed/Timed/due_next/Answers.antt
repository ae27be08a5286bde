use Rattle.std.proofs.Common.{◌≡◌, Some, None, ap, get_or, option_copied}
use Rattle.qz_tables.proofs.DueFound.{next_begins, next_missing, next_stored}
use Rattle.qz_tables.proofs.timed.Timed.due_next.Goals as goal

pub returns-in_default : goal.returns-in_default
returns-in_default g c = next_begins c.args.self.now.rows (g.T.Test.test c.args.test.now) (option_copied c.args.after) (option_copied c.next_of.result) (ap option_copied c.in_default.is) c.next_of.ensures

pub returns-in-None : goal.returns-in-None
returns-in-None g c =
    let key : option_copied c.args.after ≡ Some c.in-Some.key.now = ap option_copied c.in-Some.is in
    rw (key, ← c.self.view_is) (next_missing c.self.inside.rows.rows c.in-Some.key.now (g.T.Test.test c.args.test.now) c.in-None.ensures.none)

pub returns-in-Some-slot : goal.returns-in-Some-slot
returns-in-Some-slot g c =
    let key : option_copied c.args.after ≡ Some c.in-Some.key.now = ap option_copied c.in-Some.is in
    rw (key, ← c.self.view_is) (next_stored c.self.inside.rows.rows c.in-Some.key.now (g.T.Test.test c.args.test.now) (get_or c.self.inside.rows.slots c.in-Some-slot.slot None) (option_copied c.next_of-in-Some-slot.result)
    c.in-Some-slot.ensures.found c.in-Some-slot.ensures.filled (rw (← c.self.view_is) at c.next_of-in-Some-slot.ensures))
