use Rattle.std.proofs.Common.{[], sym, ◌∙◌, append-nil}
use Rattle.qz_row_lock.specs.Seats.{seen, mine}
use Rattle.qz_rounds.proofs.recovering.look.Goals as goal

pub returns-clause-looks : goal.returns-clause-looks
returns-clause-looks g c =
    let t = c.take-held.ensures in
    let f = c.give.ensures in
    record {
      begins = (t.begins.0, t.begins.1 ∙ sym f.seen);
      mine = f.mine [] (sym t.seen ∙ sym (append-nil (seen c.take-held.new.seat))) ∙ append-nil (mine c.take-held.new.seat) ∙ t.keeps.mine;
      was_shut = λ q. f.shut ∙ t.stays_shut q;
    }
