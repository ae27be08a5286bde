use Rattle.qz_history.proofs.Parts.{tells_whole}
use Rattle.qz_history.proofs.Unfit.{never_read}
use Rattle.qz_history.proofs.telling.tell_payloads.Goals as goal

pub returns-in-Ok-tell_each-clause-all : goal.returns-in-Ok-tell_each-clause-all
returns-in-Ok-tell_each-clause-all g c =
    tells_whole c.args.from c.in-Ok.teller.from c.in-Ok.teller.base_count c.args.version c.args.slot c.args.payloads.now c.in-Ok.teller.base.value.tables
    c.in-Ok-tell_each.done.entries.items c.beginning-begins.result (g.K.Sink.held c.args.out.now) (g.K.Sink.held c.tell_each.new.out)
    c.in-Ok.ensures.from c.in-Ok.ensures.base c.in-Ok-tell_each.ensures.taken c.in-Ok-tell_each.ensures.written c.beginning-begins.ensures

pub returns-in-Err-tell_each-clause-unfit : goal.returns-in-Err-tell_each-clause-unfit
returns-in-Err-tell_each-clause-unfit g c unfit h read =
    never_read c.args.slot c.args.version c.in-Ok.teller.base_count c.args.payloads.now c.in-Ok.teller.base.value.tables c.in-Ok.ensures.base
    (c.in-Err-tell_each.ensures.unfit unfit) h read
