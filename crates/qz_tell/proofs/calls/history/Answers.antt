use Rattle.qz_words.specs.Histories.{history_of}
use Rattle.qz_tell.proofs.Completing.{is_complete}
use Rattle.qz_tell.proofs.calls.history.Goals as goal

pub returns-clause-complete : goal.returns-clause-complete
returns-clause-complete g c =
    let told = c.work-told in
    is_complete g.D.Disk g.K.Sink (history_of c.args.words.now) c.args.triggers c.args.states told.result c.args.out.now told.new.out told.ensures.done told.ensures.write told.ensures.disk
