use Rattle.qz_report.proofs.Counting.{one_more}
use Rattle.qz_report.proofs.summaries.Counts.add.Goals as goal

pub returns : goal.returns
returns c entries replies was =
    one_more c.args.entry.now c.args.reply.now c.args.self.now
    (record { fired = c.saturating_add-self.result; misfired = c.saturating_add-self-2.result; recovered = c.saturating_add-self-3.result })
    (cc) (cc) (cc) entries replies was
