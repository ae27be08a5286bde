use Rattle.std.proofs.Common.{length, sym, ap, ◌∙◌}
use Rattle.qz_top.proofs.TellingLaws.{as_many_replies}
use Rattle.qz_top.proofs.telling.summary_of.Goals as goal

pub counts_of-counts-requires : goal.counts_of-counts-requires
counts_of-counts-requires g c = ap length c.kept_replies.ensures ∙ as_many_replies c.args.triggers.now ∙ sym (ap length c.kept_entries.ensures)
