use Rattle.std.proofs.Common.{length, sym, ap, ◌∙◌}
use Rattle.qz_top.proofs.TellingLaws.{as_many_moments, as_many_replies}
use Rattle.qz_top.proofs.telling.lines_of.Goals as goal

pub history_lines-requires-clause-moments : goal.history_lines-requires-clause-moments
history_lines-requires-clause-moments g c = ap length c.kept_moments.ensures ∙ as_many_moments c.args.triggers.now ∙ sym (ap length c.kept_entries-added.ensures)

pub history_lines-requires-clause-replies : goal.history_lines-requires-clause-replies
history_lines-requires-clause-replies g c = ap length c.kept_replies.ensures ∙ as_many_replies c.args.triggers.now ∙ sym (ap length c.kept_entries-added.ensures)
