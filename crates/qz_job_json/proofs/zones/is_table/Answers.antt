use Rattle.std.proofs.Common.{sym, ◌∙◌, arith}
use Rattle.qz_job_json.proofs.TableLaws.{table_none, table_long, table_in}
use Rattle.qz_job_json.proofs.zones.is_table.Goals as goal

pub returns-then-count-eq0 : goal.returns-then-count-eq0
returns-then-count-eq0 c = sym (table_none c.args.items.now (omega arith))

pub returns-then-count-gt-STRETCH_LIMIT : goal.returns-then-count-gt-STRETCH_LIMIT
returns-then-count-gt-STRETCH_LIMIT c = sym (table_long c.args.items.now (omega arith))

pub returns : goal.returns
returns c = c.all_follow.ensures ∙ sym (table_in c.args.items.now (omega arith) (omega arith))
