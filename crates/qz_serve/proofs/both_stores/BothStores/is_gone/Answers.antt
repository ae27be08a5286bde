use Rattle.std.proofs.Common.{sym, ◌∙◌, option_copied}
use Rattle.qz_trigger_store.proofs.Kept.{history_valid}
use Rattle.qz_serve.proofs.Gone.{gone_by, absent_by, copied_some}
use Rattle.qz_serve.proofs.both_stores.BothStores.is_gone.Goals as goal

pub returns-then-not-is_member : goal.returns-then-not-is_member
returns-then-not-is_member g c is = gone_by _ c.args.name.now (history_valid c.args.self.now.triggers.store) (sym (c.if-not-is_member.ensures)) (absent_by _ (option_copied c.row.result) c.row.ensures c.is_none.result (copied_some c.row.result ∙ c.is_none.ensures) is)
