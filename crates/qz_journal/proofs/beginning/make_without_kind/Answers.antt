use Rattle.qz_journal.proofs.Creation.{created, new_gate}
use Rattle.qz_journal.proofs.beginning.make_without_kind.Goals as goal

pub returns-in-Ok-put_through-clause-any_moment : goal.returns-in-Ok-put_through-clause-any_moment
returns-in-Ok-put_through-clause-any_moment g c h bytes only =
    created c.args.version 0 _ bytes _ _ _ _ c.empty_store.ensures.header (new_gate c.args.version 0 _ c.empty_store.ensures.bytes) (c.look.ensures.unchanged h) (c.look.ensures.any_moment h) only (c.put_through.ensures.told h)

pub returns-in-Err-clause-any_moment : goal.returns-in-Err-clause-any_moment
returns-in-Err-clause-any_moment g c h bytes only =
    created c.args.version 0 _ bytes _ _ _ _ c.empty_store.ensures.header (new_gate c.args.version 0 _ c.empty_store.ensures.bytes) (c.look.ensures.unchanged h) (c.look.ensures.any_moment h) only (c.put_through.ensures.told h)
