use Rattle.std.proofs.Common.{◌≡◌, ℕ, ap}
use Rattle.qz_follow.specs.declared.promoting.PromoteFault.TheVariants as promote
use Rattle.qz_follow.specs.View.{view}
use Rattle.qz_model.specs.History.{replay}
use Rattle.qz_standby.specs.Fronts.{Looks}
use Rattle.qz_standby.proofs.Leaving.{looks_not}
use Rattle.qz_standby.proofs.MadeLaws.{unpromoted_header}
use Rattle.qz_standby.proofs.TriggersMade.{promoted, not_promoted}
use Rattle.qz_standby.proofs.triggers.promote.Goals as goal

pub returns-in-Ok-clause-tables : goal.returns-in-Ok-clause-tables
returns-in-Ok-clause-tables g c = ap replay c.in-Ok.ensures.store.history

pub returns-in-Ok-clause-makes : goal.returns-in-Ok-clause-makes
returns-in-Ok-clause-makes g c honest none = promoted (view c.args.follower) _ _ (c.in-Ok.ensures.promotes honest)

pub returns-in-Err-clause-makes : goal.returns-in-Err-clause-makes
returns-in-Err-clause-makes g c honest none =
    let untouched = looks_not (g.D.Disk.state c.args.disk) (g.met.D.Disk.lawful honest c.args.disk) in
    let short : (n : ℕ) → c.in-Err.fault ≡ promote.Short n → Looks (g.D.Disk.state c.args.disk) (g.D.Disk.state c.in-Err.disk) =
    λ n is. rw (c.in-Err.ensures.untouched n ((c.in-Err.ensures.short n).0 is)) untouched in
    rw c.unpromoted.ensures.value (not_promoted (view c.args.follower) _ _ none c.in-Err.fault short (λ need room is. (c.in-Err.ensures.no_room need room is, c.in-Err.ensures.lacks honest need room is)) (c.in-Err.ensures.promotes honest))

pub returns-in-Err-clause-header : goal.returns-in-Err-clause-header
returns-in-Err-clause-header g c = rw c.unpromoted.ensures.value (unpromoted_header c.in-Err.fault (view c.args.follower) (λ at. (c.in-Err.ensures.short at).0))
