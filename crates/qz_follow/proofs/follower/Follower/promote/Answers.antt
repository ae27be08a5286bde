use Rattle.std.proofs.Common.{◌≡◌, ◌∙◌, sym}
use Rattle.std.specs.Prelude.{None}
use Rattle.qz_follow.proofs.Promoted.{untouched, short_each}
use Rattle.qz_follow.specs.Following.{short_at}
use Rattle.qz_follow.specs.View.{view}
use Rattle.qz_follow.proofs.follower.Follower.promote.Goals as goal

pub returns-in-Some-clause-promotes : goal.returns-in-Some-clause-promotes
returns-in-Some-clause-promotes g c honest =
    let s = view c.args.self in
    untouched s.version s.start s.entries c.in-Some.at (g.D.Disk.state c.args.disk) (g.met.D.Disk.lawful honest c.args.disk)

pub returns-clause-short : goal.returns-clause-short
returns-clause-short g c at =
    let none : short_at (view c.args.self) ≡ None = sym c.short.ensures ∙ c.in_default.is in
    short_each c.into_store.result (short_at (view c.args.self)) at (c.into_store.ensures.long at) none
