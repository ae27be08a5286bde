use Rattle.std.proofs.Common.{pos}
use Rattle.qz_cluster.specs.View.{IsTold, EachLeavesEither}
use Rattle.qz_cluster.specs.declared.clusters.Cluster.{Cluster}
use Rattle.qz_cluster.proofs.Restarts.{restarted, cut, keeps, triggers_leave, states_leave}
use Rattle.qz_cluster.proofs.Told.{still_told}
use Rattle.qz_cluster.proofs.clusters.Cluster.restart.Goals as goal

pub returns-clause-ok : goal.returns-clause-ok
returns-clause-ok g c at =
    let s = c.args.self.now in
    let mid : Cluster g.row.D.Denot g.D.Disk = record { alloc = s.alloc; triggers = c.crash-triggers_crashed.new.self; states = c.crash-states_crashed.new.self; held = s.held; standing = s.standing } in
    let leaves : g.D.Disk.honest → EachLeavesEither s mid = λ honest. record { triggers = c.crash-triggers_crashed.ensures.any_moment honest; states = c.crash-states_crashed.ensures.any_moment honest } in
    restarted (IsTold s) (IsTold mid) (λ told. ∣ still_told s mid leaves told ∣₁) at c.reopen.result _ _ _ c.crash-triggers_crashed.ensures.shut c.crash-states_crashed.ensures.shut (c.reopen.ensures.ok at)

pub returns-clause-err : goal.returns-clause-err
returns-clause-err g c at =
    let s = c.args.self.now in
    let mid : Cluster g.row.D.Denot g.D.Disk = record { alloc = s.alloc; triggers = c.crash-triggers_crashed.new.self; states = c.crash-states_crashed.new.self; held = s.held; standing = s.standing } in
    let leaves : g.D.Disk.honest → EachLeavesEither s mid = λ honest. record { triggers = c.crash-triggers_crashed.ensures.any_moment honest; states = c.crash-states_crashed.ensures.any_moment honest } in
    cut (IsTold s) (IsTold mid) (λ told. ∣ still_told s mid leaves told ∣₁) at c.reopen.result _ _ _ c.crash-triggers_crashed.ensures.shut c.crash-states_crashed.ensures.shut (c.reopen.ensures.err at)

pub returns-clause-keeps : goal.returns-clause-keeps
returns-clause-keeps g c = keeps _ (pos 0) c.reopen.result _ _ _ _ (c.reopen.ensures.ok (pos 0))

pub returns-clause-standing : goal.returns-clause-standing
returns-clause-standing g c = c.reopen.ensures.standing c.args.self.now.standing

-- moments

pub returns-then-is_err-clause-any_moment : goal.returns-then-is_err-clause-any_moment
returns-then-is_err-clause-any_moment g c honest =
    record { triggers = c.crash-triggers_crashed.ensures.any_moment honest; states = c.crash-states_crashed.ensures.any_moment honest }

pub returns-clause-any_moment : goal.returns-clause-any_moment
returns-clause-any_moment g c honest =
    let s = c.args.self.now in
    let reopened = c.reopen.ensures.any_moment honest in
    record {
      triggers = triggers_leave s.triggers c.crash-triggers_crashed.new.self c.reopen.new.self.triggers c.crash-triggers_crashed.ensures.shut (c.crash-triggers_crashed.ensures.any_moment honest) reopened.triggers;
      states = states_leave s.states c.crash-states_crashed.new.self c.reopen.new.self.states c.crash-states_crashed.ensures.shut (c.crash-states_crashed.ensures.any_moment honest) reopened.states;
    }
