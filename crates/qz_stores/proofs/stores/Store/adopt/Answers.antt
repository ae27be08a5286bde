use Rattle.std.proofs.Common.{ℕ, List, subst}
use Rattle.std.specs.Prelude.{Ok}
use Rattle.qz_stores.specs.Adopting.{adopted}
use Rattle.qz_stores.specs.Stores.{Appends}
use Rattle.qz_stores.specs.View.{view}
use Rattle.qz_stores.proofs.Adopted.{adopts_as_before}
use Rattle.qz_stores.proofs.Moments.{rests_as_before, then_as_before}
use Rattle.qz_stores.proofs.stores.Store.adopt.Goals as goal

pub returns-in_ok-entry-in-Ok-clause-one : goal.returns-in_ok-entry-in-Ok-clause-one
returns-in_ok-entry-in-Ok-clause-one g c =
    let m = c.prepare_adopted.new.self in
    let t = c.commit.new.self in
    adopts_as_before g.met.K.Kind.lawful c.args.self.now m t c.args.entry c.args.payload.now c.in-Ok.ensures.same (Ok c.in_ok-entry-in-Ok.reply)
    (subst (λ (b : List ℕ). Appends (adopted g.K.Kind.kind b) c.args.entry c.in_ok-entry-in-Ok.reply (view m) (view t)) c.in-Ok.ensures.record c.in_ok-entry-in-Ok.ensures.ok.1)

pub returns-in-Err-clause-leaves : goal.returns-in-Err-clause-leaves
returns-in-Err-clause-leaves g c honest =
    let s = c.args.self.now in
    rests_as_before g.met.K.Kind.lawful s c.prepare_adopted.new.self c.in-Err.ensures.same (g.met.D.Disk.lawful honest s.journal.disk) honest

pub returns-in_ok-entry-in-Ok-clause-leaves : goal.returns-in_ok-entry-in-Ok-clause-leaves
returns-in_ok-entry-in-Ok-clause-leaves g c honest =
    then_as_before g.met.K.Kind.lawful c.args.self.now c.prepare_adopted.new.self c.commit.new.self c.in-Ok.ensures.same (c.commit.ensures.leaves honest)

pub returns-in_err-entry-in-Ok-clause-leaves : goal.returns-in_err-entry-in-Ok-clause-leaves
returns-in_err-entry-in-Ok-clause-leaves g c honest =
    then_as_before g.met.K.Kind.lawful c.args.self.now c.prepare_adopted.new.self c.commit.new.self c.in-Ok.ensures.same (c.commit.ensures.leaves honest)
