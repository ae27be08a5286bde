use Rattle.std.proofs.Math.Logic.{∥∥₁_map}
use Rattle.qz_shared.proofs.Sinces.{submits_on}
use Rattle.qz_shared.proofs.held.Held.submit.Goals as goal

pub invariant_of-self-clause-since : goal.invariant_of-self-clause-since
invariant_of-self-clause-since g c =
    let k = g.S.RowStore in
    let held = c.args.self.now in
    submits_on k.kind k.listed g.met.S.RowStore.lists (k.state held.opened.value) (k.state held.store) (k.state c.submit.new.self) c.args.entry c.submit.result c.submit.ensures.one held.since

pub invariant_of-self-clause-went : goal.invariant_of-self-clause-went
invariant_of-self-clause-went g c = ∥∥₁_map c.args.self.now.went (c.submit.ensures.went c.args.self.now.opened.value)
