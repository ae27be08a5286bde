use Rattle.std.proofs.Common.{◌≡◌, map, take}
use Rattle.qz_types.specs.Rows.{MemberData}
use Rattle.qz_serve.proofs.both_stores.BothStores.members.Given as goal

abbrev pub invariant-loop-name : goal.invariant-loop-name
invariant-loop-name g l = map (λ (m : MemberData). m.node) l.members.items ≡ take l.name-index l.names
