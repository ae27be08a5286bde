use Rattle.std.proofs.Common.{◌≡◌, map, take}
use Rattle.qz_snapshot.proofs.bases.slices_of.Given as goal

-- the slices so far are those of the payloads so far
abbrev pub invariant-loop-payload : goal.invariant-loop-payload
invariant-loop-payload l = map (λ p. p.now) l.slices.items ≡ take l.payload-index l.payloads
