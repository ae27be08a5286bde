use Rattle.std.proofs.Common.{◌≡◌, ◌≤ℤ◌, pos, w64, to_z, of_z, arith, sym, subst}
use Rattle.std.proofs.lemmas.Int.{to_z-of_z}
use Rattle.std.proofs.lemmas.Grind.{common_steps}
use Rattle.qz_plain.proofs.Moments.{last_moment-low}
use Rattle.qz_plain.proofs.stores.PlainStore.last_moment.Goals as goal

pub returns-clause-bound : goal.returns-clause-bound
returns-clause-bound c =
    let read : to_z w64 (of_z w64 c.last_moment.result) ≡ c.self.inside.tables.tables.last_moment = grind (arith, common_steps, to_z-of_z) in
    subst (λ m. pos 0 ≤ℤ m) (sym read) (last_moment-low c.self.inside.tables.tables c.self.invariant)
