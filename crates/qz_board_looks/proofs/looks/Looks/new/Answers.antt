use Rattle.std.proofs.Common.{◌≡◌, [], rules, sym, subst}
use Rattle.std.specs.Prelude.{IfSome}
use mathlib.Core.List.{IsPrefix}
use Rattle.qz_board.specs.Boards.{seen, reader_basis}
use Rattle.qz_board_looks.specs.Looks.{AreLooks}
use Rattle.qz_board_looks.proofs.Rising.{itself, none_yet}
use Rattle.qz_board_looks.proofs.looks.Looks.new.Goals as goal

pub invariant_of-result : goal.invariant_of-result
invariant_of-result g c =
    let s = g.K.Subject in
    let reader = c.args.reader in
    let none : c.reserve.new.self.items ≡ [] = search rules in
    let begins : IsPrefix (seen c.of-first.result.value) (seen reader) = subst (λ r. IsPrefix (seen r) (seen reader)) (sym c.of-first.ensures) (itself (seen reader)) in
    record {
      looks = subst (λ items. IfSome (reader_basis reader) (λ b. ∥ AreLooks (s.glance_of b) (seen c.of-first.result.value) items (seen reader) ∥₁)) (sym none) (none_yet s.glance_of (seen c.of-first.result.value) (reader_basis reader) (seen reader) begins);
    }
