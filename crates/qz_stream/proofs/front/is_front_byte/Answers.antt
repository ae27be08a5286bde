use Rattle.std.proofs.Common.{◌≡◌, ℕ, true, arith, refl, sym, ◌∙◌, ap}
use Rattle.std.specs.Prelude.{slice_index, IsTrue, ◌==◌}
use Rattle.std.proofs.lemmas.Bool.Decides.{nat_tests}
use Rattle.qz_journal.specs.Layout.{front_of, is_version}
use Rattle.qz_stream.proofs.front.is_front_byte.Goals as goal

version_two : (byte : ℕ) → (byte ≡ 1 → ⊥) → (version : ℕ) → is_version version ≡ true → version ≡ byte → IsTrue (byte == 2)
version_two byte not_one version known is = grind (arith, nat_tests)

two : (byte : ℕ) → IsTrue (byte == 2) → byte ≡ 2
two byte is = grind (arith, nat_tests)

pub returns-else-byte-eq1 : goal.returns-else-byte-eq1
returns-else-byte-eq1 c = (
  λ is. (2, refl, ap (λ (n : ℕ). slice_index (front_of 2 84) n) c.in-4.is ∙ sym (two c.args.byte is)),
  λ right. version_two c.args.byte c.if-byte-eq1.false right.0 right.1 (sym (ap (λ (n : ℕ). slice_index (front_of right.0 84) n) c.in-4.is) ∙ right.2),
)
