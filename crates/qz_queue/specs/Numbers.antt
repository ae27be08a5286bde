-- Numbers by size are an order of keys.
use Rattle.std.specs.Prelude.{nat_lt}
use Rattle.std.proofs.Common.{arith}
use Rattle.std.proofs.lemmas.Bool.Decides.{nat_tests}
use Rattle.qz_queue.specs.Order.{IsStrictOrder}

pub nat_order : IsStrictOrder nat_lt
nat_order = record {
  one_way = λ a b p. grind (arith, nat_tests);
  chain = λ a b c p q. grind (arith, nat_tests);
  total = λ a b p q. grind (arith, nat_tests);
}
