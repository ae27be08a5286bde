-- The names of a run's nodes.
use Rattle.std.proofs.Common.{◌≡◌, ℕ, ◌+◌, ◌<◌, ◌≤◌, ◌^◌, length, IsTrue, List, ◌++◌, codes, sym, ◌∙◌, subst, arith}
use Rattle.std.specs.Fmt.{decimal}
use Rattle.std.specs.Str.Parse.{digits_value}
use Rattle.std.proofs.lemmas.Bool.Decides.{nat_tests}
use Rattle.std.proofs.lemmas.Fmt.{decimal_is_IsNumeral, length-decimal-le}
use Rattle.qz_types.specs.Rows.{is_node}
use Rattle.qz_seen.specs.Seen.{node_name}
use Rattle.qz_seen.proofs.Names.{name_of}
use Rattle.qz_run_stores.specs.Accounts.{node_number}

-- the name that is written
pub name_is : (n : ℕ) (name : List ℕ) → n < 2 ^ 32 → name ≡ codes "n" ++ decimal (n + 1) → name ≡ node_name n
name_is n name small is = is ∙ sym (name_of n small)

pub valid_name : (n : ℕ) (name : List ℕ) → n < 2 ^ 32 → name ≡ codes "n" ++ decimal (n + 1) → IsTrue (is_node name)
valid_name n name small is =
    let most : length (decimal (n + 1)) ≤ 10 = length-decimal-le 10 (n + 1) (omega arith) (omega arith) (omega arith) in
    subst (λ text. IsTrue (is_node text)) (sym is) (grind (arith, nat_tests))

-- the number of a node's name is its own
pub number_of : (n : ℕ) → n < 2 ^ 32 → node_number (node_name n) ≡ n
unfolding node_number
number_of n small =
    rw (name_of n small)
    (let read : digits_value 10 (decimal (n + 1)) ≡ n + 1 = (decimal_is_IsNumeral (n + 1) (omega arith)).1 in rw read (omega arith))
