use Rattle.std.proofs.Common.{◌≤◌, ℕ, List, ◌++◌, length, take, Option, arith}
use Rattle.std.proofs.KnownBytes.{Consumes-trans}
use Rattle.std.proofs.lemmas.Grind.{common_steps}
use Rattle.std.specs.Io.KnownBytes.{Consumes}
use Rattle.qz_input.specs.declared.whole.TheConstants.{BLOCK}
use Rattle.qz_input.specs.Whole.{TakesFront}
use Rattle.qz_input.proofs.whole.read_whole.Goals as goal

-- one more block was taken
front : (limit : ℕ) (a b d : Option (List ℕ)) (bytes block : List ℕ) (n : ℕ) → length bytes ≤ limit → n ≤ BLOCK → n ≤ length block → Consumes a b bytes → Consumes b d (take n block) → TakesFront limit a d
front limit a b d bytes block n low size fits first second = record {
  got = bytes ++ take n block;
  taken = Consumes-trans a b d bytes (take n block) first second;
  within = grind (arith, common_steps);
}

pub returns-in-Err-extend_from_slice-clause-whole : goal.returns-in-Err-extend_from_slice-clause-whole
returns-in-Err-extend_from_slice-clause-whole g c =
    front _ _ _ _ _ _ _ (omega arith) (omega (arith, c.in-Ok.ensures.bound.0)) c.in-Ok.ensures.bound.0 c.loop-block.invariant.taken c.in-Ok.ensures.bytes.0
