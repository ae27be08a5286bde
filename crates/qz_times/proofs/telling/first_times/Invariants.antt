use Rattle.std.proofs.Common.{◌≡◌, negsuc, ◌≤ℤ◌, length}
use Rattle.qz_civil.specs.declared.limits.TheConstants.{LAST}
use Rattle.qz_times.specs.Known.{kept}
use Rattle.qz_times.specs.Said.{Fires, IsChain}
use Rattle.qz_times.proofs.telling.first_times.Given as goal

abbrev pub invariant-loop-place : goal.invariant-loop-place
invariant-loop-place l = record {
  low : negsuc 0 ≤ℤ l.last;
  high : l.last ≤ℤ LAST;
  many : length l.times.items ≡ l._place;
  chain : IsChain (Fires (kept l.known) l.spec) l.fn.query.after l.times.items l.last;
}
