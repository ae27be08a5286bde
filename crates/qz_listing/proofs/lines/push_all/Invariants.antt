use Rattle.std.proofs.Common.{◌≡◌, ◌++◌, map, take, string_bytes}
use Rattle.std.specs.List.{flat_map}
use Rattle.qz_listing.proofs.lines.push_all.Given as goal

abbrev pub invariant-loop-row : goal.invariant-loop-row
invariant-loop-row g l = string_bytes l.text ≡ string_bytes l.fn.text ++ flat_map g.R.Line.line (map (λ r. r.now) (take l.row-index l.rows))
