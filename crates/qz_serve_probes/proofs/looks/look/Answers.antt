use Rattle.std.proofs.Common.{rules}
use Rattle.qz_serve_probes.proofs.looks.look.Goals as goal

pub returns : goal.returns
returns g c = record {
  done = search rules;
  cause = search rules;
  handed = search rules;
  reported = search rules;
}
