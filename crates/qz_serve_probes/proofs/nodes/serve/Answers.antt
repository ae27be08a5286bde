use Rattle.std.proofs.Common.{rules}
use Rattle.qz_serve_probes.proofs.nodes.serve.Goals as goal

pub returns : goal.returns
returns g c = record {
  done = search rules;
  cause = search rules;
  handed = search rules;
  reported = search rules;
}
