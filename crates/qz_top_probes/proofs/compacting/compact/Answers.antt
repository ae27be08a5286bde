use Rattle.std.proofs.Common.{rules}
use Rattle.qz_top_probes.proofs.compacting.compact.Goals as goal

pub returns : goal.returns
returns g c = record {
  done = search rules;
  headline = search rules;
  uses = search rules;
  cause = search rules;
  complete = search rules;
  schedules = search rules;
  handed = search rules;
  reported = search rules;
}
