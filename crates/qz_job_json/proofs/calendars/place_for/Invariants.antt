use Rattle.std.proofs.Common.{◌≡◌}
use Rattle.qz_job_json.proofs.PutLaws.{IsPast}
use Rattle.qz_job_json.proofs.calendars.place_for.Given as goal

abbrev pub invariant-loop-other : goal.invariant-loop-other
invariant-loop-other l = record {
  at : l.at ≡ l.other-index;
  past : IsPast l.number l.numbers l.other-index;
}
