use Rattle.std.proofs.Common.{rules}
use Rattle.qz_value_probes.proofs.calendars.included_with_base.Goals as goal

pub returns-in-Ok : goal.returns-in-Ok
returns-in-Ok c = search rules
