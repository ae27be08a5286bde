use Rattle.std.proofs.Common.{◌≡◌, None, arith}
use Rattle.std.proofs.lemmas.Grind.{common_steps}
use Rattle.qz_types.specs.Words.{job_of}
use Rattle.qz_model.proofs.KeptFiring.{no_job_missing}
use Rattle.qz_acquire.proofs.firing.job_of_row.Goals as goal

pub unreachable-requires : goal.unreachable-requires
unreachable-requires c =
    let missing : job_of c.args.row.now.job c.args.tables.now.tables.jobs ≡ None = grind (arith, common_steps) in
    no_job_missing c.args.tables.now.tables c.args.entry c.args.row.now c.requires.valid c.requires.stored c.requires.taken missing
