use Rattle.qz_generator.proofs.Valid.{made_fields}
use Rattle.qz_generator.proofs.triggers.daily_fields.Goals as goal

pub returns-clause-valid : goal.returns-clause-valid
returns-clause-valid c = made_fields c.args.minute c.args.hour c.requires.minute c.requires.hour
