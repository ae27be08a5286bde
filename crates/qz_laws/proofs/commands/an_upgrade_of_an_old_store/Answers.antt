use Rattle.std.proofs.Common.{refl}
use Rattle.qz_model.specs.Upgrading.{upgrade_refusal, version_refusal, widened}
use Rattle.qz_types.specs.Words.{same_text}
use Rattle.qz_laws.proofs.commands.an_upgrade_of_an_old_store.Goals as goal

pub returns-clause-horizon : goal.returns-clause-horizon
unfolding upgrade_refusal version_refusal widened same_text
returns-clause-horizon c = refl

pub returns-clause-years : goal.returns-clause-years
unfolding upgrade_refusal version_refusal widened same_text
returns-clause-years c = refl

pub returns-clause-next_times : goal.returns-clause-next_times
unfolding upgrade_refusal version_refusal widened same_text
returns-clause-next_times c = refl

pub returns-clause-once : goal.returns-clause-once
unfolding upgrade_refusal version_refusal widened same_text
returns-clause-once c = refl

pub returns-clause-refuses : goal.returns-clause-refuses
unfolding upgrade_refusal version_refusal widened same_text
returns-clause-refuses c = refl

pub returns-clause-takes : goal.returns-clause-takes
unfolding upgrade_refusal version_refusal widened same_text
returns-clause-takes c = refl

pub returns-clause-then_takes : goal.returns-clause-then_takes
unfolding upgrade_refusal version_refusal widened same_text
returns-clause-then_takes c = refl
