use Rattle.std.proofs.Common.{refl}
use Rattle.qz_model.specs.Executions.{is_exclusive_of, is_busy}
use Rattle.qz_model.specs.Resetting.{reset}
use Rattle.qz_model.specs.Triggers.{is_in_paused, new_state}
use Rattle.qz_types.specs.Words.{same_text, same_key, trigger_of, with_trigger, group_of}
use Rattle.qz_laws.proofs.commands.two_resets.Goals as goal

pub returns-clause-states : goal.returns-clause-states
unfolding reset is_in_paused new_state is_busy is_exclusive_of same_text same_key trigger_of with_trigger group_of
returns-clause-states c = refl

pub returns-clause-held : goal.returns-clause-held
unfolding reset is_in_paused new_state is_busy is_exclusive_of same_text same_key trigger_of with_trigger group_of
returns-clause-held c = refl

pub returns-clause-again : goal.returns-clause-again
unfolding reset is_in_paused new_state is_busy is_exclusive_of same_text same_key trigger_of with_trigger group_of
returns-clause-again c = refl
