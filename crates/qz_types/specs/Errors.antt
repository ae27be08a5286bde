-- What a store answers where its tables refuse a transaction.
use Rattle.qz_types.specs.declared.errors.StepRefused.{StepRefused}
use Rattle.qz_types.specs.declared.errors.StepRefused.TheVariants as step
use Rattle.qz_types.specs.declared.errors.SubmitError.{SubmitError}
use Rattle.qz_types.specs.declared.errors.SubmitError.TheVariants as submit

abbrev pub submit_error : StepRefused → SubmitError
submit_error (step.Refused refusal) = submit.Refused refusal
submit_error step.NoMemory = submit.NoMemory
