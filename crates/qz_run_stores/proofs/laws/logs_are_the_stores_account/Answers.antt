use Rattle.qz_run_stores.proofs.Telling.{replies_told, moments_told}
use Rattle.qz_run_stores.proofs.laws.logs_are_the_stores_account.Goals as goal

pub returns-clause-replies : goal.returns-clause-replies
returns-clause-replies c T es legal = replies_told T es legal

pub returns-clause-moments : goal.returns-clause-moments
returns-clause-moments c T es = moments_told T es
