use Rattle.qz_stream.proofs.Stores.{store-taken, store-end, holds-store}
use Rattle.qz_stream.proofs.laws.stores_are_taken.Goals as goal

pub returns-clause-taken : goal.returns-clause-taken
returns-clause-taken c = store-taken

pub returns-clause-end : goal.returns-clause-end
returns-clause-end c = store-end

pub returns-clause-holds : goal.returns-clause-holds
returns-clause-holds c = holds-store
