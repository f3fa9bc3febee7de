use Rattle.replica_kept.proofs.OneId.{itself_there}
use Rattle.replica_kept.proofs.faults.is_forked_by_key.Goals as goal

pub returns-else-not-is_found-clause-same : goal.returns-else-not-is_found-clause-same
returns-else-not-is_found-clause-same g c = λ _. itself_there c.args.entries.now c.args.e.now c.requires.apart (c.is_found.ensures c.if-not-is_found.false)
