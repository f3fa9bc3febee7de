use Rattle.std.proofs.Common.{rules}
use Rattle.replica_core.proofs.Edit.{room_for_next, stamp_of_next}
use Rattle.replica_core.proofs.replica.Replica.next_stamp.Goals as goal

pub returns-clause-stamp : goal.returns-clause-stamp
returns-clause-stamp g c = stamp_of_next c.args.self.now _ c.requires.member c.requires.rows c.requires.own (search rules)

pub returns-clause-within : goal.returns-clause-within
returns-clause-within g c = room_for_next c.args.self.now _ c.requires.member c.requires.rows c.requires.own (search rules)
