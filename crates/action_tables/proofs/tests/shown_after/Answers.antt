use Rattle.std.proofs.Common.{rules}
use Rattle.action_tables.proofs.tests.shown_after.Goals as goal

pub copy_state-requires : goal.copy_state-requires
copy_state-requires g c = record { members = c.args.stamp.now.clock.n; good = search rules }

pub show-requires : goal.show-requires
show-requires g c = record { members = c.args.stamp.now.clock.n; good = search rules }
