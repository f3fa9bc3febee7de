use Rattle.std.proofs.Common.{ap}
use Rattle.register_crdts.specs.Latest.{latest_show}
use Rattle.register_crdts.proofs.Greatest.{greatest}
use Rattle.register_crdts.proofs.laws.latest_shows_the_greatest.Goals as goal

pub returns-clause-greatest : goal.returns-clause-greatest
returns-clause-greatest c xs e h = ap latest_show (greatest xs e h)
