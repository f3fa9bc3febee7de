use Rattle.vector_clock.proofs.Bounds.{join_agrees, meet_agrees}
use Rattle.vector_clock.proofs.laws.agreement.Goals as goal

pub returns-clause-join : goal.returns-clause-join
returns-clause-join g c = join_agrees

pub returns-clause-meet : goal.returns-clause-meet
returns-clause-meet g c = meet_agrees
