use Rattle.vector_clock.proofs.Bounds.{zero_is_clock, with_is_clock, join_clock, meet_clock}
use Rattle.vector_clock.proofs.laws.made_clocks.Goals as goal

pub returns-clause-zero : goal.returns-clause-zero
returns-clause-zero c = zero_is_clock

pub returns-clause-with : goal.returns-clause-with
returns-clause-with c = with_is_clock

pub returns-clause-join : goal.returns-clause-join
returns-clause-join c = join_clock

pub returns-clause-meet : goal.returns-clause-meet
returns-clause-meet c = meet_clock
