use Rattle.vector_clock.proofs.Bounds.{meet_left, meet_right, meet_greatest}
use Rattle.vector_clock.proofs.laws.meet_is_greatest.Goals as goal

pub returns-clause-left : goal.returns-clause-left
returns-clause-left c = meet_left

pub returns-clause-right : goal.returns-clause-right
returns-clause-right c = meet_right

pub returns-clause-greatest : goal.returns-clause-greatest
returns-clause-greatest c = meet_greatest
