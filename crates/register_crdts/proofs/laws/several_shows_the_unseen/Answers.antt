use Rattle.register_crdts.proofs.Unseen.{unseen_shown}
use Rattle.register_crdts.proofs.laws.several_shows_the_unseen.Goals as goal

pub returns : goal.returns
returns c xs honest apart causal = unseen_shown xs honest apart causal
