use Rattle.std.proofs.Common.{refl}
use Rattle.forgetting_model.specs.Ledger.{ledger_edited}
use Rattle.forgetting_model.specs.Made.{ledger_made}
use Rattle.forgetting_model.proofs.laws.one_operation.Goals as goal

pub returns : goal.returns
unfolding ledger_edited ledger_made
returns g c = λ k op. refl
