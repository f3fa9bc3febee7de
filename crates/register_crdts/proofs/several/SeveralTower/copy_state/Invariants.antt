use Rattle.std.proofs.Common.{◌≡◌, take}
use Rattle.register_crdts.proofs.several.SeveralTower.copy_state.Given as goal

abbrev pub invariant-loop-held : goal.invariant-loop-held
invariant-loop-held l = l.copy ≡ take l.held-index l.held-items
