use Rattle.std.proofs.Common.{◌≡◌, take}
use Rattle.map_crdt.proofs.keyed.KeyedTower.copy_state.Given as goal

abbrev pub invariant-loop-pair : goal.invariant-loop-pair
invariant-loop-pair g l = l.pairs ≡ take l.pair-index l.pair-items
