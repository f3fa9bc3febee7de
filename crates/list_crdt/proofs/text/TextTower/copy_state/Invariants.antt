use Rattle.std.proofs.Common.{◌≡◌, take}
use Rattle.list_crdt.proofs.text.TextTower.copy_state.Given as goal

abbrev pub invariant-loop-cell : goal.invariant-loop-cell
invariant-loop-cell l = l.cells.items ≡ take l.cell-index l.state
