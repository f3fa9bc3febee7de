use Rattle.std.proofs.Common.{◌≡◌, take, map}
use Rattle.std.specs.Prelude.{encode_utf8_all, string_bytes}
use Rattle.list_crdt.specs.declared.text.Cell.{Cell}
use Rattle.list_crdt.proofs.text.TextTower.show.Given as goal

abbrev pub invariant-loop-cell : goal.invariant-loop-cell
invariant-loop-cell l = string_bytes l.text ≡ encode_utf8_all (map (λ (c : Cell). c.ch) (take l.cell-index l.state))
