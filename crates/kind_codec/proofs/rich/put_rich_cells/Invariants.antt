use Rattle.std.proofs.Common.{◌≡◌, [], take}
use Rattle.vector_clock.specs.declared.clock.Clock.{Clock}
use Rattle.wire_core.specs.Reading.{spell_each}
use Rattle.wire_core.specs.Calls.{rules_of, wrote}
use Rattle.kind_codec.specs.Rich.{rich_cell_grammar}
use Rattle.kind_codec.proofs.rich.put_rich_cells.Given as goal

abbrev pub invariant-loop-cell : goal.invariant-loop-cell
invariant-loop-cell l = record {
  rules : rules_of l.out ≡ rules_of l.fn.out;
  written : (d : Clock) → l.out ≡ wrote l.fn.out (spell_each (rich_cell_grammar l.marks d) (rules_of l.fn.out) [] (take l.cell-index l.cells));
}
