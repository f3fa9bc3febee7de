use Rattle.std.proofs.Common.{◌≡◌, ◌≤◌, ◌-◌, ◌+◌, length}
use Rattle.replica_cmd.specs.Reading.{most_bytes, ReadsFrom}
use Rattle.replica_cmd.proofs.outside.script_of.Given as goal

abbrev pub invariant-loop-piece : goal.invariant-loop-piece
invariant-loop-piece g l = record {
  read : ReadsFrom (g.S.Source.left l.fn.source) l.script.items (g.S.Source.left l.source);
  calm : g.S.Source.faults l.source ≡ g.S.Source.faults l.fn.source;
  short : length l.script.items ≤ most_bytes + 1;
  room : length l.piece ≤ 4096;
  wide : 4096 ≤ length l.piece;
}

abbrev pub decreases-loop-piece : goal.decreases-loop-piece
decreases-loop-piece g l = most_bytes + 1 - length l.script.items
