use Rattle.std.proofs.Common.{◌≡◌, drop, map}
use Rattle.replica_cmd.specs.Run.{AreFairLines, PutsTexts}
use Rattle.replica_cmd.specs.Things.{contents, IsKeptLab, IsLabUpTo}
use Rattle.replica_cmd.proofs.Looping.{Follows}
use Rattle.replica_cmd.proofs.play.run_lines.Given as goal

abbrev pub invariant-loop-line : goal.invariant-loop-line
invariant-loop-line g l =
    let lines = map (λ x. x.now) l.lines in
    record {
      kept : IsKeptLab (contents l.lab);
      up_to : IsLabUpTo l.line-index (contents l.lab);
      puts : PutsTexts l.line-index (g.W.Sink.told l.fn.sink) (g.W.Sink.told l.sink) l.refused;
      follows : AreFairLines lines → Follows lines (drop l.line-index lines) l.line-index (contents l.lab) (g.W.Sink.told l.fn.sink) (g.W.Sink.told l.sink) l.refused;
      calm : g.W.Sink.faults l.sink ≡ g.W.Sink.faults l.fn.sink;
    }
