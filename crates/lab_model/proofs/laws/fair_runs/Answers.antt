use Rattle.std.proofs.Common.{◌+◌, [], length}
use Rattle.lab_model.specs.Lab.{lab_run}
use Rattle.lab_model.proofs.Runs.{closed_at, run_counts, run_from_empty, run_keeps}
use Rattle.lab_model.proofs.laws.fair_runs.Goals as goal

pub returns : goal.returns
returns g c = record {
  honest = λ made lab lines k valid honest counts fair room. (run_keeps (g.T.Tower.meaning c.args.tower.now) made valid lines lab k honest counts fair room).honest;
  counted = λ made lab lines k valid honest counts fair room.
      let m = g.T.Tower.meaning c.args.tower.now in
      run_counts m made valid lines (lab_run m made lab lines).lab (k + length lines) (run_keeps m made valid lines lab k honest counts fair room);
  from_empty = λ made lines valid fair room. (run_from_empty (g.T.Tower.meaning c.args.tower.now) made valid lines fair room).honest;
  closed = λ made lines name r valid fair room there.
      let m = g.T.Tower.meaning c.args.tower.now in
      closed_at m (lab_run m made [] lines).lab (run_from_empty m made valid lines fair room).honest name r there;
}
