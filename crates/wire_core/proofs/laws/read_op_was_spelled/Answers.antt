use Rattle.wire_core.proofs.laws.read_op_was_spelled.Goals as goal

pub returns : goal.returns
returns g c = (g.met.C.Coder.op_exact c.args.coder.now c.args.tower.now).spelled
