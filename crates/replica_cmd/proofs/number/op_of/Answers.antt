use Rattle.std.proofs.Common.{◌<◌, ◌^◌, arith}
use Rattle.replica_cmd.proofs.number.op_of.Goals as goal

pub returns-in-Add-clause-well_formed : goal.returns-in-Add-clause-well_formed
returns-in-Add-clause-well_formed c = let below : c.args.amount < 2 ^ 64 = omega (arith, c.ranges.amount) in below

pub returns-in-Mul-clause-well_formed : goal.returns-in-Mul-clause-well_formed
returns-in-Mul-clause-well_formed c = let below : c.args.amount < 2 ^ 64 = omega (arith, c.ranges.amount) in below
