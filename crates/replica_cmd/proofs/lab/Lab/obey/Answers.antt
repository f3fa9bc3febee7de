use Rattle.replica_cmd.specs.Things.{contents}
use Rattle.replica_cmd.proofs.Stepping.{keeps_same}
use Rattle.replica_cmd.proofs.lab.Lab.obey.Goals as goal

pub returns-in-Show-clause-keeps : goal.returns-in-Show-clause-keeps
returns-in-Show-clause-keeps c = keeps_same (contents c.args.self.now) c.show.result c.requires.kept
