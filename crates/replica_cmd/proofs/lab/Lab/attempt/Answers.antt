use Rattle.std.proofs.Common.{sym, ◌∙◌}
use Rattle.replica_cmd.proofs.Stepping.{member_of_line}
use Rattle.replica_cmd.proofs.lab.Lab.attempt.Goals as goal

pub obey-requires-clause-member : goal.obey-requires-clause-member
obey-requires-clause-member c = member_of_line c.args.line.now c.in-Some.command (sym c.in_ok-command.ensures ∙ c.in-Some.is)
