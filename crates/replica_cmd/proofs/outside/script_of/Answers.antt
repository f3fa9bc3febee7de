use Rattle.std.proofs.Common.{subst}
use Rattle.lab_store.specs.Stream.{Rose}
use Rattle.replica_cmd.proofs.outside.script_of.Goals as goal

pub returns-in-Err-clause-fault : goal.returns-in-Err-clause-fault
returns-in-Err-clause-fault g c =
    λ _. subst (λ before. Rose before (g.S.Source.faults c.take.new.self)) c.loop-piece.invariant.calm c.in-Err.ensures.fault
