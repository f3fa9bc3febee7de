use Rattle.replica_cmd.proofs.Checking.{found_verdict}
use Rattle.replica_cmd.proofs.check.finding_of.Goals as goal

pub returns-in-Ok-clause-finding : goal.returns-in-Ok-clause-finding
returns-in-Ok-clause-finding c =
    let named = c.in-Ok.named in
    found_verdict c.args.bytes.now named.table named.states named.ops c.check.result c.answer_of.result c.in-Ok.ensures.accepts c.check.ensures.verdict
    c.answer_of.ensures.text c.answer_of.ensures.refused
