use Rattle.action_tables.proofs.Cases.{none_broken}
use Rattle.action_tables.proofs.Searched.{verdict_there}
use Rattle.action_tables.proofs.Verdicts.{one_verdict_lem}
use Rattle.action_tables.proofs.laws.one_verdict.Goals as goal

pub returns-clause-one : goal.returns-clause-one
returns-clause-one c = one_verdict_lem

pub returns-clause-lawful : goal.returns-clause-lawful
returns-clause-lawful c = none_broken

pub returns-clause-whole : goal.returns-clause-whole
returns-clause-whole c = verdict_there
