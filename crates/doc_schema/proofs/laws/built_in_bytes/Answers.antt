use Rattle.std.proofs.Common.{subst, sym}
use Rattle.doc_schema.specs.BuiltIn.{pair, trio}
use Rattle.doc_schema.specs.Schema.{Spells}
use Rattle.doc_schema.proofs.Bytes.{pair_bytes, pair_spelled, trio_bytes, trio_spelled}
use Rattle.doc_schema.proofs.laws.built_in_bytes.Goals as goal

pub returns-clause-pair : goal.returns-clause-pair
returns-clause-pair c = pair_bytes

pub returns-clause-trio : goal.returns-clause-trio
returns-clause-trio c = trio_bytes

pub returns-clause-pair_spelled : goal.returns-clause-pair_spelled
returns-clause-pair_spelled c = subst (λ text. Spells text pair) (sym pair_bytes) pair_spelled

pub returns-clause-trio_spelled : goal.returns-clause-trio_spelled
returns-clause-trio_spelled c = subst (λ text. Spells text trio) (sym trio_bytes) trio_spelled
