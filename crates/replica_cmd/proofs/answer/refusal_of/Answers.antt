use Rattle.std.proofs.Common.{true, refl}
use Rattle.std.specs.Prelude.{string_bytes}
use Rattle.replica_cmd.proofs.Checking.{refusal_said}
use Rattle.replica_cmd.proofs.answer.refusal_of.Goals as goal

pub returns-clause-said : goal.returns-clause-said
returns-clause-said c =
    refusal_said c.args.cause.now (string_bytes c.in_ok-text_of_refusal.field-0) true c.in_ok-text_of_refusal.ensures refl
