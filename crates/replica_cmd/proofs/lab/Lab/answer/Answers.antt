use Rattle.std.proofs.Common.{ap, subst}
use Rattle.std.specs.Prelude.{string_bytes, Err}
use Rattle.lab_model.specs.Line.{command_of}
use Rattle.lab_model.specs.Lab.{act_on}
use Rattle.replica_cmd.specs.Number.{number_op}
use Rattle.replica_cmd.specs.Things.{contents, Answers}
use Rattle.replica_cmd.proofs.Stepping.{refused_step, step_ok}
use Rattle.replica_cmd.proofs.lab.Lab.answer.Goals as goal
use Rattle.number_crdts.specs.Number.{number_meaning}

pub returns-in-Ok : goal.returns-in-Ok
returns-in-Ok c =
    let e = c.in-Ok.ensures in
    record {
      exact = λ honest. step_ok (contents c.args.self.now) (contents c.attempt.new.self) c.args.line.now (string_bytes c.in-Ok.text) (e.answers honest);
      ended = e.said.ended;
      bad = e.said.accepted;
      kept = e.keeps.kept;
      up_to = e.keeps.up_to;
    }

pub returns-in_ok-text_of_refusal-in-Err-Refused : goal.returns-in_ok-text_of_refusal-in-Err-Refused
returns-in_ok-text_of_refusal-in-Err-Refused c =
    refused_step (contents c.args.self.now) (contents c.attempt.new.self) c.args.line.now (string_bytes c.in_ok-text_of_refusal-in-Err-Refused.field-0) c.in-Err-Refused.cause
    c.in_ok-text_of_refusal-in-Err-Refused.ensures (c.in-Err-Refused.ensures.keeps.refused c.in-Err-Refused.cause (ap Err c.in-Err-Refused.field-0-is))
    (λ honest. subst (λ h. Answers (Err h) (contents c.attempt.new.self) (act_on (number_meaning 0) number_op (contents c.args.self.now) (command_of c.args.line.now))) c.in-Err-Refused.field-0-is (c.in-Err-Refused.ensures.answers honest))
    c.requires.kept
