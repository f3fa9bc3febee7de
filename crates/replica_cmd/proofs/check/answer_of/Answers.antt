use Rattle.std.proofs.Common.{◌≡◌, true, false, refl, rules}
use Rattle.std.specs.Prelude.{string_bytes}
use Rattle.action_tables.specs.declared.table.Verdict.TheVariants.{Lawful, Broken}
use Rattle.lab_model.specs.Text.{verdict_text}
use Rattle.replica_cmd.proofs.Checking.{verdict_said}
use Rattle.replica_cmd.proofs.check.answer_of.Goals as goal

pub returns-in_ok-from_str-in-Lawful-clause-said : goal.returns-in_ok-from_str-in-Lawful-clause-said
returns-in_ok-from_str-in-Lawful-clause-said c =
    let text = string_bytes c.in_ok-from_str-in-Lawful.field-0 in
    let said : text ≡ verdict_text Lawful = search rules in
    verdict_said Lawful text false said refl

pub returns-in_ok-text_of_case-in-Broken-clause-said : goal.returns-in_ok-text_of_case-in-Broken-clause-said
returns-in_ok-text_of_case-in-Broken-clause-said c =
    let case = c.in-Broken in
    verdict_said (Broken case.law case.a case.b case.c) (string_bytes c.in_ok-text_of_case-in-Broken.field-0) true c.in_ok-text_of_case-in-Broken.ensures refl
