use Rattle.std.proofs.Common.{◌≡◌, ◌≤◌, [], ◌∷◌, ◌++◌, length, ap, sym, ◌∙◌, rules, arith}
use Rattle.std.proofs.lemmas.Bool.{false≢true}
use Rattle.list_crdt.specs.TextLaws.{any_position}
use Rattle.list_crdt.proofs.Steps.{of_parts, last_part, before_part}
use Rattle.list_crdt.proofs.position.Position.is_of.Goals as goal

pub returns-then-names_operation-clause-of : goal.returns-then-names_operation-clause-of
returns-then-names_operation-clause-of c =
    let same : c.as_slice-steps.result.now ≡ c.args.self.now = search rules in
    let is : c.args.self.now ≡ c.in-Some.before.now ++ c.in-Some.last.now ∷ [] = sym same ∙ c.in-Some.ensures.cases.0 in
    let short : length c.args.self.now ≤ 32 = (let long = ap length same in omega (arith, long)) in
    let of = of_parts c.args.n c.args.self.now c.in-Some.before.now c.in-Some.last.now is short (c.names_operation.ensures.0 c.if-names_operation.true) in
    (λ t. of (c.may_lead.ensures.0 t), λ h. c.may_lead.ensures.1 (before_part c.args.n c.args.self.now c.in-Some.before.now c.in-Some.last.now is h))

pub returns-else-names_operation-clause-of : goal.returns-else-names_operation-clause-of
returns-else-names_operation-clause-of c =
    let same : c.as_slice-steps.result.now ≡ c.args.self.now = search rules in
    let is : c.args.self.now ≡ c.in-Some.before.now ++ c.in-Some.last.now ∷ [] = sym same ∙ c.in-Some.ensures.cases.0 in
    (λ t. absurd (false≢true (sym c.if-names_operation.false ∙ t)), λ h. c.names_operation.ensures.1 (last_part c.args.n c.args.self.now c.in-Some.before.now c.in-Some.last.now is h))

pub returns-then-names_operation-clause-position : goal.returns-then-names_operation-clause-position
returns-then-names_operation-clause-position c = λ t. any_position c.args.n c.args.self.now ((returns-then-names_operation-clause-of c).0 t)
