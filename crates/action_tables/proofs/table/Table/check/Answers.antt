use Rattle.std.proofs.Common.{◌≤◌, arith, refl, below_more}
use Rattle.action_tables.specs.Verdict.{HoldsEach}
use Rattle.action_tables.proofs.Cases.{laws_of_cases}
use Rattle.action_tables.proofs.table.Table.check.Goals as goal

pub loop-law-preserved : goal.loop-law-preserved
loop-law-preserved c =
    λ i low high.
    below_more (λ i. 1 ≤ i → HoldsEach c.args.self.now i) _ (λ j h g. c.loop-law.invariant j g h)
    (λ _. c.in_default.ensures) i high low

pub returns-clause-verdict : goal.returns-clause-verdict
returns-clause-verdict c =
    λ k broken.
    broken.fails
    (c.loop-law.invariant k.law broken.case.first_law (omega (arith, broken.case.last_law)) k.a k.b k.c
    broken.case.a broken.case.b broken.case.c)

pub returns-clause-lawful : goal.returns-clause-lawful
returns-clause-lawful c = (
  (λ _. laws_of_cases c.args.self.now
      (λ k case. c.loop-law.invariant k.law case.first_law (omega (arith, case.last_law)) k.a k.b k.c case.a case.b case.c)),
  (λ _. refl),
)
