use Rattle.std.proofs.Common.{rules, ◌<◌, ℕ, arith, below_more}
use Rattle.action_tables.specs.Table.{op_count, third_count, Holds, case_of}
use Rattle.action_tables.proofs.table.Table.first_broken.Goals as goal

pub loop-c-preserved : goal.loop-c-preserved
loop-c-preserved c =
    below_more (λ k. Holds c.args.self.now (case_of c.args.law c.loop-a.a c.loop-b.b k)) _ c.loop-c.invariant (search rules)

pub loop-b-preserved : goal.loop-b-preserved
loop-b-preserved c =
    λ j k low third.
    below_more (λ j. (k : ℕ) → k < third_count c.args.self.now c.args.law
    → Holds c.args.self.now (case_of c.args.law c.loop-a.a j k)) _
    (λ i h n g. c.loop-b.invariant i n h g) (λ n g. c.loop-c.invariant n (omega arith)) j low k third

pub loop-a-preserved : goal.loop-a-preserved
loop-a-preserved c =
    λ i j k low second third.
    below_more (λ i. (j k : ℕ) → j < op_count c.args.self.now → k < third_count c.args.self.now c.args.law
    → Holds c.args.self.now (case_of c.args.law i j k)) _
    (λ m h n o g f. c.loop-a.invariant m n o h g f) (λ n o g f. c.loop-b.invariant n o (omega arith) f) i low j k second third
