use Rattle.std.proofs.Common.{[], ◌∷◌, ◌++◌, ap, ◌∙◌, ◌&&◌, ℕ, Bool, List, Option, Some, None, if◌then◌else◌}
use Rattle.std.proofs.lemmas.Result.{err_from_is_err_and}
use Rattle.vector_clock.specs.declared.clock.Clock.{Clock}
use Rattle.wire_core.specs.Calls.{input_of}
use Rattle.wire_core.specs.Clocks.{op_grammar}
use Rattle.wire_core.specs.Loop.{begins_at, goes_on}
use Rattle.wire_core.specs.Reading.{Got, read_each}
use Rattle.wire_core.proofs.Ops.{at_first, is_more, is_not_more, ops_end, ops_fail}
use Rattle.wire_core.proofs.clock.take_ops.Goals as goal
use Rattle.wire_core.proofs.clock.take_ops.Goals.{then-rising, else-rising}

abbrev clock_at : Bool → ℕ → List ℕ → Option Clock
clock_at rising n at = if rising then Some (record { n = n; at = at }) else None

pub loop-init : goal.loop-init
loop-init c = record {
  front = [];
  inside = c.in_ok-count.ensures.1;
  so_far = begins_at (λ _. op_grammar) c.in_ok-count.count (input_of c.take_u8.new.self);
  kept = at_first c.args.from.now.n c.requires.most;
}

pub loop-preserved : goal.loop-preserved
loop-preserved c =
    let k = c.loop.invariant in
    record {
      front = k.front ++ c.in_ok-id.id ∷ [];
      inside = c.in_ok-id.ensures.1;
      so_far = goes_on (λ _. op_grammar) k.front c.in_ok-count.count c.loop.counter (input_of c.loop.from) (input_of c.take_op.new.from) c.in_ok-id.id
          (read_each (λ _. op_grammar) c.in_ok-count.count [] (input_of c.take_u8.new.self)) c.loop-test.true c.in_ok-id.ensures.0 k.so_far;
      kept = elim c.if-rising.branch [
        | then-rising w ↦ rw (w.at-is, w.least-is) (is_more c.args.from.now.n c.loop.rising (c.loop.rising && c.is_op_from.result) c.loop.least c.loop.at k.front c.in_ok-id.id k.kept (ap (λ (b : Bool). c.loop.rising && b) c.is_op_from.ensures) w.if-rising.true)
        | else-rising w ↦ rw (w.at-is, w.least-is) (is_not_more c.args.from.now.n c.loop.rising (c.loop.rising && c.is_op_from.result) c.loop.least c.loop.at k.front c.in_ok-id.id k.kept (ap (λ (b : Bool). c.loop.rising && b) c.is_op_from.ensures) w.if-rising.false)
      ];
    }

pub returns-in_err-id : goal.returns-in_err-id
returns-in_err-id c =
    let p = err_from_is_err_and c.from_residual-in_err-id.result c.from_residual-in_err-id.ensures.1 in
    let k = c.loop.invariant in
    rw (p.1, p.2) (ops_fail c.args.from.now.n (input_of c.args.from.now) (input_of c.take_u8.new.self) c.in_ok-count.count c.in_ok-count.ensures.0
    c.in_err-id.field-0.0 k.front c.loop.counter (input_of c.loop.from) c.loop-test.true c.in_err-id.ensures k.so_far)

pub returns-else-rising-2 : goal.returns-else-rising-2
returns-else-rising-2 c =
    let k = c.loop.invariant in (
      ops_end c.args.from.now.n (input_of c.args.from.now) (input_of c.take_u8.new.self) c.in_ok-count.count c.in_ok-count.ensures.0
          c.loop.rising c.loop.least c.loop.at k.front c.loop.counter (input_of c.loop.from) c.loop-test.false k.kept k.so_far
          ∙ ap (λ (b : Bool). Got (clock_at b c.args.from.now.n c.loop.at) (input_of c.loop.from)) c.if-rising-2.false,
      k.inside,
    )

pub returns-then-rising-2 : goal.returns-then-rising-2
returns-then-rising-2 c =
    let k = c.loop.invariant in (
      ops_end c.args.from.now.n (input_of c.args.from.now) (input_of c.take_u8.new.self) c.in_ok-count.count c.in_ok-count.ensures.0
          c.loop.rising c.loop.least c.loop.at k.front c.loop.counter (input_of c.loop.from) c.loop-test.false k.kept k.so_far
          ∙ ap (λ (b : Bool). Got (clock_at b c.args.from.now.n c.loop.at) (input_of c.loop.from)) c.if-rising-2.true,
      k.inside,
    )
