-- The value of the digits so far only grows, so what is too large on the way is too large at the end.
use Rattle.std.proofs.Common.{◌+◌, arith}
use Rattle.std.proofs.lemmas.Grind.{common_steps}
use Rattle.replica_cmd.proofs.Words.{value_more, value_front}
use Rattle.replica_cmd.proofs.parse.value_of.Goals as goal

pub returns-in_err-checked_mul : goal.returns-in_err-checked_mul
returns-in_err-checked_mul c =
    let ds = c.args.digits.now in
    let i = c.loop-digit.digit-index in
    let more = value_more ds i c.loop-digit-test.true in
    let front = value_front ds (i + 1) in
    grind (arith, common_steps)

pub returns-in_err-value : goal.returns-in_err-value
returns-in_err-value c =
    let ds = c.args.digits.now in
    let i = c.loop-digit.digit-index in
    let more = value_more ds i c.loop-digit-test.true in
    let front = value_front ds (i + 1) in
    grind (arith, common_steps)
