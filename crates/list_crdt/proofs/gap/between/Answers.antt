use Rattle.std.proofs.Common.{Err, ◌≡◌, ◌+◌, ◌≤◌, length, rules, arith}
use Rattle.std.specs.Option.{option_copied}
use Rattle.list_crdt.specs.declared.gap.ListError.TheVariants.{NoMemory}
use Rattle.list_crdt.proofs.Next.{made_between, made_maker, made_position, made_position_of}
use Rattle.list_crdt.proofs.Levels.{length_between, length_next}
use Rattle.list_crdt.proofs.gap.between.Goals as goal

pub returns-then-depth-ge-MAX_STEPS-clause-full : goal.returns-then-depth-ge-MAX_STEPS-clause-full
returns-then-depth-ge-MAX_STEPS-clause-full c =
    let long = length_between c.args.member c.args.seq (option_copied c.args.p) (option_copied c.args.q) _ _ _ _ c.steps_of-low.ensures c.steps_of-high.ensures (c.parting-depth.ensures.next c.args.member c.args.seq) in
    λ k. (λ e. (let is : c.parting-depth.result.0 + 1 ≡ k = cc in (omega (arith, long), omega (arith, long, is))), λ h. (let is : c.parting-depth.result.0 + 1 ≡ k = omega (arith, long, h.1) in cc))

pub returns-in_err-ending_in-clause-full : goal.returns-in_err-ending_in-clause-full
returns-in_err-ending_in-clause-full c =
    let long = length_between c.args.member c.args.seq (option_copied c.args.p) (option_copied c.args.q) _ _ _ _ c.steps_of-low.ensures c.steps_of-high.ensures (c.parting-depth.ensures.next c.args.member c.args.seq) in
    let gone : c.from_residual.result ≡ Err NoMemory = search rules in
    λ k. (λ e. cc, λ h. absurd (omega (arith, long, h.0)))

pub returns-clause-full : goal.returns-clause-full
returns-clause-full c =
    let long = length_between c.args.member c.args.seq (option_copied c.args.p) (option_copied c.args.q) _ _ _ _ c.steps_of-low.ensures c.steps_of-high.ensures (c.parting-depth.ensures.next c.args.member c.args.seq) in
    λ k. (λ e. cc, λ h. absurd (omega (arith, long, h.0)))

pub returns-clause-between : goal.returns-clause-between
returns-clause-between c =
    made_between c.args.member c.args.seq (option_copied c.args.p) (option_copied c.args.q) c.in_ok-ending_in.field-0 (search rules) c.requires

pub returns-clause-maker : goal.returns-clause-maker
returns-clause-maker c =
    made_maker c.args.member c.args.seq (option_copied c.args.p) (option_copied c.args.q) c.in_ok-ending_in.field-0 (search rules)

pub returns-clause-position : goal.returns-clause-position
returns-clause-position c =
    let short : length c.in_ok-ending_in.field-0 ≤ 32 = (let long = length_next c.parting-depth.result.0 c.steps_of-low.result.now _ _ c.in_ok-ending_in.ensures in omega (arith, long)) in
    made_position c.args.member c.args.seq (option_copied c.args.p) (option_copied c.args.q) c.in_ok-ending_in.field-0 (search rules) short c.requires

pub returns-clause-position_of : goal.returns-clause-position_of
returns-clause-position_of c =
    let short : length c.in_ok-ending_in.field-0 ≤ 32 = (let long = length_next c.parting-depth.result.0 c.steps_of-low.result.now _ _ c.in_ok-ending_in.ensures in omega (arith, long)) in
    made_position_of c.args.member c.args.seq (option_copied c.args.p) (option_copied c.args.q) c.in_ok-ending_in.field-0 (search rules) short
