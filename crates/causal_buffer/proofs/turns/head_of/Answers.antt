use Rattle.std.proofs.Common.{◌≡◌, ◌∙◌, ◌+◌, Some, None, ap}
use Rattle.std.specs.BTreeMap.{get}
use Rattle.causal_buffer.specs.Buffer.{by_id}
use Rattle.causal_buffer.proofs.turns.head_of.Goals as goal

pub returns-in-Some : goal.returns-in-Some
returns-in-Some c = λ k h.
    let at : Some c.in-Some.at.now ≡ get by_id c.args.places.now (record { member = c.args.member; seq = c.count.result + 1 }) = c.in-Some.ensures.value in
    let e : Some c.in-Some.at.now ≡ Some k = at ∙ ap (λ s. get by_id c.args.places.now (record { member = c.args.member; seq = s + 1 })) c.count.ensures ∙ h in
    cc

pub returns-in-None : goal.returns-in-None
returns-in-None c = λ k h.
    let at : None ≡ get by_id c.args.places.now (record { member = c.args.member; seq = c.count.result + 1 }) = c.in-None.ensures.value in
    let e : None ≡ Some k = at ∙ ap (λ s. get by_id c.args.places.now (record { member = c.args.member; seq = s + 1 })) c.count.ensures ∙ h in
    absurd (cc)
