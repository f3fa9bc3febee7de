use Rattle.std.proofs.Common.{◌≡◌, ℕ, ◌-◌, length, get_or, ap, ap₂, ◌∙◌, rules}
use Rattle.list_crdt.specs.Position.{last_step, pad}
use Rattle.list_crdt.proofs.Steps.{last_at}
use Rattle.list_crdt.proofs.position.Position.maker.Goals as goal

pub returns : goal.returns
returns c =
    let same : c.as_slice-steps.result.now ≡ c.args.self.now = search rules in
    let last : get_or c.as_slice-steps.result.now (length c.as_slice-steps.result.now - 1) pad ≡ last_step c.args.self.now =
    ap (λ p. get_or p (length p - 1) pad) same ∙ last_at c.args.self.now pad c.requires in
    ap₂ (λ (m s : ℕ). record { member = m; seq = s }) (ap (λ s. s.member) last) (ap (λ s. s.seq) last)
