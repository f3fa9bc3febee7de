use Rattle.std.proofs.Common.{◌≡◌, Bool, true, false, refl, sym}
use Rattle.wire_core.specs.Stamps.{known_from, knows_most, knows}
use Rattle.wire_core.proofs.stamps.knows.Goals as goal

same : (a b : Bool) → (a ≡ true → b ≡ true) → (b ≡ true → a ≡ true) → a ≡ b
same true b h k = sym (h refl)
same false true h k = k refl
same false false h k = refl

pub returns : goal.returns
returns c =
    let d = c.args.d.now in
    let p = c.args.stamp.now in
    same c.le.result (knows d p) (λ h. knows_most d p (c.le.ensures.0 h)) (λ h. c.le.ensures.1 (known_from d p h).known)
