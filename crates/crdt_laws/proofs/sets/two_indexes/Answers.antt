use Rattle.std.proofs.Common.{◌∙◌, add-one, ap, sym}
use Rattle.crdt_laws.specs.Present.{form_at}
use Rattle.crdt_laws.proofs.Indexes.{folds_own, form_later, form_own}
use Rattle.crdt_laws.proofs.sets.two_indexes.Goals as goal

pub returns-clause-own : goal.returns-clause-own
returns-clause-own g c =
    let t = g.T.Tower.meaning c.args.tower.now in
    λ xs k d h. ap (form_at t xs k) (add-one k) ∙ form_own t xs k d h

pub returns-clause-later : goal.returns-clause-later
returns-clause-later g c =
    let t = g.T.Tower.meaning c.args.tower.now in
    λ xs k j y m is. ap (form_at t xs k) (add-one j) ∙ form_later t xs k j y m (ap (form_at t xs j) (sym (add-one j)) ∙ is)

pub returns-clause-folds : goal.returns-clause-folds
returns-clause-folds g c =
    let t = g.T.Tower.meaning c.args.tower.now in
    λ xs fs e h. folds_own t xs fs e (λ k i. h k i ∙ ap (form_at t xs k) (add-one k))
