use Rattle.std.proofs.Common.{◌≡◌, ℕ, List, ap, ap₂, sym, ◌∙◌, eqb-true, eq-eqb}
use Rattle.std.proofs.lemmas.Bool.{false≢true}
use Rattle.list_crdt.specs.declared.position.Step.{Step}
use Rattle.list_crdt.specs.declared.text.TextOp.TheVariants.{Insert, Delete}
use Rattle.list_crdt.specs.Order.{same_from_test, test_of_same}
use Rattle.list_crdt.proofs.text.TextTower.same_op.Goals as goal

pub returns-then-eq : goal.returns-then-eq
returns-then-eq c =
    let i = c.in-Insert-Insert in
    let same = same_from_test i.p i.q (sym c.eq.ensures ∙ c.if-eq.true) in
    (λ t. i.is-0 ∙ ap₂ (λ (p : List Step) (x : ℕ). Insert p x) same (eqb-true i.c i.d t) ∙ sym i.is-1, λ e. (let both : Insert i.p i.c ≡ Insert i.q i.d = sym i.is-0 ∙ e ∙ i.is-1 in let one : i.c ≡ i.d = cc in eq-eqb i.c i.d one))

pub returns-else-eq : goal.returns-else-eq
returns-else-eq c =
    let i = c.in-Insert-Insert in
    (λ t. absurd (false≢true (sym c.if-eq.false ∙ t)), λ e. (let both : Insert i.p i.c ≡ Insert i.q i.d = sym i.is-0 ∙ e ∙ i.is-1 in let one : i.p ≡ i.q = cc in c.eq.ensures ∙ test_of_same i.p i.q one))

pub returns-in-Delete-Delete : goal.returns-in-Delete-Delete
returns-in-Delete-Delete c =
    let i = c.in-Delete-Delete in
    (λ t. i.is-0 ∙ ap (λ (p : List Step). Delete p) (same_from_test i.p i.q (sym c.eq-in-Delete-Delete.ensures ∙ t)) ∙ sym i.is-1, λ e. (let both : Delete i.p ≡ Delete i.q = sym i.is-0 ∙ e ∙ i.is-1 in let one : i.p ≡ i.q = cc in c.eq-in-Delete-Delete.ensures ∙ test_of_same i.p i.q one))
