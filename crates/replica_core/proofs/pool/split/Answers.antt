use Rattle.std.proofs.Common.{◌≡◌, Bool, true, not, List, [], ◌∷◌, IsTrue, refl, ap, subst, ◌∙◌}
use Rattle.std.specs.List.{All, filter, AllByRecursion}
use Rattle.std.proofs.lemmas.List.Elements.{recursion_from_All}
use Rattle.replica_core.specs.Frontier.{is_at_most}
use Rattle.replica_core.proofs.pool.split.Goals as goal

all_stay : {X : Type 0} (p : X → Bool) (xs : List X) → AllByRecursion (λ x. IsTrue (p x)) xs → xs ≡ filter p xs
all_stay p [] h = refl
all_stay p (x ∷ xs) h = let first : p x ≡ true = h.0 in rw first (ap (λ l. x ∷ l) (all_stay p xs h.1))

none_go : {X : Type 0} (p : X → Bool) (xs : List X) → AllByRecursion (λ x. IsTrue (p x)) xs → [] ≡ filter (λ x. not (p x)) xs
none_go p [] h = refl
none_go p (x ∷ xs) h = let first : p x ≡ true = h.0 in rw first (none_go p xs h.1)

pub returns-then-are_ready-clause-ready : goal.returns-then-are_ready-clause-ready
returns-then-are_ready-clause-ready g c =
    all_stay (λ e. is_at_most e.stamp.clock c.args.front.now) c.args.ops
    (recursion_from_All (λ e. IsTrue (is_at_most e.stamp.clock c.args.front.now)) c.args.ops
    (subst (All (λ e. IsTrue (is_at_most e.stamp.clock c.args.front.now))) c.as_slice.ensures (c.are_ready.ensures c.if-are_ready.true)))

pub returns-then-are_ready-clause-unready : goal.returns-then-are_ready-clause-unready
returns-then-are_ready-clause-unready g c =
    c.new.ensures
    ∙ none_go (λ e. is_at_most e.stamp.clock c.args.front.now) c.args.ops
    (recursion_from_All (λ e. IsTrue (is_at_most e.stamp.clock c.args.front.now)) c.args.ops
    (subst (All (λ e. IsTrue (is_at_most e.stamp.clock c.args.front.now))) c.as_slice.ensures (c.are_ready.ensures c.if-are_ready.true)))
