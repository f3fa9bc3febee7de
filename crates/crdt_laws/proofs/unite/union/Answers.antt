use Rattle.std.proofs.Common.{◌≡◌, ◌++◌, ◌⊎◌, [], ap, arith, inl, inr, Contains, subst, sym, ◌∙◌}
use Rattle.std.proofs.lemmas.Bool.Decides.{nat_tests}
use Rattle.crdt_laws.specs.Interleaved.{interleaved}
use Rattle.crdt_laws.specs.Sets.{IsRising}
use Rattle.vector_clock.specs.Stamp.{IsStamp}
use Rattle.crdt_laws.proofs.Both.{all_of_both}
use Rattle.crdt_laws.proofs.Interleave.{emptied, interleaved_from_both, interleaved_union, last_step, rising-interleaved}
use Rattle.crdt_laws.proofs.unite.union.Given as given
use Rattle.crdt_laws.proofs.unite.union.Goals as goal
use Rattle.crdt_laws.proofs.unite.union.Goals.{then-loop-right-test+else-not-is_empty, else-loop-right-test}

all_in : (g : given.Over) (c : goal.In_ok-move_all-2 g) → c.move_all-2.new.to ≡ interleaved c.args.xs c.args.ys
all_in g c =
    let none : (c.loop-right.left.items ≡ []) ⊎ (c.loop-right.right.items ≡ []) =
    elim c.loop-right-test.branch [
      | then-loop-right-test+else-not-is_empty w ↦ inr (emptied _ (let e = w.is_empty-in-loop-right.ensures in let f = w.if-not-is_empty.false in let o = c.loop-right.right.ok.0 in grind (arith, nat_tests)))
      | else-loop-right-test w ↦ inl (emptied _ (let e = c.is_empty.ensures in let f = w.loop-right-test.false in let o = c.loop-right.left.ok.0 in grind (arith, nat_tests)))
    ] in
    c.in_ok-move_all-2.ensures
    ∙ ap (λ l. l ++ c.loop-right.right.items) c.in_ok-move_all.ensures
    ∙ last_step c.loop-right.joined c.loop-right.left.items c.loop-right.right.items none
    ∙ c.loop-right.invariant.same

pub returns-clause-rises : goal.returns-clause-rises
returns-clause-rises g c = subst IsRising (sym (all_in g c)) (rising-interleaved c.args.xs c.args.ys c.requires.left_rises c.requires.right_rises)

pub returns-clause-joined : goal.returns-clause-joined
returns-clause-joined g c = λ h. all_in g c ∙ interleaved_union c.args.xs c.args.ys c.requires.left_rises c.requires.right_rises h

pub returns-clause-from : goal.returns-clause-from
returns-clause-from g c = λ e k. interleaved_from_both c.args.xs c.args.ys e (subst (λ l. Contains l e) (all_in g c) k)

pub returns-clause-stamps : goal.returns-clause-stamps
returns-clause-stamps g c =
    all_of_both (λ e. IsStamp e.stamp) c.args.xs c.args.ys c.move_all-2.new.to (λ e k. interleaved_from_both c.args.xs c.args.ys e (subst (λ l. Contains l e) (all_in g c) k)) c.requires.left_stamps c.requires.right_stamps

pub returns-clause-interleaved : goal.returns-clause-interleaved
returns-clause-interleaved g c = all_in g c
