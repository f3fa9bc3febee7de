use Rattle.std.proofs.Common.{◌≡◌, true, false, List, [], ◌∷◌, ◌++◌, sym, subst}
use Rattle.std.specs.List.{All, AllByRecursion}
use Rattle.std.proofs.lemmas.List.Elements.{All-push, recursion_from_All}
use Rattle.vector_clock.specs.Stamp.{is_below, same_id}
use Rattle.crdt_laws.specs.declared.small.Entry.{Entry}
use Rattle.crdt_laws.specs.Entry.{entry}
use Rattle.crdt_laws.specs.Sets.{AreApart, IsRising}
use Rattle.crdt_laws.specs.Tower.{IsIssued}
use Rattle.crdt_laws.proofs.Filters.{all-append}
use Rattle.compositions.proofs.tests.resets.with_next.Goals as goal

rising_push : {Op : Type 0} (l : List (Entry Op)) (x : Entry Op) → IsRising l → AllByRecursion (λ e. (is_below e.stamp x.stamp ≡ true) × (same_id e.stamp x.stamp ≡ false)) l → IsRising (l ++ x ∷ [])
rising_push [] x r h = (tt, tt)
rising_push {Op} (a ∷ l) x r h = (all-append (λ (e : Entry Op). is_below a.stamp e.stamp ≡ true) l (x ∷ []) r.0 (h.0.0, tt), rising_push l x r.1 h.1)

apart_push : {Op : Type 0} (l : List (Entry Op)) (x : Entry Op) → AreApart l → AllByRecursion (λ e. (is_below e.stamp x.stamp ≡ true) × (same_id e.stamp x.stamp ≡ false)) l → AreApart (l ++ x ∷ [])
apart_push [] x d h = (tt, tt)
apart_push {Op} (a ∷ l) x d h = (all-append (λ (e : Entry Op). same_id a.stamp e.stamp ≡ false) l (x ∷ []) d.0 (h.0.1, tt), apart_push l x d.1 h.1)

pub returns-in_ok-push : goal.returns-in_ok-push
returns-in_ok-push g c =
    let m = g.T.Tower.meaning c.args.tower.now in
    let x = entry c.args.stamp c.args.op in
    let P : Entry _ → Type 0 = λ e. (is_below e.stamp c.args.stamp ≡ true) × (same_id e.stamp c.args.stamp ≡ false) in
    let last : AllByRecursion P c.args.ops = recursion_from_All P c.args.ops (subst (All P) c.as_slice.ensures (c.comes_last.ensures c.if-comes_last.true)) in
    record {
      issued =
          rw c.in_ok-push.ensures.ok
          (All-push (λ e. IsIssued m 2 e.stamp e.op) c.args.ops x c.requires.issued (record { stamp = c.requires.stamp; valid = c.valid.ensures.0 c.if-valid.true }));
      rising = subst IsRising (sym c.in_ok-push.ensures.ok) (rising_push c.args.ops x c.requires.rising last);
      apart = subst AreApart (sym c.in_ok-push.ensures.ok) (apart_push c.args.ops x c.requires.apart last);
    }
