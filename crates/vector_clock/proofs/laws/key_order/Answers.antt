use Rattle.std.proofs.Common.{◌≡◌, ◌↔◌, Bool, true, false, ◌&&◌, ◌||◌, cond, refl}
use Rattle.std.specs.Prelude.{nat_lt, ◌==◌}
use Rattle.std.specs.Ordering.{nat_cmp, ordering_then}
use Rattle.std.specs.declared.cmp.Ordering.{Ordering}
use Rattle.std.specs.declared.cmp.Ordering.TheVariants.{Less, Equal, Greater}
use Rattle.vector_clock.specs.Stamp.{is_less}
use Rattle.vector_clock.proofs.laws.key_order.Goals as goal

-- the test of a lesser part and that of an equal one decide the comparison, and an equal one leaves it to the next part
then_less : (less same : Bool) (next : Ordering) (below : Bool) → ((next ≡ Less) ↔ (below ≡ true)) → (ordering_then (cond less Less (cond same Equal Greater)) next ≡ Less) ↔ ((less || (same && below)) ≡ true)
then_less true same next below h = (λ _. refl, λ _. refl)
then_less false true next below h = h
then_less false false next below h = (λ e. cc, λ e. cc)

last_less : (less same : Bool) → (cond less Less (cond same Equal Greater) ≡ Less) ↔ (less ≡ true)
last_less true same = (λ _. refl, λ _. refl)
last_less false true = (λ e. cc, λ e. cc)
last_less false false = (λ e. cc, λ e. cc)

pub returns : goal.returns
unfolding is_less
returns c = λ a b.
    then_less (nat_lt a.sum b.sum) (a.sum == b.sum) (ordering_then (nat_cmp a.member b.member) (nat_cmp a.seq b.seq))
    (nat_lt a.member b.member || ((a.member == b.member) && nat_lt a.seq b.seq))
    (then_less (nat_lt a.member b.member) (a.member == b.member) (nat_cmp a.seq b.seq) (nat_lt a.seq b.seq) (last_less (nat_lt a.seq b.seq) (a.seq == b.seq)))
