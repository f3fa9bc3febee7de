-- Happens-before is a strict order on honest sets.
use Rattle.std.proofs.Common.{◌≡◌, ◌≤◌, true, false, List, arith, Contains}
use Rattle.std.proofs.lemmas.Bool.{false_from_ne_true}
use Rattle.std.proofs.lemmas.Bool.Decides.{nat_tests}
use Rattle.vector_clock.specs.declared.clock.Clock.{Clock}
use Rattle.vector_clock.specs.declared.stamp.Stamp.{Stamp}
use Rattle.vector_clock.specs.Clock.{IsAtMost, count, covers}
use Rattle.vector_clock.specs.Stamp.{id_of, same_id, is_before, is_below, IsAfter}
use Rattle.vector_clock.specs.Sets.{IsHonest}
use Rattle.vector_clock.proofs.Keys.{before_covers, below_known}

pub before_irreflexive : (a : Stamp) → is_before a a ≡ false
unfolding is_before same_id
before_irreflexive a = grind (arith, nat_tests)

-- what a clock past the second does not cover, while it covers the first, is another operation
before_from : (a b c : Stamp) → covers c.clock (id_of a) ≡ true → covers b.clock (id_of a) ≡ true → covers b.clock (id_of c) ≡ false → is_before a c ≡ true
unfolding is_before same_id
before_from a b c h k l = grind (arith, nat_tests)

pub covers_past : (j k : Clock) (a : Stamp) → IsAtMost j k → covers j (id_of a) ≡ true → covers k (id_of a) ≡ true
covers_past j k a h c = let m : count j a.member ≤ count k a.member = h.each a.member in grind (arith, nat_tests)

-- b comes after a, and c after b
pub before_trans : (a b c : Stamp) → is_before a b ≡ true → IsAfter b.clock c → is_before a c ≡ true
before_trans a b c h k = before_from a b c (covers_past b.clock c.clock a k.knows (before_covers a b h)) (before_covers a b h) k.new

module _ {X : Type 0} (at : X → Stamp) (xs : List X) (honest : IsHonest at xs) where
  pub honest_asymmetric : (a b : X) → Contains xs a → Contains xs b → is_before (at a) (at b) ≡ true → is_before (at b) (at a) ≡ false
  honest_asymmetric a b i j h = false_from_ne_true _ (λ k.
      let e : covers (at a).clock (id_of (at b)) ≡ false = (honest.known b a j i h).new in
      let f : covers (at a).clock (id_of (at b)) ≡ true = before_covers (at b) (at a) k in
      cc)

  pub honest_transitive : (a b c : X) → Contains xs a → Contains xs b → Contains xs c → is_before (at a) (at b) ≡ true → is_before (at b) (at c) ≡ true → is_before (at a) (at c) ≡ true
  honest_transitive a b c i j l h k = before_trans (at a) (at b) (at c) h (honest.known c b l j k)

  pub honest_below : (a b : X) → Contains xs a → Contains xs b → is_before (at a) (at b) ≡ true → is_below (at a) (at b) ≡ true
  honest_below a b i j h = below_known (at b) (at a) (honest.known b a j i h)
