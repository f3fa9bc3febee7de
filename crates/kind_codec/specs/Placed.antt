-- The bytes of things that stand at positions: a count, and each position with what stands there, the positions strictly rising.
use Rattle.std.specs.Prelude.{◌≡◌, ◌≤◌, Bool, true, IsTrue, List, [], None}
use Rattle.std.proofs.Common.{refl, ap, cond, arith}
use Rattle.std.specs.List.{All, last_or}
use Rattle.std.specs.declared.cmp.Ordering.TheVariants.{Less, Equal, Greater}
use Rattle.std.specs.declared.cmp.Ordering.{Ordering}
use Rattle.std.specs.Ordering.{is_lt}
use Rattle.std.proofs.lemmas.List.Elements.{All-from_recursion, recursion_from_All}
use Rattle.vector_clock.specs.declared.clock.Clock.{Clock}
use Rattle.vector_clock.specs.Clock.{covers}
use Rattle.vector_clock.proofs.Ordered.{all_weaker}
use Rattle.list_crdt.specs.declared.position.Step.{Step}
use Rattle.list_crdt.specs.Cells.{IsRising}
use Rattle.list_crdt.specs.Position.{IsBefore, IsPositionOf, maker, position_cmp}
use Rattle.list_crdt.specs.Order.{position_total}
use Rattle.wire_core.specs.Reading.{Grammar, Input, Got, Stop, BadAt, IsExact, Rules, ending, chain, made, listed, allows_each}
use Rattle.wire_core.specs.Exact.{bind_got, test_got, only_exact, ending_exact, chain_exact, made_exact, listed_exact}
use Rattle.wire_core.specs.Steady.{IsLong, IsSteady, in_order_steady, only_steady, ending_steady, chain_steady, made_steady, listed_steady}
use Rattle.wire_core.specs.Rising.{IsTransitive, comes_next, follows, follows_back, next_key, pairs_back, pairs_from, rising_again, rising_taken}
use Rattle.kind_codec.specs.Position.{position_allowed, position_exact, position_grammar, position_in_order, position_is, position_long, step_bytes}

-- whether the first position comes before the second
abbrev pub is_before : List Step → List Step → Bool
is_before p q = is_lt (position_cmp p q)

pub less_is : (o : Ordering) → is_lt o ≡ true → o ≡ Less
less_is Less h = refl
less_is Equal h = absurd cc
less_is Greater h = absurd cc

module _ {X : Type 0} (at : X → List Step) where
  -- a position that comes after those of the things before, made for an operation that the clock covers: the order is looked at
  -- when the whole position is read, and where the clock does not cover the operation, the last step is at fault
  abbrev pub next_position : Clock → List X → Grammar (List Step)
  next_position d before = ending step_bytes (λ p. covers d (maker p)) (next_key at is_before position_grammar before)

  pub next_position_exact : (d : Clock) (before : List X) → IsExact (next_position d before)
  next_position_exact d before = ending_exact step_bytes _ _ (only_exact _ position_grammar position_exact)

  ordered_long : (before : List X) → IsLong step_bytes (next_key at is_before position_grammar before)
  ordered_long before = record {
    each = λ i p j e.
        let b = bind_got (position_grammar.read i) (λ q k. cond (comes_next at is_before (last_or None before) q) (Got q k) (Stop (BadAt i.at))) p j e in
        let t = test_got (comes_next at is_before (last_or None before) b.0) (BadAt i.at) b.0 p b.1 j b.3 in
        omega (arith, position_long i b.0 b.1 b.2, ap (λ (l : Input). l.at) t.2);
  }

  pub next_position_steady : (d : Clock) (before : List X) → IsSteady (next_position d before)
  next_position_steady d before = ending_steady step_bytes _ _ (ordered_long before) (only_steady _ position_grammar (in_order_steady position_grammar position_in_order))

  -- the first stands before the second
  abbrev StandsBefore : X → X → Type 0
  StandsBefore a b = IsBefore (at a) (at b)

  stands_transitive : IsTransitive StandsBefore
  stands_transitive = record { each = λ a b c h k. position_total.trans (at a) (at b) (at c) h k }

  module _ {B : Type 0} (whole : List Step × B → X) (rest_of : X → B) (rest : Grammar B) where
    -- a position, and what stands there
    abbrev pub placed_grammar : Clock → List X → Grammar X
    placed_grammar d before = made whole (λ x. (at x, rest_of x)) (chain (next_position d before) (λ _. rest))

    -- a count, and each position with what stands there
    abbrev pub placed_states : Clock → Grammar (List X)
    placed_states d = listed (placed_grammar d)

    module _ (back : (p : List Step × B) → ◌≡◌ {A = List Step × B} (at (whole p), rest_of (whole p)) p) (h : IsExact rest) (k : IsSteady rest) where
      pub placed_exact : (d : Clock) (before : List X) → IsExact (placed_grammar d before)
      placed_exact d before = made_exact _ _ _ (chain_exact (next_position d before) (λ _. rest) (next_position_exact d before) (λ _. h)) (λ r p a. back p)

      pub placed_states_exact : (d : Clock) → IsExact (placed_states d)
      placed_states_exact d = listed_exact (placed_grammar d) (placed_exact d)

      pub placed_states_steady : (d : Clock) → IsSteady (placed_states d)
      placed_states_steady d = listed_steady (placed_grammar d) (λ before. made_steady _ _ _ (chain_steady (next_position d before) (λ _. rest) (next_position_steady d before) (λ _. k)))

    -- what is allowed of each
    abbrev IsAllowed : Rules → Clock → X → Type 0
    IsAllowed r d x = IsPositionOf r.members (at x) × IsTrue (covers d (maker (at x))) × rest.allows r (rest_of x)

    -- what the things of an allowed list keep
    pub record ArePlaced (r : Rules) (d : Clock) (xs : List X) : Type 0 where
      pub rising : IsRising at xs
      pub positions : All (λ x. IsPositionOf r.members (at x)) xs
      pub known : All (λ x. IsTrue (covers d (maker (at x)))) xs
      pub rests : All (λ x. rest.allows r (rest_of x)) xs

    pub placed_taken : (r : Rules) (d : Clock) (xs : List X) → allows_each (placed_grammar d) r [] xs → ArePlaced r d xs
    placed_taken r d xs a =
        let t = rising_taken StandsBefore stands_transitive (placed_grammar d) r (IsAllowed r d) (λ before x b.
        (follows at is_before StandsBefore (λ y z e. less_is (position_cmp (at y) (at z)) e) (last_or None before) x b.0.0.0.1, (position_is r (at x) b.0.0.0.0, b.0.0.1, b.0.1))) xs a in
        record {
          rising = pairs_from StandsBefore xs t.0;
          positions = All-from_recursion (λ x. IsPositionOf r.members (at x)) xs (all_weaker (IsAllowed r d) (λ x. IsPositionOf r.members (at x)) (λ x q. q.0) xs t.1);
          known = All-from_recursion (λ x. IsTrue (covers d (maker (at x)))) xs (all_weaker (IsAllowed r d) (λ x. IsTrue (covers d (maker (at x)))) (λ x q. q.1) xs t.1);
          rests = All-from_recursion (λ x. rest.allows r (rest_of x)) xs (all_weaker (IsAllowed r d) (λ x. rest.allows r (rest_of x)) (λ x q. q.2) xs t.1);
        }

    pub placed_again : ((x : X) → whole (at x, rest_of x) ≡ x) → (r : Rules) (d : Clock) (xs : List X) → r.members ≤ 256 → ArePlaced r d xs → allows_each (placed_grammar d) r [] xs
    placed_again same r d xs few h =
        let all : All (IsAllowed r d) xs = λ i x lt. (h.positions i x lt, h.known i x lt, h.rests i x lt) in
        rising_again StandsBefore stands_transitive (placed_grammar d) r (IsAllowed r d) (λ before x f q.
        ((((position_allowed r (at x) few q.0, follows_back at is_before StandsBefore (λ y z e. ap is_lt e) (last_or None before) x f), q.1), q.2), same x))
        xs (pairs_back StandsBefore xs h.rising) (recursion_from_All (IsAllowed r d) xs all)
