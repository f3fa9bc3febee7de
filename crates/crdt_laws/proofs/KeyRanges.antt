-- The keys of issued operations are within their ranges.
use Rattle.std.specs.Prelude.{◌≡◌, ℕ, zero, suc, ◌+◌, ◌*◌, ◌≤◌, List, [], ◌∷◌, sum, slice_index}
use Rattle.std.proofs.Common.{arith, zero-mul}
use Rattle.std.proofs.lemmas.List.Sums.{sum_by-cons}
use Rattle.vector_clock.specs.declared.stamp.Stamp.{Stamp}
use Rattle.vector_clock.specs.Stamp.{key_of}
use Rattle.crdt_laws.specs.Keys.{IsKeyOf}
use Rattle.crdt_laws.specs.Tower.{IsStampOf, IsWithin}
use Rattle.vector_clock.specs.Clock.{max_seq}

-- a sum of entries of which only the first n are not 0
sum_bounded : (n bound : ℕ) (xs : List ℕ) → ((i : ℕ) → slice_index xs i ≤ bound) → ((i : ℕ) → n ≤ i → slice_index xs i ≡ 0) → sum xs ≤ n * bound
sum_bounded n bound [] most empty = omega arith
sum_bounded zero bound (x ∷ xs) most empty =
    let head : x ≡ 0 = empty 0 (omega arith) in
    let rest : sum xs ≤ 0 * bound = sum_bounded zero bound xs (λ i. most (suc i)) (λ i _. empty (suc i) (omega arith)) in
    omega (arith, sum_by-cons (λ y. y) x xs, zero-mul bound)
sum_bounded (suc n) bound (x ∷ xs) most empty =
    let head : x ≤ bound = most 0 in
    let rest : sum xs ≤ n * bound = sum_bounded n bound xs (λ i. most (suc i)) (λ i h. empty (suc i) (omega arith)) in
    let more : suc n * bound ≡ bound + n * bound = omega arith in
    omega (arith, sum_by-cons (λ y. y) x xs)

-- the key of an issued operation
pub key_issued : (n : ℕ) (p : Stamp) → IsStampOf n p → IsWithin p → IsKeyOf n (key_of p)
key_issued n p stamp within = record {
  sum = sum_bounded n max_seq p.clock.at within.each (λ i h. stamp.stamp.clock.empty_past i (omega (arith, stamp.members)));
  member = omega (arith, stamp.stamp.member, stamp.members);
  low = stamp.stamp.counted;
  high = within.each p.member;
}
