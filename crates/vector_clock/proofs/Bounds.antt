-- Join and meet are the least upper and the greatest lower bounds of clocks.
use Rattle.std.proofs.Common.{◌≡◌, ◌∙◌, sym, ℕ, ◌≤◌, ◌<◌, ◌⊎◌, max, min, List, length, inl, inr, subst, arith, refl, true}
use Rattle.std.proofs.lemmas.Bool.{cases_eq, cases_lt}
use Rattle.std.proofs.lemmas.Bool.Decides.{nat_tests}
use Rattle.std.proofs.lemmas.List.{get_or_past, get_or-replicate, get_or-set_other, get_or-set_same, length-replicate}
use Rattle.std.proofs.Math.ListN.{length-set}
use Rattle.vector_clock.specs.declared.clock.Clock.{Clock}
use Rattle.vector_clock.specs.declared.stamp.Stamp.{Stamp}
use Rattle.vector_clock.specs.Clock.{IsAtMost, IsClock, count, covers, join, max_entry, max_members, meet, with_entry, zero_clock}
use Rattle.vector_clock.specs.Stamp.{id_of}
use Rattle.vector_clock.specs.Sets.{AgreesWith}
use Rattle.vector_clock.proofs.Clocks.{at_most_below, clock_by-is, count-clock_by, length-clock_by, n-clock_by}

-- there is nothing past the last possible entry
count_past : (c : Clock) (m : ℕ) → length c.at ≡ max_members → max_members ≤ m → count c m ≡ 0
count_past c m wide h = get_or_past c.at m 0 (omega arith)

count-join : (a b : Clock) (m : ℕ) → m < max_members → count (join a b) m ≡ max (count a m) (count b m)
count-join a b m h = count-clock_by a.n (λ k. max (count a k) (count b k)) m h

count-meet : (a b : Clock) (m : ℕ) → m < max_members → count (meet a b) m ≡ min (count a m) (count b m)
count-meet a b m h = count-clock_by a.n (λ k. min (count a k) (count b k)) m h

length-join : (a b : Clock) → length (join a b).at ≡ max_members
length-join a b = length-clock_by a.n (λ k. max (count a k) (count b k))

length-meet : (a b : Clock) → length (meet a b).at ≡ max_members
length-meet a b = length-clock_by a.n (λ k. min (count a k) (count b k))

pub join_left : (a b : Clock) → IsClock a → IsAtMost a (join a b)
join_left a b h = at_most_below a (join a b) h.wide (λ m l. omega (arith, count-join a b m l))

pub join_right : (a b : Clock) → IsClock b → IsAtMost b (join a b)
join_right a b h = at_most_below b (join a b) h.wide (λ m l. omega (arith, count-join a b m l))

pub join_least : (a b k : Clock) → IsAtMost a k → IsAtMost b k → IsAtMost (join a b) k
join_least a b k h i = at_most_below (join a b) k (length-join a b) (λ m l. omega (arith, count-join a b m l, h.each m, i.each m))

pub meet_left : (a b : Clock) → IsAtMost (meet a b) a
meet_left a b = at_most_below (meet a b) a (length-meet a b) (λ m l. omega (arith, count-meet a b m l))

pub meet_right : (a b : Clock) → IsAtMost (meet a b) b
meet_right a b = at_most_below (meet a b) b (length-meet a b) (λ m l. omega (arith, count-meet a b m l))

pub meet_greatest : (a b k : Clock) → IsClock a → IsAtMost k a → IsAtMost k b → IsAtMost k (meet a b)
meet_greatest a b k w h i = record {
  each = λ m. elim (cases_lt m max_members) [
    | inl l ↦ omega (arith, count-meet a b m l, h.each m, i.each m)
    | inr l ↦ omega (arith, count_past a m w.wide l, h.each m)
  ];
}

-- a clock of n members by its entries below the limit
is_clock_from : (c : Clock) → 1 ≤ c.n → c.n ≤ max_members → length c.at ≡ max_members → ((m : ℕ) → m < max_members → count c m ≤ max_entry) → ((m : ℕ) → m < max_members → c.n ≤ m → count c m ≡ 0) → IsClock c
is_clock_from c some most wide bounded empty = record {
  some = some;
  most = most;
  wide = wide;
  bounded = λ m. elim (cases_lt m max_members) [ inl h ↦ bounded m h | inr h ↦ omega (arith, count_past c m wide h) ];
  empty_past = λ m g. elim (cases_lt m max_members) [ inl h ↦ empty m h g | inr h ↦ count_past c m wide h ];
}

pub join_clock : (a b : Clock) → IsClock a → IsClock b → a.n ≡ b.n → IsClock (join a b)
join_clock a b h i e =
    let n : (join a b).n ≡ a.n = n-clock_by a.n (λ k. max (count a k) (count b k)) in
    is_clock_from (join a b) (omega arith) (omega arith) (length-join a b)
    (λ m l. omega (arith, count-join a b m l, h.bounded m, i.bounded m))
    (λ m l g. omega (arith, count-join a b m l, h.empty_past m (omega arith), i.empty_past m (omega arith)))

pub meet_clock : (a b : Clock) → IsClock a → IsClock b → a.n ≡ b.n → IsClock (meet a b)
meet_clock a b h i e =
    let n : (meet a b).n ≡ a.n = n-clock_by a.n (λ k. min (count a k) (count b k)) in
    is_clock_from (meet a b) (omega arith) (omega arith) (length-meet a b)
    (λ m l. omega (arith, count-meet a b m l, h.bounded m, i.bounded m))
    (λ m l g. omega (arith, count-meet a b m l, h.empty_past m (omega arith), i.empty_past m (omega arith)))

pub zero_is_clock : (n : ℕ) → 1 ≤ n → n ≤ max_members → IsClock (zero_clock n)
zero_is_clock n h k =
    is_clock_from (zero_clock n) h k (length-replicate {A = ℕ} max_members 0)
    (λ m l. let e : count (zero_clock n) m ≡ 0 = get_or-replicate {A = ℕ} max_members m 0 0 l in omega arith)
    (λ m l g. get_or-replicate {A = ℕ} max_members m 0 0 l)

pub with_is_clock : (c : Clock) (i seq : ℕ) → IsClock c → i < c.n → seq ≤ max_entry → IsClock (with_entry c i seq)
with_is_clock c i seq h l b =
    is_clock_from (with_entry c i seq) h.some h.most (length-set c.at i seq ∙ h.wide)
    (λ m k. elim (cases_eq m i) [
      | inl e ↦ (let g : count (with_entry c i seq) m ≡ seq = written m e in omega arith)
      | inr e ↦ (let g : count (with_entry c i seq) m ≡ count c m = get_or-set_other c.at i m seq 0 e in omega (arith, h.bounded m))
    ])
    (λ m k g. get_or-set_other c.at i m seq 0 (λ e. let j : m ≡ i = e in omega arith) ∙ h.empty_past m g)
  where
    written : (m : ℕ) → m ≡ i → count (with_entry c i seq) m ≡ seq
    written m e = subst (λ j. count (with_entry c i seq) j ≡ seq) (sym e) (get_or-set_same c.at i seq 0 (omega (arith, h.wide, h.most)))

pub at_most_refl : (a : Clock) → IsAtMost a a
at_most_refl a = record { each = λ m. omega arith }

pub at_most_trans : (a b c : Clock) → IsAtMost a b → IsAtMost b c → IsAtMost a c
at_most_trans a b c h k = record { each = λ m. omega (arith, h.each m, k.each m) }

pub at_most_antisym : (a b : Clock) → IsClock a → IsClock b → a.n ≡ b.n → IsAtMost a b → IsAtMost b a → a ≡ b
at_most_antisym a b h i e j k =
    clock_by-is a.n (count a) a refl h.wide (λ m l. refl)
    ∙ sym (clock_by-is a.n (count a) b (sym e) i.wide (λ m l. omega (arith, j.each m, k.each m)))

covers-join : (k l : Clock) (p : Stamp) → length k.at ≡ max_members → covers (join k l) (id_of p) ≡ true → (covers k (id_of p) ≡ true) ⊎ (covers l (id_of p) ≡ true)
covers-join k l p wide h = elim (cases_lt p.member max_members) [
  | inl i ↦ (let e : count (join k l) p.member ≡ max (count k p.member) (count l p.member) = count-join k l p.member i in grind (arith, nat_tests))
  | inr i ↦ (let e : count (join k l) p.member ≡ 0 = count_past (join k l) p.member (length-join k l) i in grind (arith, nat_tests))
]

covers_less : (j k : Clock) (p : Stamp) → IsAtMost j k → covers j (id_of p) ≡ true → covers k (id_of p) ≡ true
covers_less j k p h c = let m : count j p.member ≤ count k p.member = h.each p.member in grind (arith, nat_tests)

pub join_agrees : {X : Type 0} (at : X → Stamp) (xs : List X) (k l : Clock) → IsClock k → IsClock l → AgreesWith at k xs → AgreesWith at l xs → AgreesWith at (join k l) xs
join_agrees at xs k l h i f g = record {
  each = λ a c v. elim (covers-join k l (at a) h.wide v) [
    | inl w ↦ at_most_trans (at a).clock k (join k l) (f.each a c w) (join_left k l h)
    | inr w ↦ at_most_trans (at a).clock l (join k l) (g.each a c w) (join_right k l i)
  ];
}

pub meet_agrees : {X : Type 0} (at : X → Stamp) (xs : List X) (k l : Clock) → IsClock k → AgreesWith at k xs → AgreesWith at l xs → AgreesWith at (meet k l) xs
meet_agrees at xs k l h f g = record {
  each = λ a c v. meet_greatest k l (at a).clock h
      (f.each a c (covers_less (meet k l) k (at a) (meet_left k l) v))
      (g.each a c (covers_less (meet k l) l (at a) (meet_right k l) v));
}
