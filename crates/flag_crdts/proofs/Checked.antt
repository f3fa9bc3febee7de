-- A test of all cases of a small table, which computes.
use Rattle.std.proofs.Common.{◌≡◌, ℕ, zero, suc, ◌<◌, ◌==◌, ◌&&◌, ◌||◌, Bool, true, not, nat_lt, nat_le, length, slice_index, inl, inr, subst, arith}
use Rattle.std.proofs.lemmas.Bool.{cases_lt}
use Rattle.std.proofs.lemmas.Bool.Decides.{nat_tests}
use Rattle.action_tables.specs.Table.{ActionTable, HasSizes, IsTable, KeepsLaws, ActsUpward, act_of, level_of, next_of, op_count}

-- whether each number below n passes
abbrev pub below : (ℕ → Bool) → ℕ → Bool
below p zero = true
below p (suc n) = p n && below p n

at_below : (p : ℕ → Bool) (n i : ℕ) → below p n ≡ true → i < n → p i ≡ true
at_below p zero i h k = absurd (omega (arith, k))
at_below p (suc n) i h k =
    let first : p n ≡ true = grind (arith, h) in
    let rest : below p n ≡ true = grind (arith, h) in
    elim (cases_lt i n) [
      | inl lower ↦ at_below p n i rest lower
      | inr not_lower ↦ let e : n ≡ i = omega (arith, k, not_lower) in subst (λ j. p j ≡ true) e first
    ]

module _ (t : ActionTable) where
  abbrev pub has_entries : Bool
  has_entries =
      below (λ o. nat_le 1 (level_of t o) && nat_le (level_of t o) 8) (op_count t)
      && (below (λ i. nat_lt (slice_index t.next i) t.states) (length t.next) && below (λ i. nat_lt (slice_index t.act i) (op_count t)) (length t.act))

  abbrev pub acts_upward : ℕ → ℕ → Bool
  acts_upward y x = (level_of t (act_of t y x) == level_of t x) && (nat_lt (level_of t x) (level_of t y) || (act_of t y x == x))

  abbrev pub commutes : ℕ → ℕ → ℕ → Bool
  commutes x y s = not (level_of t x == level_of t y) || (next_of t (next_of t s x) y == next_of t (next_of t s y) x)

  abbrev pub exchanges : ℕ → ℕ → ℕ → Bool
  exchanges y x s = nat_le (level_of t y) (level_of t x) || (next_of t (next_of t s x) y == next_of t (next_of t s y) (act_of t y x))

  abbrev pub acts_alike : ℕ → ℕ → ℕ → Bool
  acts_alike y v x =
      not (level_of t y == level_of t v)
      || (nat_le (level_of t y) (level_of t x) || (act_of t y (act_of t v x) == act_of t v (act_of t y x)))

  abbrev pub distributes : ℕ → ℕ → ℕ → Bool
  distributes z y x =
      nat_le (level_of t y) (level_of t x)
      || (nat_le (level_of t z) (level_of t y) || (act_of t z (act_of t y x) == act_of t (act_of t z y) (act_of t z x)))

  abbrev pub keeps_laws : Bool
  keeps_laws =
      let ops = op_count t in
      below (λ y. below (λ x. acts_upward y x) ops) ops
      && (below (λ x. below (λ y. below (λ s. commutes x y s) t.states) ops) ops
      && (below (λ y. below (λ x. below (λ s. exchanges y x s) t.states) ops) ops
      && (below (λ y. below (λ v. below (λ x. acts_alike y v x) ops) ops) ops
      && below (λ z. below (λ y. below (λ x. distributes z y x) ops) ops) ops)))

  -- a test of three places holds at each
  at_three : (p : ℕ → ℕ → ℕ → Bool) (l m n a b c : ℕ) → below (λ a. below (λ b. below (λ c. p a b c) n) m) l ≡ true → a < l → b < m → c < n → p a b c ≡ true
  at_three p l m n a b c h i j k =
      at_below (λ c. p a b c) n c (at_below (λ b. below (λ c. p a b c) n) m b (at_below (λ a. below (λ b. below (λ c. p a b c) n) m) l a h i) j) k

  pub entries_hold : HasSizes t → has_entries ≡ true → IsTable t
  entries_hold sizes h =
      let levels : below (λ o. nat_le 1 (level_of t o) && nat_le (level_of t o) 8) (op_count t) ≡ true = grind (arith, h) in
      let next : below (λ i. nat_lt (slice_index t.next i) t.states) (length t.next) ≡ true = grind (arith, h) in
      let act : below (λ i. nat_lt (slice_index t.act i) (op_count t)) (length t.act) ≡ true = grind (arith, h) in
      record {
        sizes = sizes;
        levels = record {
          low = λ o lt. let e = at_below (λ o. nat_le 1 (level_of t o) && nat_le (level_of t o) 8) (op_count t) o levels lt in grind (arith, nat_tests, e);
          high = λ o lt. let e = at_below (λ o. nat_le 1 (level_of t o) && nat_le (level_of t o) 8) (op_count t) o levels lt in grind (arith, nat_tests, e);
        };
        entries = record {
          next = λ i lt. let e = at_below (λ i. nat_lt (slice_index t.next i) t.states) (length t.next) i next lt in grind (arith, nat_tests, e);
          act = λ i lt. let e = at_below (λ i. nat_lt (slice_index t.act i) (op_count t)) (length t.act) i act lt in grind (arith, nat_tests, e);
        };
      }

  upward_holds : (y x : ℕ) → acts_upward y x ≡ true → ActsUpward t y x
  upward_holds y x e = record { level = grind (arith, nat_tests, e); below = λ le. grind (arith, nat_tests, e, le) }

  pub laws_hold : keeps_laws ≡ true → KeepsLaws t
  laws_hold h =
      let ops = op_count t in
      let upward : below (λ y. below (λ x. acts_upward y x) (op_count t)) (op_count t) ≡ true = grind (arith, h) in
      let commute : below (λ x. below (λ y. below (λ s. commutes x y s) t.states) (op_count t)) (op_count t) ≡ true = grind (arith, h) in
      let exchange : below (λ y. below (λ x. below (λ s. exchanges y x s) t.states) (op_count t)) (op_count t) ≡ true = grind (arith, h) in
      let alike : below (λ y. below (λ v. below (λ x. acts_alike y v x) (op_count t)) (op_count t)) (op_count t) ≡ true = grind (arith, h) in
      let distribute : below (λ z. below (λ y. below (λ x. distributes z y x) (op_count t)) (op_count t)) (op_count t) ≡ true = grind (arith, h) in
      record {
        upward = λ y x i j. upward_holds y x (at_below (λ x. acts_upward y x) (op_count t) x (at_below (λ y. below (λ x. acts_upward y x) (op_count t)) (op_count t) y upward i) j);
        commute = λ x y s i j k same. let e = at_three (λ x y s. commutes x y s) (op_count t) (op_count t) t.states x y s commute i j k in grind (arith, nat_tests, e, same);
        exchange = λ y x s i j k lower. let e = at_three (λ y x s. exchanges y x s) (op_count t) (op_count t) t.states y x s exchange i j k in grind (arith, nat_tests, e, lower);
        act_alike = λ y v x i j k same lower. let e = at_three (λ y v x. acts_alike y v x) (op_count t) (op_count t) (op_count t) y v x alike i j k in grind (arith, nat_tests, e, same, lower);
        distribute = λ z y x i j k one two. let e = at_three (λ z y x. distributes z y x) (op_count t) (op_count t) (op_count t) z y x distribute i j k in grind (arith, nat_tests, e, one, two);
      }
