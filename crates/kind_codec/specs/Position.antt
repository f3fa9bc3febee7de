-- The bytes of positions: a count, and so many steps.
use Rattle.std.specs.Prelude.{◌≡◌, ℕ, zero, suc, ◌+◌, ◌≤◌, ◌<◌, ◌⊎◌, Bool, true, false, not, ◌&&◌, ◌||◌, ◌==◌, List, [], ◌∷◌, ◌++◌, length, nat_le, nat_lt}
use Rattle.std.proofs.Common.{refl, ap, sym, subst, ◌∙◌, inl, inr, arith, length-append, cond, ltb}
use Rattle.std.proofs.lemmas.Bool.{ltb-true, leb-true, false≢true}
use Rattle.std.proofs.lemmas.Bool.Decides.{nat_tests}
use Rattle.vector_clock.specs.Clock.{max_seq}
use Rattle.list_crdt.specs.declared.position.Step.{Step}
use Rattle.list_crdt.specs.Position.{AreSteps, NamesOperation, IsPositionOf, max_steps, pad}
use Rattle.byteorder.specs.Endian.{big_number}
use Rattle.wire_core.specs.Reading.{Grammar, Input, Got, Stop, ShortAt, BadAt, ◌>>=◌, IsExact, Rules, behind, number, moved, only, tested, chain, made, repeated, read_each, allows_each}
use Rattle.wire_core.specs.Exact.{bind_got, got_is, test_got, moved_got, number_exact, only_exact, tested_exact, chain_exact, made_exact, repeated_exact}
use Rattle.wire_core.specs.Faults.{IsFrom, IsInOrder}
use Rattle.wire_core.specs.InOrder.{number_in_order, number_is_field, only_in_order, tested_in_order, chain_in_order, made_in_order, repeated_in_order}
use Rattle.wire_core.specs.ClocksExact.{both}

-- a digit, a member and a sequence number
abbrev pub step_of : ℕ → ℕ → ℕ → Step
step_of digit member seq = record { digit = digit; member = member; seq = seq }

abbrev pub step_parts : Grammar Step
step_parts = made (λ p. step_of p.0 p.1.0 p.1.1) (λ s. (s.digit, (s.member, s.seq))) (chain (number 2) (λ _. chain (number 1) (λ _. number 4)))

-- the step has the id of an operation of one of n members
abbrev pub names_op : ℕ → Step → Bool
names_op n s = (nat_le 1 s.digit && nat_lt s.member n) && (nat_le 1 s.seq && nat_le s.seq max_seq)

abbrev pub is_pad : Step → Bool
is_pad s = (s.digit == 0) && ((s.member == 0) && (s.seq == 0))

-- the last step of a position is no pad
abbrev pub is_step : ℕ → Bool → Step → Bool
is_step n last s = names_op n s || (not last && is_pad s)

abbrev pub step_grammar : Bool → Grammar Step
step_grammar last = tested (λ r. is_step r.members last) step_parts

-- the next of n steps, behind those before
abbrev pub step_at : ℕ → List Step → Grammar Step
step_at n before = step_grammar (length before + 1 == n)

abbrev pub count_grammar : Grammar ℕ
count_grammar = only (λ _ n. nat_le 1 n && nat_le n max_steps) (number 1)

abbrev pub position_grammar : Grammar (List Step)
position_grammar = made (λ p. p.1) (λ xs. (length xs, xs)) (chain count_grammar (λ n. repeated (step_at n) n []))

-- how many bytes a step has
abbrev pub step_bytes : ℕ
step_bytes = 7

pub step_exact : (last : Bool) → IsExact (step_grammar last)
step_exact last = tested_exact _ step_parts (made_exact _ _ _ (chain_exact (number 2) (λ _. chain (number 1) (λ _. number 4)) (number_exact 2)
    (λ _. chain_exact (number 1) (λ _. number 4) (number_exact 1) (λ _. number_exact 4))) (λ r p a. refl))

-- a list with its length
pair_back : (p : ℕ × List Step) → length p.1 ≡ p.0 → ◌≡◌ {A = ℕ × List Step} (length p.1, p.1) p
pair_back p e = ap (λ (m : ℕ). let q : ℕ × List Step = (m, p.1) in q) e

pub position_exact : IsExact position_grammar
position_exact = made_exact (λ p. p.1) (λ xs. (length xs, xs)) (chain count_grammar (λ n. repeated (step_at n) n []))
    (chain_exact count_grammar (λ n. repeated (step_at n) n []) (only_exact _ (number 1) (number_exact 1)) (λ n. repeated_exact (step_at n) (λ before. step_exact (length before + 1 == n)) n []))
    (λ r p a. pair_back p a.1.0)

pub step_in_order : (last : Bool) → IsInOrder (step_grammar last)
step_in_order last = tested_in_order _ step_parts (made_in_order _ _ _ (chain_in_order (number 2) (λ _. chain (number 1) (λ _. number 4)) (number_in_order 2)
    (λ _. chain_in_order (number 1) (λ _. number 4) (number_in_order 1) (λ _. number_in_order 4))))

pub position_in_order : IsInOrder position_grammar
position_in_order = made_in_order (λ p. p.1) (λ xs. (length xs, xs)) (chain count_grammar (λ n. repeated (step_at n) n []))
    (chain_in_order count_grammar (λ n. repeated (step_at n) n []) (only_in_order _ (number 1) (number_is_field 1) (number_in_order 1))
    (λ n. repeated_in_order (step_at n) (λ before. step_in_order (length before + 1 == n)) n []))

-- ---- positions of the document may be written

parts_allowed : (r : Rules) (s : Step) → s.digit < 65536 → s.member < 256 → s.seq ≤ max_seq → step_parts.allows r s
unfolding number
parts_allowed r s digit member seq = ((omega arith, (omega arith, omega arith)), refl)

names_true : (n : ℕ) (s : Step) → NamesOperation n s → names_op n s ≡ true
names_true n s h =
    let low = h.digit.low in
    let member = h.member in
    let counted = h.counted in
    let within = h.within in
    grind (arith, nat_tests)

naming_allowed : (r : Rules) (last : Bool) (s : Step) → r.members ≤ 256 → NamesOperation r.members s → (step_grammar last).allows r s
naming_allowed r last s few h =
    let member = h.member in
    (parts_allowed r s h.digit.high (omega arith) h.within, rw (names_true r.members s h) refl)

pad_allowed : (r : Rules) (s : Step) → s ≡ pad → (step_grammar false).allows r s
pad_allowed r s e = subst (λ (t : Step). (step_grammar false).allows r t) (sym e) (parts_allowed r pad (omega arith) (omega arith) (omega arith), refl)

steps_allowed : (r : Rules) (n : ℕ) (before xs : List Step) → r.members ≤ 256 → length before + length xs ≡ n → AreSteps (NamesOperation r.members) xs
    → allows_each (step_at n) r before xs
steps_allowed r n before [] few e h = absurd h
steps_allowed r n before (s ∷ []) few e h = (naming_allowed r _ s few h, tt)
steps_allowed r n before (s ∷ t ∷ p) few e h =
    let more : (length before + 1 == n) ≡ false = grind (arith, nat_tests) in
    let rest = steps_allowed r n (before ++ s ∷ []) (t ∷ p) few (omega (arith, length-append before (s ∷ []))) h.1 in
    (elim h.0 [ inl e ↦ subst (λ (b : Bool). (step_grammar b).allows r s) (sym more) (pad_allowed r s e) | inr k ↦ naming_allowed r _ s few k ], rest)

some_steps : (n : ℕ) (p : List Step) → AreSteps (NamesOperation n) p → 1 ≤ length p
some_steps n [] h = absurd h
some_steps n (s ∷ p) h = omega arith

count_allowed : (r : Rules) (n : ℕ) → 1 ≤ n → n ≤ max_steps → count_grammar.allows r n
unfolding number
count_allowed r n some most = (omega arith, grind (arith, nat_tests))

pub position_allowed : (r : Rules) (p : List Step) → r.members ≤ 256 → IsPositionOf r.members p → position_grammar.allows r p
position_allowed r p few h =
    ((count_allowed r (length p) (some_steps r.members p h.steps) h.most, (refl, steps_allowed r (length p) [] p few (omega arith) h.steps)), refl)

-- ---- a position has at least the bytes of its last step

number_moves : (k : ℕ) (i : Input) (x : ℕ) (j : Input) → (number k).read i ≡ Got x j → j.at ≡ i.at + k
unfolding number
number_moves k i x j e = go (ltb (length i.rest) k) e
  where
    go : (b : Bool) → cond b (Stop (ShortAt i.at)) (Got (big_number k i.rest) (behind k i)) ≡ Got x j → j.at ≡ i.at + k
    go true e = absurd cc
    go false e = ap (λ (l : Input). l.at) (sym (got_is (big_number k i.rest) x (behind k i) j e).1)

step_moves : (last : Bool) (i : Input) (s : Step) (j : Input) → (step_grammar last).read i ≡ Got s j → j.at ≡ i.at + step_bytes
step_moves last i s j e =
    let b = bind_got (moved i.at (step_parts.read i)) (λ y k. cond (is_step i.rules.members last y) (Got y k) (Stop (BadAt i.at))) s j e in
    let t = test_got (is_step i.rules.members last b.0) (BadAt i.at) b.0 s b.1 j b.3 in
    let whole : step_parts.read i ≡ Got b.0 b.1 = moved_got i.at (step_parts.read i) b.0 b.1 b.2 in
    let p = bind_got ((chain (number 2) (λ _. chain (number 1) (λ _. number 4))).read i) (λ p k. Got (step_of p.0 p.1.0 p.1.1) k) b.0 b.1 whole in
    let at : p.1 ≡ b.1 = (got_is _ b.0 p.1 b.1 p.3).1 in
    let c = bind_got ((number 2).read i) (λ x l. (chain (number 1) (λ _. number 4)).read l >>= λ y k. Got (x, y) k) p.0 p.1 p.2 in
    let d = bind_got ((chain (number 1) (λ _. number 4)).read c.1) (λ y k. Got (c.0, y) k) p.0 p.1 c.3 in
    let f = bind_got ((number 1).read c.1) (λ x l. (number 4).read l >>= λ y k. Got (x, y) k) d.0 d.1 d.2 in
    let g = bind_got ((number 4).read f.1) (λ y k. Got (f.0, y) k) d.0 d.1 f.3 in
    let one = number_moves 2 i c.0 c.1 c.2 in
    let two = number_moves 1 c.1 f.0 f.1 f.2 in
    let four = number_moves 4 f.1 g.0 g.1 g.2 in
    omega (arith, one, two, four, ap (λ (l : Input). l.at) (got_is _ d.0 g.1 d.1 g.3).1, ap (λ (l : Input). l.at) (got_is _ p.0 d.1 p.1 d.3).1, ap (λ (l : Input). l.at) at, ap (λ (l : Input). l.at) t.2)

each_long : (n m : ℕ) (before : List Step) (i : Input) (xs : List Step) (j : Input) → 1 ≤ m → read_each (step_at n) m before i ≡ Got xs j → i.at + step_bytes ≤ j.at
each_long n zero before i xs j some e = absurd (omega arith)
each_long n (suc m) before i xs j some e =
    let b = bind_got ((step_at n before).read i) (λ x k. read_each (step_at n) m (before ++ x ∷ []) k >>= λ ys l. Got (x ∷ ys) l) xs j e in
    let c = bind_got (read_each (step_at n) m (before ++ b.0 ∷ []) b.1) (λ ys l. Got (b.0 ∷ ys) l) xs j b.3 in
    let first = step_moves (length before + 1 == n) i b.0 b.1 b.2 in
    let onward : IsFrom b.1.at (Got c.0 c.1) =
    subst (IsFrom b.1.at) c.2 ((repeated_in_order (step_at n) (λ front. step_in_order (length front + 1 == n)) m (before ++ b.0 ∷ [])).onward b.1) in
    omega (arith, first, onward, ap (λ (l : Input). l.at) (got_is (b.0 ∷ c.0) xs c.1 j c.3).1)

pub position_long : (i : Input) (p : List Step) (j : Input) → position_grammar.read i ≡ Got p j → i.at + step_bytes ≤ j.at
position_long i p j e =
    let whole = bind_got ((chain count_grammar (λ n. repeated (step_at n) n [])).read i) (λ q k. Got q.1 k) p j e in
    let c = bind_got (count_grammar.read i) (λ n k. read_each (step_at n) n [] k >>= λ xs l. Got (n, xs) l) whole.0 whole.1 whole.2 in
    let number_of = bind_got ((number 1).read i) (λ n k. cond (nat_le 1 n && nat_le n max_steps) (Got n k) (Stop (BadAt i.at))) c.0 c.1 c.2 in
    let t = test_got (nat_le 1 number_of.0 && nat_le number_of.0 max_steps) (BadAt i.at) number_of.0 c.0 number_of.1 c.1 number_of.3 in
    let some : 1 ≤ number_of.0 = leb-true 1 number_of.0 (both (nat_le 1 number_of.0) (nat_le number_of.0 max_steps) t.0).0 in
    let steps = bind_got (read_each (step_at c.0) c.0 [] c.1) (λ xs l. Got (c.0, xs) l) whole.0 whole.1 c.3 in
    let long = each_long c.0 c.0 [] c.1 steps.0 steps.1 (omega (arith, some, t.1)) steps.2 in
    let start = number_moves 1 i number_of.0 number_of.1 number_of.2 in
    omega (arith, long, start, ap (λ (l : Input). l.at) t.2, ap (λ (l : Input). l.at) (got_is (c.0, steps.0) whole.0 steps.1 whole.1 steps.3).1, ap (λ (l : Input). l.at) (got_is whole.0.1 p whole.1 j whole.3).1)

-- ---- positions that are allowed are those of the document

number_small : (r : Rules) (x : ℕ) → (number 2).allows r x → x < 65536
unfolding number
number_small r x h = omega (arith, h)

names_is : (n : ℕ) (s : Step) → s.digit < 65536 → names_op n s ≡ true → NamesOperation n s
names_is n s high h =
    let sides = both (nat_le 1 s.digit && nat_lt s.member n) (nat_le 1 s.seq && nat_le s.seq max_seq) h in
    let front = both (nat_le 1 s.digit) (nat_lt s.member n) sides.0 in
    let back = both (nat_le 1 s.seq) (nat_le s.seq max_seq) sides.1 in
    record {
      digit = record { low = leb-true 1 s.digit front.0; high = high };
      member = ltb-true s.member n front.1;
      counted = leb-true 1 s.seq back.0;
      within = leb-true s.seq max_seq back.1;
    }

pad_is : (s : Step) → is_pad s ≡ true → s ≡ pad
pad_is s h =
    let sides = both (s.digit == 0) ((s.member == 0) && (s.seq == 0)) h in
    let back = both (s.member == 0) (s.seq == 0) sides.1 in
    let digit : s.digit ≡ 0 = grind (arith, nat_tests) in
    let member : s.member ≡ 0 = grind (arith, nat_tests) in
    let seq : s.seq ≡ 0 = grind (arith, nat_tests) in
    ap (λ (d : ℕ). step_of d s.member s.seq) digit ∙ ap (λ (m : ℕ). step_of 0 m s.seq) member ∙ ap (step_of 0 0) seq

either : (a b : Bool) → (a || b) ≡ true → (a ≡ true) ⊎ (b ≡ true)
either true b h = inl refl
either false b h = inr h

step_is : (r : Rules) (last : Bool) (s : Step) → (step_grammar last).allows r s → ((last ≡ false) × (s ≡ pad)) ⊎ NamesOperation r.members s
step_is r last s h = elim (either (names_op r.members s) (not last && is_pad s) h.1) [
  | inl n ↦ inr (names_is r.members s (number_small r s.digit h.0.0.0) n)
  | inr p ↦
      let sides = both (not last) (is_pad s) p in
      inl (off last sides.0, pad_is s sides.1)
]
  where
    off : (b : Bool) → not b ≡ true → b ≡ false
    off true e = absurd cc
    off false e = refl

steps_are : (r : Rules) (n : ℕ) (before xs : List Step) → length before + length xs ≡ n → 1 ≤ length xs → allows_each (step_at n) r before xs → AreSteps (NamesOperation r.members) xs
steps_are r n before [] e some h = absurd (omega arith)
steps_are r n before (s ∷ []) e some h =
    let last : (length before + 1 == n) ≡ true = grind (arith, nat_tests) in
    elim (step_is r (length before + 1 == n) s h.0) [ inl p ↦ absurd (false≢true (sym p.0 ∙ last)) | inr k ↦ k ]
steps_are r n before (s ∷ t ∷ p) e some h =
    let rest = steps_are r n (before ++ s ∷ []) (t ∷ p) (omega (arith, e, length-append before (s ∷ []))) (omega arith) h.1 in
    (elim (step_is r (length before + 1 == n) s h.0) [ inl q ↦ inl q.1 | inr k ↦ inr k ], rest)

pub position_is : (r : Rules) (p : List Step) → position_grammar.allows r p → IsPositionOf r.members p
position_is r p h =
    let count = both (nat_le 1 (length p)) (nat_le (length p) max_steps) h.0.0.1 in
    record { steps = steps_are r (length p) [] p (omega arith) (leb-true 1 (length p) count.0) h.0.1.1; most = leb-true (length p) max_steps count.1 }
