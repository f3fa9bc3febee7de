-- Operations that one clock covers and a lesser one does not: there are no more of them than the one counts more than the other.
use Rattle.std.proofs.Common.{◌≡◌, ℕ, suc, ◌+◌, ◌-◌, ◌<◌, ◌≤◌, Bool, true, false, not, List, [], ◌∷◌, cond, eqb, get_or, sum, length, map, ap, sym, ◌∙◌, subst, arith, Contains, inl, inr, refl}
use Rattle.std.specs.Prelude.{filter, nat_eq}
use Rattle.std.specs.List.{range_with_len}
use Rattle.std.specs.Set.{is_member}
use Rattle.std.proofs.lemmas.Bool.{both_ways, cases_eq, cases_lt, eq-eqb, eqb-true, not-true, false_from_ne_true, le-leb, leb-true, ne_eqb}
use Rattle.std.proofs.lemmas.Bool.Decides.{Decides-eqb}
use Rattle.std.proofs.lemmas.Cmp.{nat_eq_equiv}
use Rattle.std.proofs.lemmas.List.Filters.{length-filter_both}
use Rattle.std.proofs.lemmas.List.FromFn.{length-range_with_len}
use Rattle.std.proofs.lemmas.List.Sums.{sum_by-cons}
use Rattle.std.proofs.lemmas.List.{get_or_past}
use Rattle.std.proofs.lemmas.Map.Made.{is_member-Decides, length-le_from_is_member}
use Rattle.std.proofs.Math.ListN.{length-map}
use Rattle.vector_clock.specs.declared.clock.Clock.{Clock}
use Rattle.vector_clock.specs.Clock.{IsAtMost, count, covers}
use Rattle.vector_clock.specs.Stamp.{id_of}
use Rattle.crdt_laws.specs.declared.small.Entry.{Entry}
use Rattle.crdt_laws.specs.Sets.{AreApart, beyond}
use Rattle.crdt_laws.proofs.Filters.{apart-filter}
use Rattle.crdt_laws.proofs.Members.{filter_inside, filter_passed}
use Rattle.replica_model.proofs.Counted.{distinct_seqs, in_map, range_has, seq_of}
use Rattle.forgetting_model.proofs.Counts.{of}

-- each has an id of its own, which the later clock covers and the earlier one does not
pub record AreBetween {Op : Type 0} (lo hi : Clock) (xs : List (Entry Op)) : Type 0 where
  pub apart : AreApart xs
  pub new : (e : Entry Op) → Contains xs e → covers lo (id_of e.stamp) ≡ false
  pub covered : (e : Entry Op) → Contains xs e → covers hi (id_of e.stamp) ≡ true

module _ {Op : Type 0} (lo hi : Clock) (below : IsAtMost lo hi) (xs : List (Entry Op)) (h : AreBetween lo hi xs) (j : ℕ) where
  abbrev own : List (Entry Op)
  own = filter (of j) xs

  own_member : (e : Entry Op) → Contains own e → e.stamp.member ≡ j
  own_member e c = eqb-true e.stamp.member j (filter_passed (of j) xs e c)

  abbrev room : List ℕ
  room = range_with_len (count lo j + 1) (count hi j - count lo j)

  seq_in_room : (e : Entry Op) → Contains own e → Contains room (seq_of e)
  seq_in_room e c =
      let inside = filter_inside (of j) xs e c in
      let same = own_member e c in
      let up : seq_of e ≤ count hi e.stamp.member = leb-true (seq_of e) (count hi e.stamp.member) (h.covered e inside) in
      let low : count lo e.stamp.member < seq_of e = elim (cases_lt (count lo e.stamp.member) (seq_of e)) [
        | inl l ↦ l
        | inr k ↦ absurd (both_ways (covers lo (id_of e.stamp)) (h.new e inside) (le-leb (seq_of e) (count lo e.stamp.member) k))
      ] in
      let at_lo : count lo e.stamp.member ≡ count lo j = ap (count lo) same in
      let at_hi : count hi e.stamp.member ≡ count hi j = ap (count hi) same in
      let b = below.each j in
      range_has (count lo j + 1) (count hi j - count lo j) (seq_of e) (omega (arith, low, at_lo)) (omega (arith, up, at_hi, b, low, at_lo))

  seqs_in_room : (q : ℕ) → is_member nat_eq (map seq_of own) q ≡ true → is_member nat_eq room q ≡ true
  seqs_in_room q t =
      let f = in_map seq_of own q ((is_member-Decides Decides-eqb (map seq_of own) q).0 t) in
      (is_member-Decides Decides-eqb room q).1 (subst (Contains room) f.2 (seq_in_room f.0 f.1))

  own_few : length (filter (of j) xs) + count lo j ≤ count hi j
  own_few =
      let few : length (map seq_of own) ≤ length room = length-le_from_is_member nat_eq_equiv (map seq_of own) room (distinct_seqs j own (apart-filter (of j) xs h.apart) own_member) seqs_in_room in
      let size = length-map own seq_of in
      let most = length-range_with_len (count lo j + 1) (count hi j - count lo j) in
      let b = below.each j in
      omega (arith, few, size, most, b)

-- what holds member by member holds of the sums

filter_none : {X : Type 0} (p : X → Bool) (xs : List X) → ((x : X) → Contains xs x → p x ≡ true → ⊥) → filter p xs ≡ []
filter_none p [] h = refl
filter_none {X} p (x ∷ xs) h =
    ap (λ (b : Bool). cond b (x ∷ filter p xs) (filter p xs)) (false_from_ne_true (p x) (h x (0, omega arith, refl))) ∙ filter_none p xs (λ y c. h y (suc c.0, (let l = c.1 in omega arith), c.2))

other_of : {Op : Type 0} (a i : ℕ) (xs : List (Entry Op)) → (i ≡ a → ⊥) → filter (of i) (filter (λ e. not (of a e)) xs) ≡ filter (of i) xs
other_of a i [] d = refl
other_of {Op} a i (x ∷ xs) d =
    let rest : filter (of i) (filter (λ (e : Entry Op). not (of a e)) xs) ≡ filter (of i) xs = other_of a i xs d in
    elim (cases_eq x.stamp.member a) [
      | inl q ↦
          (let here : of a x ≡ true = ap (λ (k : ℕ). eqb k a) q ∙ eq-eqb a a refl in
          let there : of i x ≡ false = ne_eqb x.stamp.member i (λ r. d (sym r ∙ q)) in
          ap (λ (b : Bool). filter (of i) (cond (not b) (x ∷ filter (λ (e : Entry Op). not (of a e)) xs) (filter (λ (e : Entry Op). not (of a e)) xs))) here
          ∙ rest ∙ sym (ap (λ (b : Bool). cond b (x ∷ filter (of i) xs) (filter (of i) xs)) there))
      | inr n ↦
          (let here : of a x ≡ false = ne_eqb x.stamp.member a n in
          ap (λ (b : Bool). filter (of i) (cond (not b) (x ∷ filter (λ (e : Entry Op). not (of a e)) xs) (filter (λ (e : Entry Op). not (of a e)) xs))) here
          ∙ ap (λ (l : List (Entry Op)). cond (of i x) (x ∷ l) l) rest)
    ]

-- los and his are entries of clocks, of the members from a on
sums_few : {Op : Type 0} (los his : List ℕ) (a : ℕ) (xs : List (Entry Op)) → length los ≡ length his → ((e : Entry Op) → Contains xs e → (a ≤ e.stamp.member) × (e.stamp.member < a + length his))
    → ((i : ℕ) → length (filter (of (a + i)) xs) + get_or los i 0 ≤ get_or his i 0) → length xs + sum los ≤ sum his
sums_few [] [] a [] same within each = omega arith
sums_few [] [] a (x ∷ xs) same within each = let w = within x (0, omega arith, refl) in absurd (omega (arith, w.0, w.1))
sums_few [] (v ∷ his) a xs same within each = absurd (omega (arith, same))
sums_few (u ∷ los) [] a xs same within each = absurd (omega (arith, same))
sums_few {Op} (u ∷ los) (v ∷ his) a xs same within each =
    let others = filter (λ (e : Entry Op). not (of a e)) xs in
    let first : length (filter (of a) xs) + u ≤ v = subst (λ (k : ℕ). length (filter (of k) xs) + u ≤ v) (let z : a + 0 ≡ a = omega arith in z) (each 0) in
    let split = length-filter_both (of a) (λ (e : Entry Op). not (of a e)) (λ e. refl) xs in
    let rest : length others + sum los ≤ sum his = sums_few los his (a + 1) others (omega (arith, same))
    (λ e c.
    let w = within e (filter_inside (λ (e : Entry Op). not (of a e)) xs e c) in
    let n : of a e ≡ false = not-true (of a e) (filter_passed (λ (e : Entry Op). not (of a e)) xs e c) in
    elim (cases_eq e.stamp.member a) [
      | inl q ↦ absurd (both_ways (of a e) n (ap (λ (k : ℕ). eqb k a) q ∙ eq-eqb a a refl))
      | inr d ↦ (omega (arith, w.0, d), omega (arith, w.1))
    ])
    (λ i.
    let here : a + suc i ≡ a + 1 + i = omega arith in
    subst (λ (l : List (Entry Op)). length l + get_or los i 0 ≤ get_or his i 0) (sym (other_of a (a + 1 + i) xs (λ q. absurd (omega (arith, q)))))
    (subst (λ (k : ℕ). length (filter (of k) xs) + get_or los i 0 ≤ get_or his i 0) here (each (suc i)))) in
    let low = sum_by-cons (λ (y : ℕ). y) u los in
    let high = sum_by-cons (λ (y : ℕ). y) v his in
    omega (arith, first, split, rest, low, high)

module _ {Op : Type 0} (lo hi : Clock) (wide : length lo.at ≡ length hi.at) (below : IsAtMost lo hi) (xs : List (Entry Op)) (h : AreBetween lo hi xs) where
  -- a member whose operations a clock covers has its entry there
  has_entry : (e : Entry Op) → Contains xs e → (0 ≤ e.stamp.member) × (e.stamp.member < 0 + length hi.at)
  has_entry e c = elim (cases_lt e.stamp.member (length hi.at)) [
    | inl l ↦ (omega arith, omega (arith, l))
    | inr past ↦
        (let none : count hi e.stamp.member ≡ 0 = get_or_past hi.at e.stamp.member 0 past in
        let up : seq_of e ≤ count hi e.stamp.member = leb-true (seq_of e) (count hi e.stamp.member) (h.covered e c) in
        absurd (both_ways (covers lo (id_of e.stamp)) (h.new e c) (le-leb (seq_of e) (count lo e.stamp.member) (omega (arith, none, up)))))
  ]

  pub between_few : length xs + sum lo.at ≤ sum hi.at
  between_few = sums_few lo.at hi.at 0 xs wide has_entry (λ i. subst (λ (k : ℕ). length (filter (of k) xs) + count lo i ≤ count hi i) (let z : i ≡ 0 + i = omega arith in z) (own_few lo hi below xs h i))

-- a list that is as long as it may be, and a clock between the two
module _ {Op : Type 0} (lo mid hi : Clock) (wide : length lo.at ≡ length mid.at) (wide' : length mid.at ≡ length hi.at) (first : IsAtMost lo mid) (second : IsAtMost mid hi) (xs : List (Entry Op)) (h : AreBetween lo hi xs) where
  abbrev in_mid : Entry Op → Bool
  in_mid e = covers mid (id_of e.stamp)

  lower : AreBetween lo mid (filter in_mid xs)
  lower = record {
    apart = apart-filter in_mid xs h.apart;
    new = λ e c. h.new e (filter_inside in_mid xs e c);
    covered = λ e c. filter_passed in_mid xs e c;
  }

  upper : AreBetween mid hi (beyond mid xs)
  upper = record {
    apart = apart-filter (λ e. not (in_mid e)) xs h.apart;
    new = λ e c. not-true (in_mid e) (filter_passed (λ e. not (in_mid e)) xs e c);
    covered = λ e c. h.covered e (filter_inside (λ e. not (in_mid e)) xs e c);
  }

  pub beyond_counts : length xs + sum lo.at ≡ sum hi.at → length (beyond mid xs) + sum mid.at ≡ sum hi.at
  beyond_counts all =
      let split = length-filter_both in_mid (λ e. not (in_mid e)) (λ e. refl) xs in
      let a = between_few lo mid wide first (filter in_mid xs) lower in
      let b = between_few mid hi wide' second (beyond mid xs) upper in
      omega (arith, all, split, a, b)
