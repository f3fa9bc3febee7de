-- The version of a causally closed set counts the operations of each member.
use Rattle.std.proofs.Common.{◌≡◌, ℕ, zero, suc, ◌+◌, ◌<◌, ◌≤◌, Bool, false, List, [], ◌∷◌, eqb, map, ap, ap₂, sym, ◌∙◌, subst, arith, Contains, inl, inr}
use Rattle.std.specs.Prelude.{nat_eq, filter, count_by}
use Rattle.std.specs.List.{IsDistinct, range_with_len}
use Rattle.std.specs.Set.{is_member}
use Rattle.std.proofs.lemmas.Bool.{both_ways, cases_eq, eqb-true, eq-eqb, le-leb, ne_eqb}
use Rattle.std.proofs.lemmas.Bool.Decides.{Decides-eqb, Decides-like, same_from_decides}
use Rattle.std.proofs.lemmas.Cmp.{nat_eq_equiv}
use Rattle.std.proofs.lemmas.List.FromFn.{length-range_with_len}
use Rattle.std.proofs.lemmas.List.Sums.{length-filter}
use Rattle.std.proofs.lemmas.Map.Keys.{IsDistinct-cons}
use Rattle.std.proofs.lemmas.Map.Made.{is_member-Decides, length-from_same_keys}
use Rattle.std.proofs.Math.ListN.{length-map}
use Rattle.vector_clock.specs.declared.clock.Id.{Id}
use Rattle.vector_clock.specs.Clock.{count}
use Rattle.vector_clock.specs.Stamp.{id_of, same_id}
use Rattle.crdt_laws.specs.declared.small.Entry.{Entry}
use Rattle.crdt_laws.specs.Sets.{AreApart, IsClosed}
use Rattle.crdt_laws.specs.Tower.{IsStampOf}
use Rattle.crdt_laws.proofs.Filters.{apart-filter}
use Rattle.crdt_laws.proofs.Members.{Contains-cases, Contains-front, Contains-more, at_member, filter_has, filter_inside, filter_passed}
use Rattle.replica_model.specs.Replica.{version}
use Rattle.replica_model.proofs.Names.{same_id_from_ids}
use Rattle.replica_model.proofs.Pools.{each_from}
use Rattle.replica_model.proofs.Things.{Contains-map, none_distinct}
use Rattle.replica_model.proofs.Versions.{version_has, version_knows}

-- numbers in a row

pub in_range : (a n q : ℕ) → Contains (range_with_len a n) q → (a ≤ q) × (q < a + n)
in_range a zero q c = let l : c.0 < 0 = c.1 in absurd (omega arith)
in_range a (suc n) q c =
    elim (Contains-cases a (range_with_len (a + 1) n) q c) [
      | inl e ↦ (omega arith, omega arith)
      | inr j ↦ (let f = in_range (a + 1) n q j in (omega (arith, f.0), omega (arith, f.1)))
    ]

pub range_has : (a n q : ℕ) → a ≤ q → q < a + n → Contains (range_with_len a n) q
range_has a zero q h k = absurd (omega arith)
range_has a (suc n) q h k =
    elim (cases_eq a q) [
      | inl e ↦ subst (λ (z : ℕ). Contains (a ∷ range_with_len (a + 1) n) z) e (Contains-front a (range_with_len (a + 1) n))
      | inr d ↦ Contains-more a (range_with_len (a + 1) n) q (range_has (a + 1) n q (omega arith) (omega arith))
    ]

pub range_distinct : (a n : ℕ) → IsDistinct nat_eq (range_with_len a n)
range_distinct a zero = none_distinct
range_distinct a (suc n) =
    IsDistinct-cons nat_eq a (range_with_len (a + 1) n)
    (each_from (λ (y : ℕ). nat_eq a y ≡ false) (range_with_len (a + 1) n) (λ y c. ne_eqb a y (λ q. let f = in_range (a + 1) n y c in omega (arith, f.0))))
    (range_distinct (a + 1) n)

-- what a map gives

pub in_map : {X : Type 0} (f : X → ℕ) (xs : List X) (y : ℕ) → Contains (map f xs) y → (x : X) × Contains xs x × (f x ≡ y)
in_map f [] y c = let l : c.0 < 0 = c.1 in absurd (omega arith)
in_map f (a ∷ xs) y c =
    elim (Contains-cases (f a) (map f xs) y c) [
      | inl q ↦ (a, Contains-front a xs, q)
      | inr j ↦ (let r = in_map f xs y j in (r.0, Contains-more a xs r.0 r.1, r.2))
    ]

-- the sequence number of an operation
abbrev pub seq_of : {Op : Type 0} → Entry Op → ℕ
seq_of e = count e.stamp.clock e.stamp.member

pub distinct_seqs : {Op : Type 0} (m : ℕ) (ys : List (Entry Op)) → AreApart ys → ((e : Entry Op) → Contains ys e → e.stamp.member ≡ m) → IsDistinct nat_eq (map seq_of ys)
distinct_seqs m [] apart h = none_distinct
distinct_seqs {Op} m (a ∷ ys) apart h =
    IsDistinct-cons nat_eq (seq_of a) (map seq_of ys)
    (each_from (λ (y : ℕ). nat_eq (seq_of a) y ≡ false) (map seq_of ys) (λ y c.
    let f = in_map seq_of ys y c in
    let e = f.0 in
    ne_eqb (seq_of a) y (λ q.
    let member : a.stamp.member ≡ e.stamp.member = h a (Contains-front a ys) ∙ sym (h e (Contains-more a ys e f.1)) in
    let ids : id_of a.stamp ≡ id_of e.stamp = ap₂ (λ (j k : ℕ). record { member = j; seq = k }) member (q ∙ sym f.2) in
    both_ways (same_id a.stamp e.stamp) (at_member (λ (z : Entry Op). same_id a.stamp z.stamp ≡ false) ys e apart.0 f.1) (same_id_from_ids a.stamp e.stamp ids))))
    (distinct_seqs m ys apart.1 (λ e c. h e (Contains-more a ys e c)))

module _ {Op : Type 0} (n : ℕ) (xs : List (Entry Op)) (stamped : (e : Entry Op) → Contains xs e → IsStampOf n e.stamp) (closed : IsClosed xs) (apart : AreApart xs) (m : ℕ) where
  abbrev of_member : Entry Op → Bool
  of_member e = eqb e.stamp.member m

  abbrev own : List (Entry Op)
  own = filter of_member xs

  abbrev total : ℕ
  total = count (version n xs) m

  own_member : (e : Entry Op) → Contains own e → e.stamp.member ≡ m
  own_member e c = eqb-true e.stamp.member m (filter_passed of_member xs e c)

  seqs_in_row : (q : ℕ) → Contains (map seq_of own) q → Contains (range_with_len 1 total) q
  seqs_in_row q c =
      let f = in_map seq_of own q c in
      let e = f.0 in
      let inside = filter_inside of_member xs e f.1 in
      let counted = (stamped e inside).stamp.counted in
      let known = (version_knows n xs stamped e inside).each e.stamp.member in
      let at : count (version n xs) e.stamp.member ≡ total = ap (λ (j : ℕ). count (version n xs) j) (own_member e f.1) in
      range_has 1 total q (omega (arith, f.2)) (omega (arith, f.2))

  row_in_seqs : (q : ℕ) → Contains (range_with_len 1 total) q → Contains (map seq_of own) q
  row_in_seqs q c =
      let b = in_range 1 total q c in
      let f = version_has n xs stamped closed (record { member = m; seq = q }) b.0 (le-leb q total (omega (arith, b.1))) in
      let e = f.1 in
      let mine = filter_has of_member xs e (f.0, f.2, f.3) (eq-eqb e.stamp.member m (ap (λ (i : Id). i.member) f.4)) in
      subst (λ (z : ℕ). Contains (map seq_of own) z) (ap (λ (i : Id). i.seq) f.4) (Contains-map seq_of own e mine)

  pub version_counts : count (version n xs) m ≡ count_by (λ e. eqb e.stamp.member m) xs
  version_counts =
      sym (length-range_with_len 1 total)
      ∙ length-from_same_keys nat_eq_equiv (range_with_len 1 total) (map seq_of own) (range_distinct 1 total)
      (distinct_seqs m own (apart-filter of_member xs apart) own_member)
      (λ q. same_from_decides (is_member nat_eq (range_with_len 1 total) q) (is_member nat_eq (map seq_of own) q)
      (is_member-Decides Decides-eqb (range_with_len 1 total) q)
      (Decides-like (is_member nat_eq (map seq_of own) q) (seqs_in_row q) (row_in_seqs q) (is_member-Decides Decides-eqb (map seq_of own) q)))
      ∙ length-map own seq_of
      ∙ length-filter of_member xs
