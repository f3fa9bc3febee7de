-- An observed tower is lawful where the tower is lawful and plain.
use Rattle.std.specs.Prelude.{◌≡◌, ℕ, ◌⊎◌, IsTrue}
use Rattle.std.proofs.Common.{true, false, List, [], ◌++◌, Contains, not, inl, inr, refl, ap, ap₂, sym, ◌∙◌, subst, arith, take, drop}
use Rattle.std.specs.List.{All, AllByRecursion, filter}
use Rattle.std.proofs.lemmas.List.{take-append-drop}
use Rattle.std.proofs.lemmas.List.Elements.{All-drop, All-from_recursion, filter-append, recursion_from_All}
use Rattle.vector_clock.specs.declared.clock.Clock.{Clock}
use Rattle.vector_clock.specs.declared.clock.Id.{Id}
use Rattle.vector_clock.specs.declared.stamp.Stamp.{Stamp}
use Rattle.vector_clock.specs.Clock.{IsAtMost, covers}
use Rattle.vector_clock.specs.Stamp.{IsAfter, IsKnownTo, are_concurrent, id_of, is_before, same_id}
use Rattle.vector_clock.proofs.Causal.{covers_past}
use Rattle.vector_clock.proofs.Bounds.{at_most_refl, at_most_trans}
use Rattle.vector_clock.proofs.Keys.{concurrent_other, concurrent_sym, covered_known, covers_more, ids_other}
use Rattle.crdt_laws.specs.declared.small.Entry.{Entry}
use Rattle.crdt_laws.specs.Entry.{entry}
use Rattle.crdt_laws.specs.Present.{document_from}
use Rattle.crdt_laws.specs.Sets.{AreIssued, place, is_beyond}
use Rattle.crdt_laws.specs.Tower.{Meaning, IsLawful, IsIssued, IsWithin, Lacks, Agrees, MaySwap}
use Rattle.crdt_laws.proofs.Filters.{all-place, all_pass, apart-filter, rising-filter}
use Rattle.crdt_laws.proofs.Members.{at_member, each}
use Rattle.crdt_laws.proofs.Place.{place_swap, rising-place}
use Rattle.weave_core.proofs.Placed.{all_drop, all_take, apart-drop, filter_none, filter_swap, rising-drop}
use Rattle.weave_core.proofs.Runs
use Rattle.weave_core.proofs.Split.{AreBefore, document_from-append}
use Rattle.reset_products.specs.declared.observed.ObservedOp.{ObservedOp}
use Rattle.reset_products.specs.declared.observed.ObservedOp.TheVariants.{Do, Reset}
use Rattle.reset_products.specs.Cut.{clean_cut}
use Rattle.reset_products.specs.CutLaws.{AreWithin, IsClean, cut_clean, cut_none, left-place, left_twice, settled-place, settled_twice}
use Rattle.reset_products.specs.Observed.{IsGoodLog, IsGoodLogAt, IsLoggedAs, Logged, folded, observed_apply, observed_meaning, observed_settle, observed_valid, observed_well_formed, value_of}
use Rattle.vector_clock.proofs.Ordered.{all-filter, all_weaker, apart-place, filter-place_in}

-- the stamps of a log

each_logged : {O : Type 0} (log : List (Entry O)) → AllByRecursion (λ e. IsLoggedAs log e.stamp) log
each_logged {O} log = all_weaker (Contains log) (λ e. IsLoggedAs log e.stamp) (λ e c. record { logged = e; in_log = c; stamp = refl }) log (each log)

of_logged : {O : Type 0} (P : Stamp → Type 0) (log : List (Entry O)) → AllByRecursion (λ e. P e.stamp) log → (p : Stamp) → IsLoggedAs log p → P p
of_logged {O} P log h p i = subst P i.stamp (at_member (λ (e : Entry O). P e.stamp) log i.logged h i.in_log)

-- a log and a reset

beyond_true : {O : Type 0} (k : Clock) (e : Entry O) → covers k (id_of e.stamp) ≡ false → is_beyond k e ≡ true
beyond_true k e h = ap not h

beyond_false : {O : Type 0} (k : Clock) (e : Entry O) → covers k (id_of e.stamp) ≡ true → is_beyond k e ≡ false
beyond_false k e h = ap not h

beyond_not : {O : Type 0} (k : Clock) (e : Entry O) → is_beyond k e ≡ true → covers k (id_of e.stamp) ≡ false
beyond_not k e h = grind arith

-- what is concurrent to a reset is beyond what the reset knew
concurrent_beyond : {O : Type 0} (p q : Stamp) (x : O) → are_concurrent p q ≡ true → is_beyond q.clock (entry p x) ≡ true
concurrent_beyond p q x c = beyond_true q.clock (entry p x) (covered_known q.clock p q (at_most_refl q.clock) c)

logged_with : {S O : Type 0} (b c : S) (l n : List (Entry O)) → b ≡ c → l ≡ n → (let a : Logged S O = record { base = b; log = l } in let d : Logged S O = record { base = c; log = n } in a ≡ d)
logged_with b c l n e f = ap₂ (λ (x : _) (y : List (Entry _)). record { base = x; log = y }) e f

-- what a reset takes out, behind a prefix that it knew
reset_behind : {O : Type 0} (k : Clock) (p : Stamp) (c : ℕ) (log : List (Entry O)) → IsAtMost k p.clock → AllByRecursion (λ e. covers k (id_of e.stamp) ≡ true) (take c log)
    → filter (is_beyond p.clock) log ≡ filter (is_beyond p.clock) (drop c log)
reset_behind {O} k p c log m h =
    let gone : filter (is_beyond p.clock) (take c log) ≡ [] =
    filter_none (is_beyond p.clock) (take c log)
    (all_weaker (λ (e : Entry O). covers k (id_of e.stamp) ≡ true) (λ e. is_beyond p.clock e ≡ false) (λ e g. beyond_false p.clock e (covers_past k p.clock e.stamp m g)) (take c log) h) in
    ap (filter (is_beyond p.clock)) (sym (take-append-drop c log))
    ∙ filter-append (is_beyond p.clock) (take c log) (drop c log)
    ∙ ap (λ l. l ++ filter (is_beyond p.clock) (drop c log)) gone

-- what a reset leaves is not covered by what it knew of
left_uncovered : {O : Type 0} (k : Clock) (p : Stamp) (log : List (Entry O)) → IsAtMost k p.clock → AllByRecursion (λ e. covers k (id_of e.stamp) ≡ false) (filter (is_beyond p.clock) log)
left_uncovered {O} k p log m =
    all_weaker (λ (e : Entry O). is_beyond p.clock e ≡ true) (λ e. covers k (id_of e.stamp) ≡ false) (λ e h. covers_more k p.clock e.stamp m (beyond_not p.clock e h))
    (filter (is_beyond p.clock) log) (all_pass (is_beyond p.clock) log)

clean_covered : {O : Type 0} (k : Clock) (xs ys : List (Entry O)) → IsClean k xs ys → AllByRecursion (λ e. covers k (id_of e.stamp) ≡ true) xs
clean_covered {O} k xs ys h = all_weaker (λ (x : Entry O). (covers k (id_of x.stamp) ≡ true) × AllByRecursion (λ (y : Entry O). is_before x.stamp y.stamp ≡ true) ys) (λ x. covers k (id_of x.stamp) ≡ true) (λ x e. e.0) xs h

clean_before : {O : Type 0} (k : Clock) (xs ys : List (Entry O)) → IsClean k xs ys → AreBefore xs ys
clean_before {O} k xs ys h = all_weaker (λ (x : Entry O). (covers k (id_of x.stamp) ≡ true) × AllByRecursion (λ (y : Entry O). is_before x.stamp y.stamp ≡ true) ys) (λ x. AllByRecursion (λ (y : Entry O). is_before x.stamp y.stamp ≡ true) ys) (λ x e. e.1) xs h

before_first : {O : Type 0} (n : ℕ) (xs ys : List (Entry O)) → AreBefore xs ys → AreBefore xs (take n ys)
before_first {O} n xs ys h = all_weaker (λ (x : Entry O). AllByRecursion (λ (y : Entry O). is_before x.stamp y.stamp ≡ true) ys) (λ x. AllByRecursion (λ (y : Entry O). is_before x.stamp y.stamp ≡ true) (take n ys)) (λ x e. all_take (λ (y : Entry O). is_before x.stamp y.stamp ≡ true) n ys e) xs h

module _ {S O : Type 0} (m : Meaning S O) where
  -- what is said of the stamps that a state holds is said of those of its log
  log_within : (s : Logged S O) (k : Clock) → Agrees (observed_meaning m) s k → AreWithin k s.log
  log_within s k h = all_weaker (λ (e : Entry O). IsLoggedAs s.log e.stamp) (λ e. covers k (id_of e.stamp) ≡ true → IsAtMost e.stamp.clock k) (λ e i c. h.each e.stamp i c) s.log (each_logged s.log)

  log_apart : (s : Logged S O) (p : Stamp) → Lacks (observed_meaning m) s (id_of p) → AllByRecursion (λ e. same_id p e.stamp ≡ false) s.log
  log_apart s p h = all_weaker (λ (e : Entry O). IsLoggedAs s.log e.stamp) (λ e. same_id p e.stamp ≡ false) (λ e i. ids_other p e.stamp (λ q. h.none e.stamp i q)) s.log (each_logged s.log)

  do_issued : (n : ℕ) (p : Stamp) (x : O) → IsIssued (observed_meaning m) n p (Do x) → IsIssued m n p x
  do_issued n p x h = record { stamp = h.stamp; valid = h.valid }

  -- the value does not change with settling
  pub value-settle : (s : Logged S O) (k : Clock) → value_of m (observed_settle m s k) ≡ value_of m s
  value-settle s k =
      let c = clean_cut s.log k in
      sym (document_from-append m s.base (take c s.log) (drop c s.log) (clean_before k (take c s.log) (drop c s.log) (cut_clean s.log k)))
      ∙ ap (document_from m s.base) (take-append-drop c s.log)

  commute : (n : ℕ) (s : Logged S O) (p q : Stamp) (x y : ObservedOp O) → MaySwap (observed_meaning m) n s p q
      → observed_apply m (observed_apply m s p x) q y ≡ observed_apply m (observed_apply m s q y) p x
  commute n s p q (Do x) (Do y) w =
      ap (λ l. record { base = s.base; log = l }) (sym (place_swap (entry p x) (entry q y) (concurrent_other p q w.concurrent) s.log))
  commute n s p q (Do x) Reset w =
      ap (λ l. record { base = m.init; log = l }) (filter-place_in (λ (e : Entry O). e.stamp) (is_beyond q.clock) (entry p x) (concurrent_beyond p q x w.concurrent) s.log w.good.rising)
  commute n s p q Reset (Do y) w =
      ap (λ l. record { base = m.init; log = l }) (sym (filter-place_in (λ (e : Entry O). e.stamp) (is_beyond p.clock) (entry q y) (concurrent_beyond q p y (concurrent_sym p q w.concurrent)) s.log w.good.rising))
  commute n s p q Reset Reset w =
      ap (λ l. record { base = m.init; log = l }) (filter_swap (is_beyond q.clock) (is_beyond p.clock) s.log)

  settle-apply : (n : ℕ) (s : Logged S O) (k : Clock) (p : Stamp) (x : ObservedOp O) → Agrees (observed_meaning m) s k → IsAfter k p
      → observed_settle m (observed_apply m s p x) k ≡ observed_apply m (observed_settle m s k) p x
  settle-apply n s k p (Do x) agree after =
      let w = log_within s k agree in
      logged_with _ _ _ _ (ap (document_from m s.base) (settled-place k (entry p x) after s.log w)) (left-place k (entry p x) after s.log w)
  settle-apply n s k p Reset agree after =
      let l = filter (is_beyond p.clock) s.log in
      let c = clean_cut s.log k in
      ap (folded m (record { base = m.init; log = l })) (cut_none k l (left_uncovered k p s.log after.knows))
      ∙ ap (λ z. record { base = m.init; log = z }) (reset_behind k p c s.log after.knows (clean_covered k (take c s.log) (drop c s.log) (cut_clean s.log k)))

  settle-settle : (s : Logged S O) (k l : Clock) → IsAtMost k l → observed_settle m (observed_settle m s k) l ≡ observed_settle m s l
  settle-settle s k l later =
      let c = clean_cut s.log k in
      let xs = take c s.log in
      let ys = drop c s.log in
      let zs = take (clean_cut ys l) ys in
      logged_with _ _ _ _
      (sym (document_from-append m s.base xs zs (before_first (clean_cut ys l) xs ys (clean_before k xs ys (cut_clean s.log k))))
      ∙ ap (document_from m s.base) (sym (settled_twice k l s.log later)))
      (sym (left_twice k l s.log later))

  holds-apply : (s : Logged S O) (p : Stamp) (x : ObservedOp O) (q : Stamp) → IsLoggedAs (observed_apply m s p x).log q → (q ≡ p) ⊎ IsLoggedAs s.log q
  holds-apply s p (Do x) q h =
      let P : Stamp → Type 0 = λ r. (r ≡ p) ⊎ IsLoggedAs s.log r in
      of_logged P (place (entry p x) s.log)
      (all-place (λ (e : Entry O). P e.stamp) (entry p x) (inl refl) s.log (all_weaker (λ (e : Entry O). IsLoggedAs s.log e.stamp) (λ e. P e.stamp) (λ e i. inr i) s.log (each_logged s.log))) q h
  holds-apply s p Reset q h =
      inr (of_logged (IsLoggedAs s.log) (filter (is_beyond p.clock) s.log) (all-filter (λ (e : Entry O). IsLoggedAs s.log e.stamp) (is_beyond p.clock) s.log (each_logged s.log)) q h)

  holds-settle : (s : Logged S O) (k : Clock) (q : Stamp) → IsLoggedAs (observed_settle m s k).log q → IsLoggedAs s.log q
  holds-settle s k q h =
      let c = clean_cut s.log k in
      of_logged (IsLoggedAs s.log) (drop c s.log) (all_drop (λ (e : Entry O). IsLoggedAs s.log e.stamp) c s.log (each_logged s.log)) q h

  holds-init : (p : Stamp) → IsLoggedAs {Op = O} [] p → ⊥
  holds-init p h = of_logged (λ _. ⊥) [] tt p h

-- a property of each operation, for the contracts and for proofs

filtered : {O : Type 0} (P : Entry O → Type 0) (k : Clock) (l : List (Entry O)) → All P l → All P (filter (is_beyond k) l)
filtered P k l h = All-from_recursion P (filter (is_beyond k) l) (all-filter P (is_beyond k) l (recursion_from_All P l h))

placed : {O : Type 0} (P : Entry O → Type 0) (x : Entry O) (l : List (Entry O)) → P x → All P l → All P (place x l)
placed P x l p h = All-from_recursion P (place x l) (all-place P x p l (recursion_from_All P l h))

first_ones : {O : Type 0} (P : Entry O → Type 0) (n : ℕ) (l : List (Entry O)) → All P l → AllByRecursion P (take n l)
first_ones P n l h = all_take P n l (recursion_from_All P l h)

module _ {S O : Type 0} (m : Meaning S O) (law : IsLawful m) (plain : IsTrue m.plain) where
  -- a state of the plain tower holds nothing
  nothing_held : (s : S) (i : Id) → Lacks m s i
  nothing_held s i = record { none = λ p h _. law.plain_holds s p plain h }

  valid_within : (p : Stamp) (x : ObservedOp O) → observed_valid m p x → IsWithin p
  valid_within p (Do x) h = law.valid_within p x h
  valid_within p Reset h = h

  valid_well_formed : (p : Stamp) (x : ObservedOp O) → observed_valid m p x → observed_well_formed m x
  valid_well_formed p (Do x) h = law.valid_well_formed p x h
  valid_well_formed p Reset h = tt

  document_good : (n : ℕ) (s : S) (xs : List (Entry O)) → m.good n s → AllByRecursion (λ e. IsIssued m n e.stamp e.op) xs → m.good n (document_from m s xs)
  document_good n s xs g v =
      Runs.document_keeps m n law (m.good n) (λ _. Unit {0}) (λ t p x h i _. law.good-apply n t p x h i (nothing_held t (id_of p)))
      s xs v (all_weaker (λ (e : Entry O). IsIssued m n e.stamp e.op) (λ _. Unit {0}) (λ _ _. tt) xs v) g

  -- the value of a good state is good
  pub value_good : (n : ℕ) (s : Logged S O) → IsGoodLog m n s → m.good n (value_of m s)
  value_good n s h = document_good n s.base s.log h.base (recursion_from_All (λ (e : Entry O). IsIssued m n e.stamp e.op) s.log h.issued)

  good-apply : (n : ℕ) (s : Logged S O) (p : Stamp) (x : ObservedOp O) → IsGoodLog m n s → IsIssued (observed_meaning m) n p x → Lacks (observed_meaning m) s (id_of p)
      → IsGoodLog m n (observed_apply m s p x)
  good-apply n s p (Do x) h v fresh =
      let d = log_apart m s p fresh in
      record {
        base = h.base;
        issued = placed (λ (e : Entry O). IsIssued m n e.stamp e.op) (entry p x) s.log (do_issued m n p x v) h.issued;
        rising = rising-place (entry p x) s.log d h.rising;
        apart = apart-place (λ (e : Entry O). e.stamp) (entry p x) s.log d h.apart;
      }
  good-apply n s p Reset h v fresh = record {
    base = law.good-init n;
    issued = filtered (λ (e : Entry O). IsIssued m n e.stamp e.op) p.clock s.log h.issued;
    rising = rising-filter (is_beyond p.clock) s.log h.rising;
    apart = apart-filter (is_beyond p.clock) s.log h.apart;
  }

  good-settle : (n : ℕ) (s : Logged S O) (k : Clock) → IsGoodLog m n s → IsGoodLog m n (observed_settle m s k)
  good-settle n s k h =
      let c = clean_cut s.log k in
      let I : Entry O → Type 0 = λ e. IsIssued m n e.stamp e.op in
      record {
        base = document_good n s.base (take c s.log) h.base (first_ones I c s.log h.issued);
        issued = All-drop I c s.log h.issued;
        rising = rising-drop c s.log h.rising;
        apart = apart-drop c s.log h.apart;
      }

  good_at_good : (d : Clock) (s : Logged S O) → IsGoodLogAt m d s → IsGoodLog m d.n s
  good_at_good d s h = record { base = law.good_at_good d s.base h.base; issued = h.issued; rising = h.rising; apart = h.apart }

  abbrev Known : Clock → Entry O → Type 0
  Known d e = IsKnownTo d e.stamp

  good_at_later : (d e : Clock) (s : Logged S O) → d.n ≡ e.n → IsAtMost d e → IsGoodLogAt m d s → IsGoodLogAt m e s
  good_at_later d e s n later h = record {
    base = law.good_at_later d e s.base n later h.base;
    issued = subst (λ i. AreIssued m i s.log) n h.issued;
    rising = h.rising;
    apart = h.apart;
    known = All-from_recursion (Known e) s.log (all_weaker (Known d) (Known e) (λ x k. record { covered = covers_past d e x.stamp later k.covered; known = at_most_trans x.stamp.clock d e k.known later }) s.log (recursion_from_All (Known d) s.log h.known));
  }

  good_at-apply : (d : Clock) (s : Logged S O) (p : Stamp) (x : ObservedOp O) → IsGoodLogAt m d s → IsIssued (observed_meaning m) d.n p x → Lacks (observed_meaning m) s (id_of p)
      → IsAtMost p.clock d → IsTrue (covers d (id_of p)) → IsGoodLogAt m d (observed_apply m s p x)
  good_at-apply d s p (Do x) h v fresh below covered =
      let a = log_apart m s p fresh in
      record {
        base = h.base;
        issued = placed (λ (e : Entry O). IsIssued m d.n e.stamp e.op) (entry p x) s.log (do_issued m d.n p x v) h.issued;
        rising = rising-place (entry p x) s.log a h.rising;
        apart = apart-place (λ (e : Entry O). e.stamp) (entry p x) s.log a h.apart;
        known = placed (Known d) (entry p x) s.log (record { covered = covered; known = below }) h.known;
      }
  good_at-apply d s p Reset h v fresh below covered = record {
    base = law.good_at-init d;
    issued = filtered (λ (e : Entry O). IsIssued m d.n e.stamp e.op) p.clock s.log h.issued;
    rising = rising-filter (is_beyond p.clock) s.log h.rising;
    apart = apart-filter (is_beyond p.clock) s.log h.apart;
    known = filtered (Known d) p.clock s.log h.known;
  }

  document_good_at : (d : Clock) (s : S) (xs : List (Entry O)) → m.good_at d s → AllByRecursion (λ e. IsIssued m d.n e.stamp e.op) xs → AllByRecursion (Known d) xs → m.good_at d (document_from m s xs)
  document_good_at d s xs g v k =
      Runs.document_keeps m d.n law (m.good_at d) (IsKnownTo d) (λ t p x h i q. law.good_at-apply d t p x h i (nothing_held t (id_of p)) q.known q.covered) s xs v k g

  good_at-settle : (d : Clock) (s : Logged S O) (k : Clock) → IsGoodLogAt m d s → IsGoodLogAt m d (observed_settle m s k)
  good_at-settle d s k h =
      let c = clean_cut s.log k in
      let I : Entry O → Type 0 = λ e. IsIssued m d.n e.stamp e.op in
      record {
        base = document_good_at d s.base (take c s.log) h.base (first_ones I c s.log h.issued) (first_ones (Known d) c s.log h.known);
        issued = All-drop I c s.log h.issued;
        rising = rising-drop c s.log h.rising;
        apart = apart-drop c s.log h.apart;
        known = All-drop (Known d) c s.log h.known;
      }

  -- the clock knows each operation of the log, and the base holds no stamp
  good_at-holds : (d : Clock) (s : Logged S O) (p : Stamp) → IsGoodLogAt m d s → IsLoggedAs s.log p → IsKnownTo d p
  good_at-holds d s p h i = of_logged (IsKnownTo d) s.log (recursion_from_All (Known d) s.log h.known) p i

  none_yet : (P : Entry O → Type 0) → All P []
  none_yet P = All-from_recursion P [] tt

  pub observed_lawful : IsLawful (observed_meaning m)
  observed_lawful = record {
    valid_within = valid_within;
    valid_well_formed = valid_well_formed;
    level_low = λ x _. omega arith;
    level_top = λ x _. omega arith;
    level-act = λ y x _ _. refl;
    act_below = λ y x _ _ _. refl;
    well_formed-act = λ y x _ h. h;
    valid-act = λ p y x _ _ h. h;
    commute = λ n s p q x y w _ _ _. commute m n s p q x y w;
    exchange = λ n s p q x y _ _ _ h. absurd (omega (arith, h));
    act-act = λ y v x _ _ _ _. refl;
    distribute = λ z y x _ _ _ h _. absurd (omega (arith, h));
    settle-apply = λ n s k p x _ agree _ _ after. settle-apply m n s k p x agree after;
    settle-settle = λ n s k l _ _ _ later. settle-settle m s k l later;
    settle-init = λ k. ap (folded m (record { base = m.init; log = [] })) (cut_none k [] tt);
    show-settle = λ n s k _. ap m.show (value-settle m s k);
    good-init = λ n. record { base = law.good-init n; issued = none_yet (λ (e : Entry O). IsIssued m n e.stamp e.op); rising = tt; apart = tt };
    good-apply = good-apply;
    good-settle = good-settle;
    good_at_good = good_at_good;
    good_at-init = λ d. record {
      base = law.good_at-init d;
      issued = none_yet (λ (e : Entry O). IsIssued m d.n e.stamp e.op);
      rising = tt;
      apart = tt;
      known = none_yet (Known d);
    };
    good_at_later = good_at_later;
    good_at-apply = good_at-apply;
    good_at-settle = good_at-settle;
    good_at-holds = good_at-holds;
    holds-init = holds-init m;
    holds-apply = holds-apply m;
    holds-settle = holds-settle m;
    plain_settle = λ s k h. absurd cc;
    plain_holds = λ s p h _. absurd cc;
  }
