-- What holds where the program settles a state, and shows one.
use Rattle.std.proofs.Common.{◌≡◌, ℕ, ◌≤◌, true, false, List, [], ◌∷◌, IsTrue, sym, ap, subst, ◌∙◌, length, take, drop}
use Rattle.std.specs.List.{All, AllByRecursion}
use Rattle.vector_clock.specs.Clock.{covers}
use Rattle.vector_clock.specs.Stamp.{are_concurrent, id_of, is_before}
use Rattle.weave_core.proofs.Split.{before_not_concurrent}
use Rattle.std.proofs.lemmas.List.Elements.{All-from_recursion, recursion_from_All}
use Rattle.vector_clock.specs.declared.clock.Clock.{Clock}
use Rattle.crdt_laws.specs.declared.small.Entry.{Entry}
use Rattle.crdt_laws.specs.Tower.{Meaning, IsIssued, IsLawful, IsState}
use Rattle.weave_core.specs.Deliver.{IsRun}
use Rattle.weave_core.proofs.Placed.{all_take, apart-take, rising-take}
use Rattle.reset_products.specs.Cut.{IsCleanPrefix, clean_cut, is_clean_prefix}
use Rattle.reset_products.specs.CutLaws.{IsClean, clean_from, clean_to, cut_clean, cut_within}
use Rattle.reset_products.specs.Observed.{IsGoodLog, Logged, value_of}
use Rattle.reset_products.specs.ObservedLaws.{value_good}
use Rattle.vector_clock.proofs.Ordered.{all_weaker}

-- a clean prefix as a fact

fact_of : {Op : Type 0} (k : Clock) (log : List (Entry Op)) (n : ℕ) → IsClean k (take n log) (drop n log) → IsCleanPrefix k log n
fact_of {Op} k log n h =
    let C : Entry Op → Type 0 = λ x. covers k (id_of x.stamp) ≡ true in
    let B : Entry Op → Type 0 = λ x. AllByRecursion (λ (y : Entry Op). is_before x.stamp y.stamp ≡ true) (drop n log) in
    let A : Entry Op → Type 0 = λ x. All (λ (y : Entry Op). is_before x.stamp y.stamp ≡ true) (drop n log) in
    record {
      covered = All-from_recursion C (take n log) (all_weaker (λ x. C x × B x) C (λ x e. e.0) (take n log) h);
      before = All-from_recursion A (take n log) (all_weaker (λ x. C x × B x) A (λ x e. All-from_recursion (λ (y : Entry Op). is_before x.stamp y.stamp ≡ true) (drop n log) e.1) (take n log) h);
    }

pub prefix_from : {Op : Type 0} (k : Clock) (log : List (Entry Op)) (n : ℕ) → is_clean_prefix k log n ≡ true → IsCleanPrefix k log n
prefix_from k log n h = fact_of k log n (clean_from k (take n log) (drop n log) h)

-- nothing in the prefix is concurrent to what comes after it
pub clean_not_concurrent : {Op : Type 0} (k : Clock) (log : List (Entry Op)) (n : ℕ) → IsCleanPrefix k log n → All (λ x. All (λ y. are_concurrent x.stamp y.stamp ≡ false) (drop n log)) (take n log)
clean_not_concurrent k log n h = λ i d m j e l. before_not_concurrent _ _ (h.before i d m j e l)

pub cut_is_clean : {Op : Type 0} (k : Clock) (log : List (Entry Op)) → IsCleanPrefix k log (clean_cut log k)
cut_is_clean k log = fact_of k log (clean_cut log k) (cut_clean log k)

pub prefix_to : {Op : Type 0} (k : Clock) (log : List (Entry Op)) (n : ℕ) → IsCleanPrefix k log n → is_clean_prefix k log n ≡ true
prefix_to {Op} k log n h =
    let C : Entry Op → Type 0 = λ x. covers k (id_of x.stamp) ≡ true in
    let A : Entry Op → Type 0 = λ x. All (λ (y : Entry Op). is_before x.stamp y.stamp ≡ true) (drop n log) in
    clean_to k (take n log) (drop n log) (both (take n log) (recursion_from_All C (take n log) h.covered) (recursion_from_All A (take n log) h.before))
  where
    both : (l : List (Entry Op)) → AllByRecursion (λ x. covers k (id_of x.stamp) ≡ true) l → AllByRecursion (λ x. All (λ (y : Entry Op). is_before x.stamp y.stamp ≡ true) (drop n log)) l → IsClean k l (drop n log)
    both [] c a = tt
    both (x ∷ l) c a = ((c.0, recursion_from_All (λ (y : Entry Op). is_before x.stamp y.stamp ≡ true) (drop n log) a.0), both l c.1 a.1)

pub cut_fits : {Op : Type 0} (l : List (Entry Op)) (k : Clock) (c v : ℕ) → c ≡ clean_cut l k → v ≡ length l → c ≤ v
cut_fits l k c v e f = subst (λ n. n ≤ v) (sym e) (subst (λ n. clean_cut l k ≤ n) (sym f) (cut_within l k))

module _ {S O : Type 0} (m : Meaning S O) (law : IsLawful m) (plain : IsTrue m.plain) where
  -- the first operations of a log may be applied to the base
  front_run : (n c : ℕ) (s : Logged S O) → IsGoodLog m n s → IsRun m s.base (take c s.log)
  front_run n c s h =
      let I : Entry O → Type 0 = λ e. IsIssued m n e.stamp e.op in
      record {
        members = n;
        good = h.base;
        issued = All-from_recursion I (take c s.log) (all_take I c s.log (recursion_from_All I s.log h.issued));
        rising = rising-take c s.log h.rising;
        apart = apart-take c s.log h.apart;
        fresh = λ i d _. record { none = λ p g _. law.plain_holds s.base p plain g };
      }

  pub settled_run : (n c : ℕ) (s : Logged S O) (b : S) (l k xs : List (Entry O)) → record { base = b; log = l } ≡ s → IsGoodLog m n s → k ≡ l → xs ≡ take c k → IsRun m b xs
  settled_run n c s b l k xs e h same is =
      let t : Logged S O = record { base = b; log = l } in
      subst (IsRun m b) (sym (is ∙ ap (take c) same)) (front_run n c t (subst (IsGoodLog m n) (sym e) h))

  pub shown_state : (n : ℕ) (s : Logged S O) (v : S) → IsGoodLog m n s → v ≡ value_of m s → IsState m v
  shown_state n s v h e = record { members = n; good = subst (m.good n) (sym e) (value_good m law plain n s h) }
