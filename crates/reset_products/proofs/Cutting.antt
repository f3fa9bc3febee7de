-- The pass from the end of a log that finds its longest clean prefix.
use Rattle.std.proofs.Common.{◌≡◌, ℕ, zero, suc, ◌+◌, ◌-◌, ◌≤◌, ◌<◌, Bool, true, false, ◌&&◌, List, [], ◌∷◌, refl, ap, sym, ◌∙◌, subst, arith, length, take, drop, get_or, min}
use Rattle.std.specs.List.{All, AllByRecursion, list_all}
use Rattle.std.proofs.lemmas.Bool.{and_from, and_parts, false_from_ne_true}
use Rattle.std.proofs.lemmas.Bool.Decides.{nat_tests}
use Rattle.std.proofs.lemmas.List.{get_or-take}
use Rattle.std.proofs.lemmas.List.Elements.{All-from_recursion, recursion_from_All}
use Rattle.vector_clock.specs.declared.clock.Clock.{Clock}
use Rattle.vector_clock.specs.declared.stamp.Stamp.{Stamp}
use Rattle.vector_clock.specs.Clock.{IsClock, count, covers, meet, max_members}
use Rattle.vector_clock.specs.Stamp.{id_of, is_before, same_id}
use Rattle.vector_clock.proofs.Bounds.{meet_clock}
use Rattle.vector_clock.proofs.Clocks.{count-clock_by, n-clock_by}
use Rattle.vector_clock.proofs.Keys.{before_covers}
use Rattle.crdt_laws.specs.declared.small.Entry.{Entry}
use Rattle.crdt_laws.specs.Sets.{AreApart}
use Rattle.crdt_laws.specs.Tower.{IsStampOf}
use Rattle.crdt_laws.proofs.Filters.{all_true, true_all}
use Rattle.crdt_laws.proofs.Ready.{drop_item}
use Rattle.weave_core.proofs.Placed.{all_drop, all_take}
use Rattle.reset_products.specs.Cut.{clean_cut, greatest, is_clean_prefix}
use Rattle.reset_products.specs.CutLaws.{IsClean, clean_from, clean_to, greatest_at, greatest_skip, length-take_cut}
use Rattle.vector_clock.proofs.Ordered.{all_weaker}

-- whether the clock and all of ys know of the operation at p
abbrev pub know : {Op : Type 0} → Clock → List (Entry Op) → Stamp → Bool
know k ys p = covers k (id_of p) && list_all (λ y. covers y.stamp.clock (id_of p)) ys

-- the clock known knows of what k and all of ys know of
pub record KnowsAs {Op : Type 0} (k : Clock) (ys : List (Entry Op)) (known : Clock) : Type 0 where
  pub clock : IsClock known
  pub members : known.n ≡ k.n
  pub same : (p : Stamp) → p.member < max_members → covers known (id_of p) ≡ know k ys p

-- The operations from i on are passed, and the longest clean prefix ends at cut or before i.
pub record IsCutting {Op : Type 0} (k : Clock) (log : List (Entry Op)) (i cut : ℕ) (known met : Clock) : Type 0 where
  pub order : i ≤ cut
  pub within : cut ≤ length log
  pub known_as : KnowsAs k (drop cut log) known
  pub met_as : KnowsAs k (drop i log) met
  pub passed : AllByRecursion (λ e. covers known (id_of e.stamp) ≡ true) (take (cut - i) (drop i log))
  pub rest : clean_cut log k ≡ greatest (is_clean_prefix k log) cut

covers-meet : (a b : Clock) (p : Stamp) → p.member < max_members → covers (meet a b) (id_of p) ≡ (covers a (id_of p) && covers b (id_of p))
covers-meet a b p h =
    let e : count (meet a b) p.member ≡ min (count a p.member) (count b p.member) = count-clock_by a.n (λ m. min (count a m) (count b m)) p.member h in
    grind (arith, nat_tests)

regroup : (a b c : Bool) → ((a && b) && c) ≡ (a && (c && b))
regroup true true true = refl
regroup true true false = refl
regroup true false true = refl
regroup true false false = refl
regroup false b c = refl

-- one more operation is passed
knows-meet : {Op : Type 0} (k : Clock) (ys : List (Entry Op)) (met : Clock) (e : Entry Op) → IsStampOf k.n e.stamp → KnowsAs k ys met → KnowsAs k (e ∷ ys) (meet met e.stamp.clock)
knows-meet k ys met e s h = record {
  clock = meet_clock met e.stamp.clock h.clock s.stamp.clock (h.members ∙ sym s.members);
  members = n-clock_by met.n (λ m. min (count met m) (count e.stamp.clock m)) ∙ h.members;
  same = λ p m.
      covers-meet met e.stamp.clock p m
      ∙ ap (λ b. b && covers e.stamp.clock (id_of p)) (h.same p m)
      ∙ regroup (covers k (id_of p)) (list_all (λ y. covers y.stamp.clock (id_of p)) ys) (covers e.stamp.clock (id_of p));
}

-- what holds from n on holds from c on
later_ones : {X : Type 0} (P : X → Type 0) (n c : ℕ) (l : List X) → n ≤ c → AllByRecursion P (drop n l) → AllByRecursion P (drop c l)
later_ones P zero c l m h = all_drop P c l h
later_ones P (suc n) zero l m h = absurd (omega arith)
later_ones P (suc n) (suc c) [] m h = tt
later_ones P (suc n) (suc c) (a ∷ l) m h = later_ones P n c l (omega arith) h

less_part : (a i j : ℕ) → j + 1 ≡ i → i ≤ a → a - j ≡ suc (a - i)
less_part a i j e m = omega arith

cut_is : {Op : Type 0} (k : Clock) (log : List (Entry Op)) → clean_cut log k ≡ greatest (is_clean_prefix k log) (length log)
unfolding clean_cut
cut_is k log = refl

module _ {Op : Type 0} (k : Clock) (log : List (Entry Op)) where
  -- a clean prefix that reaches over e is known to e's knowers
  clean_known : (n cut j : ℕ) (e : Entry Op) → e ≡ get_or log j e → j < n → n ≤ cut → cut ≤ length log → is_clean_prefix k log n ≡ true → know k (drop cut log) e.stamp ≡ true
  clean_known n cut j e is l m w h =
      let P : Entry Op → Type 0 = λ x. (covers k (id_of x.stamp) ≡ true) × AllByRecursion (λ (y : Entry Op). is_before x.stamp y.stamp ≡ true) (drop n log) in
      let c : IsClean k (take n log) (drop n log) = clean_from k (take n log) (drop n log) h in
      let len : length (take n log) ≡ n = length-take_cut n log (omega arith) in
      let at : P (get_or (take n log) j e) = All-from_recursion P (take n log) c j e (omega arith) in
      let here : P e = subst P (get_or-take n log j e l ∙ sym is) at in
      and_from (covers k (id_of e.stamp)) (list_all (λ y. covers y.stamp.clock (id_of e.stamp)) (drop cut log)) here.0
      (true_all (λ (y : Entry Op). covers y.stamp.clock (id_of e.stamp)) (drop cut log)
      (all_weaker (λ (y : Entry Op). is_before e.stamp y.stamp ≡ true) (λ y. covers y.stamp.clock (id_of e.stamp) ≡ true) (λ y b. before_covers e.stamp y.stamp b) (drop cut log)
      (later_ones (λ (y : Entry Op). is_before e.stamp y.stamp ≡ true) n cut log m here.1)))

  pub cutting_first : IsClock k → IsCutting k log (length log) (length log) k k
  cutting_first c =
      let all : drop (length log) log ≡ [] = drop_end log in
      let start : KnowsAs k (drop (length log) log) k = subst (λ l. KnowsAs k l k) (sym all) (record { clock = c; members = refl; same = λ p m. and_true (covers k (id_of p)) }) in
      record {
        order = omega arith;
        within = omega arith;
        known_as = start;
        met_as = start;
        passed = subst (λ l. AllByRecursion (λ (e : Entry Op). covers k (id_of e.stamp) ≡ true) (take (length log - length log) l)) (sym all) (take_of_none (length log - length log));
        rest = cut_is k log;
      }
    where
      drop_end : (l : List (Entry Op)) → drop (length l) l ≡ []
      drop_end [] = refl
      drop_end (a ∷ l) = drop_end l

      and_true : (b : Bool) → b ≡ (b && true)
      and_true true = refl
      and_true false = refl

      take_of_none : (n : ℕ) → AllByRecursion (λ (e : Entry Op). covers k (id_of e.stamp) ≡ true) (take n [])
      take_of_none zero = tt
      take_of_none (suc n) = tt

  module _ (i j cut : ℕ) (known met : Clock) (e : Entry Op) (down : j + 1 ≡ i) (in_log : j < length log) (is : e ≡ get_or log j e) (s : IsStampOf k.n e.stamp) (h : IsCutting k log i cut known met) where
    at_hand : drop j log ≡ e ∷ drop i log
    at_hand = drop_item log j e in_log is ∙ ap (λ n. e ∷ drop n log) down

    next_met : KnowsAs k (drop j log) (meet met e.stamp.clock)
    next_met = subst (λ l. KnowsAs k l (meet met e.stamp.clock)) (sym at_hand) (knows-meet k (drop i log) met e s h.met_as)

    -- the operation at hand is known outside the prefix
    pub cutting_on : covers known (id_of e.stamp) ≡ true → IsCutting k log j cut known (meet met e.stamp.clock)
    cutting_on c = record {
      order = (let a : i ≤ cut = h.order in omega arith);
      within = h.within;
      known_as = h.known_as;
      met_as = next_met;
      passed =
          subst (λ n. AllByRecursion (λ (x : Entry Op). covers known (id_of x.stamp) ≡ true) (take n (drop j log))) (sym (less_part cut i j down h.order))
          (subst (λ l. AllByRecursion (λ (x : Entry Op). covers known (id_of x.stamp) ≡ true) (take (suc (cut - i)) l)) (sym at_hand) (c, h.passed));
      rest = h.rest;
    }

    -- or it ends the prefix
    pub cutting_off : covers known (id_of e.stamp) ≡ false → IsCutting k log j j (meet met e.stamp.clock) (meet met e.stamp.clock)
    cutting_off c =
        let low : j ≤ cut = (let a : i ≤ cut = h.order in omega arith) in
        let member : e.stamp.member < max_members = (let a : e.stamp.member < e.stamp.clock.n = s.stamp.member in let b : e.stamp.clock.n ≤ max_members = s.stamp.clock.most in omega arith) in
        record {
          order = omega arith;
          within = omega arith;
          known_as = next_met;
          met_as = next_met;
          passed = subst (λ n. AllByRecursion (λ (x : Entry Op). covers (meet met e.stamp.clock) (id_of x.stamp) ≡ true) (take n (drop j log))) (let z : 0 ≡ j - j = omega arith in z) tt;
          rest =
              h.rest
              ∙ greatest_skip (is_clean_prefix k log) j cut low (λ n l m. false_from_ne_true _ (λ q.
              let f : covers known (id_of e.stamp) ≡ true = h.known_as.same e.stamp member ∙ clean_known n cut j e is l m h.within q in
              let g : true ≡ false = sym f ∙ c in
              cc));
        }

before_from : (x y : Stamp) → covers y.clock (id_of x) ≡ true → same_id x y ≡ false → is_before x y ≡ true
unfolding is_before
before_from x y h k = grind arith

apart_parts : {Op : Type 0} (n : ℕ) (l : List (Entry Op)) → AreApart l → AllByRecursion (λ x. AllByRecursion (λ y. same_id x.stamp y.stamp ≡ false) (drop n l)) (take n l)
apart_parts zero l h = tt
apart_parts (suc n) [] h = tt
apart_parts {Op} (suc n) (a ∷ l) h = (all_drop (λ (y : Entry Op). same_id a.stamp y.stamp ≡ false) n l h.0, apart_parts n l h.1)

module _ {Op : Type 0} (k known : Clock) (ys : List (Entry Op)) (h : KnowsAs k ys known) where
  befores : (x : Stamp) (zs : List (Entry Op)) → AllByRecursion (λ y. covers y.stamp.clock (id_of x) ≡ true) zs → AllByRecursion (λ y. same_id x y.stamp ≡ false) zs → AllByRecursion (λ y. is_before x y.stamp ≡ true) zs
  befores x [] c d = tt
  befores x (z ∷ zs) c d = (before_from x z.stamp c.0 d.0, befores x zs c.1 d.1)

  clean_passed : (xs : List (Entry Op)) → AllByRecursion (λ x. covers known (id_of x.stamp) ≡ true) xs → AllByRecursion (λ x. IsStampOf k.n x.stamp) xs → AllByRecursion (λ x. AllByRecursion (λ y. same_id x.stamp y.stamp ≡ false) ys) xs → IsClean k xs ys
  clean_passed [] c s d = tt
  clean_passed (x ∷ xs) c s d =
      let member : x.stamp.member < max_members = (let a : x.stamp.member < x.stamp.clock.n = s.0.stamp.member in let b : x.stamp.clock.n ≤ max_members = s.0.stamp.clock.most in omega arith) in
      let all : know k ys x.stamp ≡ true = sym (h.same x.stamp member) ∙ c.0 in
      let two = and_parts (covers k (id_of x.stamp)) (list_all (λ y. covers y.stamp.clock (id_of x.stamp)) ys) all in
      ((two.0, befores x.stamp ys (all_true (λ (y : Entry Op). covers y.stamp.clock (id_of x.stamp)) ys two.1) d.0), clean_passed xs c.1 s.1 d.1)

-- all operations are passed
pub cutting_last : {Op : Type 0} (k : Clock) (log : List (Entry Op)) (i cut : ℕ) (known met : Clock) → i ≡ 0 → All (λ e. IsStampOf k.n e.stamp) log → AreApart log → IsCutting k log i cut known met → cut ≡ clean_cut log k
cutting_last {Op} k log i cut known met z s d h =
    let all : AllByRecursion (λ (e : Entry Op). covers known (id_of e.stamp) ≡ true) (take (cut - 0) log) = subst (λ n. AllByRecursion (λ (e : Entry Op). covers known (id_of e.stamp) ≡ true) (take (cut - n) (drop n log))) z h.passed in
    let passed : AllByRecursion (λ (e : Entry Op). covers known (id_of e.stamp) ≡ true) (take cut log) = subst (λ n. AllByRecursion (λ (e : Entry Op). covers known (id_of e.stamp) ≡ true) (take n log)) (let q : cut - 0 ≡ cut = omega arith in q) all in
    let clean : IsClean k (take cut log) (drop cut log) =
    clean_passed k known (drop cut log) h.known_as (take cut log) passed
    (all_take (λ (e : Entry Op). IsStampOf k.n e.stamp) cut log (recursion_from_All (λ (e : Entry Op). IsStampOf k.n e.stamp) log s))
    (apart_parts cut log d) in
    sym (h.rest ∙ greatest_at (is_clean_prefix k log) cut (clean_to k (take cut log) (drop cut log) clean))
