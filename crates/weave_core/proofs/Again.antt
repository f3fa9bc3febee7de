-- What an arrival needs of a state and a history holds of what it leaves.
use Rattle.std.proofs.Common.{Bool, ℕ, ◌≡◌, true, false, List, [], ◌∷◌, cond, sym, map, subst}
use Rattle.std.specs.List.{AllByRecursion}
use Rattle.vector_clock.specs.declared.stamp.Stamp.{Stamp}
use Rattle.crdt_laws.specs.declared.small.Entry.{Entry}
use Rattle.weave_core.specs.Deliver.{Weave}
use Rattle.vector_clock.specs.Stamp.{same_id, is_below, id_of}
use Rattle.crdt_laws.specs.Tower.{Meaning, IsLawful, IsIssued, Lacks}
use Rattle.crdt_laws.specs.Present.{acted, present}
use Rattle.crdt_laws.specs.Sets.{place, IsRising, is_beyond}
use Rattle.weave_core.specs.Deliver.{deliver, woven_with, is_high}
use Rattle.weave_core.proofs.Acts
use Rattle.std.specs.List.{All, filter}
use Rattle.std.proofs.Common.{refl, ◌∙◌, ◌≤◌, ◌<◌, ap, ap₂, arith}
use Rattle.std.specs.Prelude.{if◌then◌else◌}
use Rattle.std.proofs.lemmas.Bool.Decides.{nat_tests}
use Rattle.std.proofs.lemmas.List.Elements.{recursion_from_All, All-from_recursion}
use Rattle.vector_clock.specs.declared.clock.Clock.{Clock}
use Rattle.vector_clock.specs.Stamp.{IsStamp}
use Rattle.crdt_laws.specs.Entry.{entry}
use Rattle.weave_core.proofs.Swap.{pair}
use Rattle.weave_core.specs.Deliver.{IsWell, trim}
use Rattle.crdt_laws.proofs.Acts.{acted-issued}
use Rattle.crdt_laws.proofs.Filters.{all-map, all-place, rising-filter}
use Rattle.vector_clock.proofs.Ordered.{all-filter}
use Rattle.crdt_laws.proofs.Forms.{present-stamp, present-issued}
use Rattle.crdt_laws.proofs.Place.{rising-place}

pub rising-map : {State Op : Type 0} (t : Meaning State Op) (y : Entry Op) (c : List (Entry Op)) → IsRising c → IsRising (map (acted t y) c)
rising-map t y [] r = tt
rising-map {Op = Op} t y (a ∷ c) r = (all-map (λ (e : Entry Op). is_below a.stamp e.stamp ≡ true) (λ (e : Entry Op). is_below a.stamp e.stamp ≡ true) (acted t y) (λ e q. q) c r.0, rising-map t y c r.1)

form_rising : {State Op : Type 0} (t : Meaning State Op) (w : Weave State Op) (x : Entry Op) → IsRising w.history → AllByRecursion (λ e. same_id x.stamp e.stamp ≡ false) w.history → IsRising (woven_with t w x).history
unfolding woven_with
form_rising {Op = Op} t w x r n =
    let m = map (acted t x) w.history in
    elim (is_high t x) as (λ b. IsRising (cond b (place x m) m)) [
      | true ↦ rising-place x m (all-map (λ (e : Entry Op). same_id x.stamp e.stamp ≡ false) (λ (e : Entry Op). same_id x.stamp e.stamp ≡ false) (acted t x) (λ e q. q) w.history n) (rising-map t x w.history r)
      | false ↦ rising-map t x w.history r
    ]

pub rising_again : {State Op : Type 0} (t : Meaning State Op) (w : Weave State Op) (x : Entry Op) → IsRising w.history → AllByRecursion (λ e. same_id x.stamp e.stamp ≡ false) w.history → IsRising (deliver t w x).history
rising_again {Op = Op} t w x r n =
    form_rising t w (present t w.history x) r (subst (λ (s : Stamp). AllByRecursion (λ (e : Entry Op). same_id s e.stamp ≡ false) w.history) (sym (present-stamp t w.history x)) n)

module _ {State Op : Type 0} (t : Meaning State Op) (members : ℕ) (law : IsLawful t) where
  abbrev pub Issued : Entry Op → Type 0
  Issued e = IsIssued t members e.stamp e.op

  form_good : (w : Weave State Op) (x : Entry Op) → t.good members w.state → Issued x → Lacks t w.state (id_of x.stamp) → t.good members (woven_with t w x).state
  unfolding woven_with
  form_good w x g v f = law.good-apply members w.state x.stamp x.op g v f

  pub good_again : (w : Weave State Op) (x : Entry Op) → t.good members w.state → AllByRecursion Issued w.history → Issued x → Lacks t w.state (id_of x.stamp) → t.good members (deliver t w x).state
  good_again w x g h v f =
      form_good w (present t w.history x) g (present-issued t members law w.history x h v) (subst (λ s. Lacks t w.state (id_of s)) (sym (present-stamp t w.history x)) f)

  form_issued : (w : Weave State Op) (x : Entry Op) → Issued x → AllByRecursion Issued w.history → AllByRecursion Issued (woven_with t w x).history
  unfolding woven_with
  form_issued w x v vs =
      let m = map (acted t x) w.history in
      let k = all-map Issued Issued (acted t x) (λ e q. acted-issued t members law x e v q) w.history vs in
      elim (is_high t x) as (λ b. AllByRecursion Issued (cond b (place x m) m)) [
        | true ↦ all-place Issued x v m k
        | false ↦ k
      ]

  pub issued_again : (w : Weave State Op) (x : Entry Op) → AllByRecursion Issued w.history → Issued x → AllByRecursion Issued (deliver t w x).history
  issued_again w x h v = form_issued w (present t w.history x) (present-issued t members law w.history x h v) h

  abbrev pub High : Entry Op → Type 0
  High e = is_high t e ≡ true

  high_same : (e d : Entry Op) → t.level d.op ≡ t.level e.op → High e → High d
  high_same e d q h = (let same : is_high t d ≡ is_high t e = cc in same ∙ h)

  high_map : (x : Entry Op) → Issued x → (h : List (Entry Op)) → AllByRecursion Issued h → AllByRecursion High h → AllByRecursion High (map (acted t x) h)
  high_map x v [] vs h = tt
  high_map x v (a ∷ l) vs h = (high_same a (acted t x a) (Acts.acted-level t members law x a v vs.0) h.0, high_map x v l vs.1 h.1)

  form_high : (w : Weave State Op) (x : Entry Op) → Issued x → AllByRecursion Issued w.history → AllByRecursion High w.history → AllByRecursion High (woven_with t w x).history
  unfolding woven_with
  form_high w x v vs h =
      let m = map (acted t x) w.history in
      let k = high_map x v w.history vs h in
      (elim (is_high t x) as (λ b. is_high t x ≡ b → AllByRecursion High (cond b (place x m) m)) [
        | true ↦ λ e. all-place High x e m k
        | false ↦ λ e. k
      ]) refl

  -- the state and the history keep what they must
  pub well_again : (w : Weave State Op) (x : Entry Op) → IsWell t members w → Issued x → Lacks t w.state (id_of x.stamp) → All (λ e. same_id x.stamp e.stamp ≡ false) w.history → IsWell t members (deliver t w x)
  well_again w x h v f n =
      let vs = recursion_from_All Issued w.history h.issued in
      let w' = deliver t w x in
      record {
        good = good_again w x h.good vs v f;
        issued = All-from_recursion Issued w'.history (issued_again w x vs v);
        high = All-from_recursion High w'.history (form_high w (present t w.history x) (present-issued t members law w.history x vs v) vs (recursion_from_All High w.history h.high));
        rising = rising_again t w x h.rising (recursion_from_All (λ e. same_id x.stamp e.stamp ≡ false) w.history n);
      }

  pub well_trimmed : (w : Weave State Op) (k : Clock) → IsWell t members w → IsWell t members (trim t w k)
  well_trimmed w k h = record {
    good = law.good-settle members w.state k h.good;
    issued = All-from_recursion Issued (filter (is_beyond k) w.history) (all-filter Issued (is_beyond k) w.history (recursion_from_All Issued w.history h.issued));
    high = All-from_recursion High (filter (is_beyond k) w.history) (all-filter High (is_beyond k) w.history (recursion_from_All High w.history h.high));
    rising = rising-filter (is_beyond k) w.history h.rising;
  }

  pub well_bare : (s : State) → t.good members s → IsWell t members (pair s [])
  well_bare s g = record {
    good = g;
    issued = All-from_recursion Issued [] tt;
    high = All-from_recursion High [] tt;
    rising = tt;
  }

  -- the entries that an operation acted on keep their stamps
  pub stamps_acted : (p : Stamp) (y : Op) (h : List (Entry Op)) → AllByRecursion Issued h → AllByRecursion (λ e. IsStamp e.stamp) (map (acted t (entry p y)) h)
  stamps_acted p y [] vs = tt
  stamps_acted p y (a ∷ l) vs = (vs.0.stamp.stamp, stamps_acted p y l vs.1)

  all_left : (y : Entry Op) → Issued y → t.level y.op ≤ 1 → (h : List (Entry Op)) → AllByRecursion Issued h → AllByRecursion High h → map (acted t y) h ≡ h
  all_left y v low [] vs hs = refl
  all_left y v low (a ∷ l) vs hs =
      let up : 2 ≤ t.level a.op = (let k : is_high t a ≡ true = hs.0 in grind (arith, nat_tests)) in
      ap₂ (λ (b : Entry Op) (m : List (Entry Op)). b ∷ m) (Acts.acted-above t members law y a v vs.0 (omega arith)) (all_left y v low l vs.1 hs.1)

  -- what cannot act leaves the history alone
  pub left_alone : (y : Entry Op) (h : List (Entry Op)) (j : ℕ) → j ≡ t.level y.op → j < 2 → Issued y → All Issued h → All High h → h ≡ (if is_high t y then place y (map (acted t y) h) else map (acted t y) h)
  left_alone y h j is low v vs hs =
      let e : is_high t y ≡ false = grind (arith, nat_tests) in
      sym (all_left y v (let k : t.level y.op ≤ 1 = omega (arith, is, low) in k) h (recursion_from_All Issued h vs) (recursion_from_All High h hs))
      ∙ ap (λ (b : Bool). cond b (place y (map (acted t y) h)) (map (acted t y) h)) (sym e)
