-- The bytes of towers with resets that forget what they knew of: a tag, and the operation of the tower; and the base, a count, and
-- each stamp of the log with its operation.
use Rattle.std.specs.Prelude.{◌≡◌, ◌↔◌, ◌≤◌, ◌⊎◌, ◌&&◌, Bool, true, false, not, IsTrue, List, [], length, None}
use Rattle.std.proofs.Common.{refl, ap, sym, subst, inl, inr, arith}
use Rattle.std.specs.List.{AllByRecursion, last_or}
use Rattle.std.proofs.lemmas.List.Elements.{All-from_recursion, recursion_from_All}
use Rattle.vector_clock.specs.declared.clock.Clock.{Clock}
use Rattle.vector_clock.specs.declared.stamp.Stamp.{Stamp}
use Rattle.vector_clock.specs.Clock.{IsClock, max_members}
use Rattle.vector_clock.specs.Stamp.{IsKnownTo, IsStamp, id_of, is_below}
use Rattle.vector_clock.proofs.Ordered.{all_weaker}
use Rattle.crdt_laws.specs.declared.small.Entry.{Entry}
use Rattle.crdt_laws.specs.Entry.{entry}
use Rattle.crdt_laws.specs.Sets.{AreApart, AreIssued, IsRising, has_id}
use Rattle.crdt_laws.specs.Tower.{Meaning, IsIssued, IsStampOf, IsWithin}
use Rattle.reset_products.specs.declared.observed.ObservedOp.{ObservedOp}
use Rattle.reset_products.specs.declared.observed.ObservedOp.TheVariants.{Do, Reset}
use Rattle.reset_products.specs.Observed.{IsGoodLogAt, Logged, observed_meaning}
use Rattle.wire_core.specs.Reading.{Grammar, IsExact, IsSplit, Rules, only, nothing, chain, made, tagged, listed, max_listed, allows_each}
use Rattle.wire_core.specs.Exact.{only_exact, nothing_exact, chain_exact, made_exact, tagged_exact, listed_exact}
use Rattle.wire_core.specs.Faults.{IsInOrder}
use Rattle.wire_core.specs.InOrder.{nothing_in_order, tagged_in_order}
use Rattle.wire_core.specs.SmallExact.{count_listed}
use Rattle.wire_core.specs.Steady.{IsSteady, in_order_steady, only_steady, chain_steady, made_steady, listed_steady}
use Rattle.wire_core.specs.Good.{AreGood}
use Rattle.wire_core.specs.Stands.{Tells}
use Rattle.wire_core.specs.Writes.{Writes}
use Rattle.wire_core.specs.ClocksExact.{both}
use Rattle.wire_core.specs.Ids.{apart_behind, apart_taken}
use Rattle.wire_core.specs.Rising.{AreRising, Follows, all_both, behind_allowed, behind_both, comes_next, follows, follows_back, rising_behind, rising_taken}
use Rattle.wire_core.specs.Stamps.{IsEarlier, earlier_transitive, known_from, knows, knows_most, next_stamp, next_stamp_exact, next_stamp_steady}
use Rattle.wire_core.specs.Taken.{stamp_allowed, stamp_within}
use Rattle.wire_core.specs.Written.{stamp_written}

-- ---- operations: tag 0 and the operation, or tag 1

module _ {O : Type 0} where
  abbrev pub observed_split : ObservedOp O → O ⊎ Unit {0}
  observed_split (Do x) = inl x
  observed_split Reset = inr tt

  abbrev pub reset : Unit {0} → ObservedOp O
  reset _ = Reset

  abbrev pub observed_op_grammar : Grammar O → Grammar (ObservedOp O)
  observed_op_grammar part = tagged Do reset observed_split part (nothing tt)

  observed_whole : IsSplit {A = O} {B = Unit {0}} {C = ObservedOp O} Do reset observed_split
  observed_whole = record { at_left = λ x. refl; at_right = λ y. refl; whole = elim [ Do x ↦ refl | Reset ↦ refl ] }

  pub observed_op_exact : (part : Grammar O) → IsExact part → IsExact (observed_op_grammar part)
  observed_op_exact part h = tagged_exact Do reset observed_split observed_whole part (nothing tt) h (nothing_exact tt)

  pub observed_op_in_order : (part : Grammar O) → IsInOrder part → IsInOrder (observed_op_grammar part)
  observed_op_in_order part h = tagged_in_order Do reset observed_split part (nothing tt) h (nothing_in_order tt)

  -- a reset may stand at each stamp
  abbrev pub observed_may_stand : (Stamp → O → Bool) → Stamp → ObservedOp O → Bool
  observed_may_stand part p (Do x) = part p x
  observed_may_stand part p Reset = true

module _ {S O : Type 0} (m : Meaning S O) (part : Grammar O) where
  op_allowed : Writes m part → (r : Rules) (p : Stamp) (x : ObservedOp O) → IsStampOf r.members p → (observed_meaning m).valid p x → (observed_op_grammar part).allows r x
  op_allowed one r p (Do x) stamp valid = one.each r p x stamp valid
  op_allowed one r p Reset stamp valid = refl

  pub observed_op_writes : Writes m part → Writes (observed_meaning m) (observed_op_grammar part)
  observed_op_writes one = record { each = op_allowed one }

  module _ (may_stand : Stamp → O → Bool) where
    op_told : Tells m part may_stand → (r : Rules) (p : Stamp) (x : ObservedOp O) → IsStampOf r.members p → IsWithin p → (observed_op_grammar part).allows r x
        → IsTrue (observed_may_stand may_stand p x) ↔ (observed_meaning m).valid p x
    op_told one r p (Do x) stamp within allowed = one.each r p x stamp within allowed
    op_told one r p Reset stamp within allowed = (λ _. within, λ _. refl)

    pub observed_op_tells : Tells m part may_stand → Tells (observed_meaning m) (observed_op_grammar part) (observed_may_stand may_stand)
    observed_op_tells one = record { each = op_told one }

-- ---- states: the base, a count, and each stamp with its operation

module _ {O : Type 0} where
  abbrev pub stamp_of : Entry O → Stamp
  stamp_of e = e.stamp

  -- a stamp whose key comes after those of the log before, of an operation that the clock knows and that is none of those
  abbrev pub logged_stamp : Clock → List (Entry O) → Grammar Stamp
  logged_stamp d before = only (λ _ p. not (has_id before (id_of p))) (next_stamp stamp_of d before)

  -- an operation that may stand at the stamp
  abbrev pub logged_op : Grammar O → (Stamp → O → Bool) → Stamp → Grammar O
  logged_op part may_stand p = only (λ _ x. may_stand p x) part

  abbrev pub logged_grammar : Grammar O → (Stamp → O → Bool) → Clock → List (Entry O) → Grammar (Entry O)
  logged_grammar part may_stand d before = made (λ p. entry p.0 p.1) (λ e. (e.stamp, e.op)) (chain (logged_stamp d before) (logged_op part may_stand))

  abbrev pub log_grammar : Grammar O → (Stamp → O → Bool) → Clock → Grammar (List (Entry O))
  log_grammar part may_stand d = listed (logged_grammar part may_stand d)

  pub logged_stamp_exact : (d : Clock) (before : List (Entry O)) → IsExact (logged_stamp d before)
  logged_stamp_exact d before = only_exact _ (next_stamp stamp_of d before) (next_stamp_exact stamp_of d before)

  pub logged_exact : (part : Grammar O) (may_stand : Stamp → O → Bool) → IsExact part → (d : Clock) (before : List (Entry O)) → IsExact (logged_grammar part may_stand d before)
  logged_exact part may_stand h d before = made_exact _ _ _ (chain_exact (logged_stamp d before) (logged_op part may_stand) (logged_stamp_exact d before) (λ p. only_exact _ part h)) (λ r p a. refl)

  logged_steady : (part : Grammar O) (may_stand : Stamp → O → Bool) → IsInOrder part → (d : Clock) (before : List (Entry O)) → IsSteady (logged_grammar part may_stand d before)
  logged_steady part may_stand h d before = made_steady _ _ _ (chain_steady (logged_stamp d before) (logged_op part may_stand)
      (only_steady _ (next_stamp stamp_of d before) (next_stamp_steady stamp_of d before)) (λ p. only_steady _ part (in_order_steady part h)))

module _ {S O : Type 0} where
  abbrev pub logged : S → List (Entry O) → Logged S O
  logged base log = record { base = base; log = log }

  abbrev pub observed_states : Grammar O → (Stamp → O → Bool) → (Clock → Grammar S) → Clock → Grammar (Logged S O)
  observed_states part may_stand base d = made (λ p. logged p.0 p.1) (λ s. (s.base, s.log)) (chain (base d) (λ _. log_grammar part may_stand d))

  -- the lists of the base are short enough, and four bytes can tell the length of the log
  abbrev pub observed_fit : (S → Type 0) → Logged S O → Type 0
  observed_fit fits s = fits s.base × (length s.log ≤ max_listed)

  pub observed_states_exact : (part : Grammar O) (may_stand : Stamp → O → Bool) (base : Clock → Grammar S) → IsExact part → (d : Clock) → IsExact (base d) → IsExact (observed_states part may_stand base d)
  observed_states_exact part may_stand base h d k =
      made_exact _ _ _ (chain_exact (base d) (λ _. log_grammar part may_stand d) k (λ _. listed_exact (logged_grammar part may_stand d) (logged_exact part may_stand h d))) (λ r p a. refl)

  pub observed_states_steady : (part : Grammar O) (may_stand : Stamp → O → Bool) (base : Clock → Grammar S) → IsInOrder part → (d : Clock) → IsSteady (base d) → IsSteady (observed_states part may_stand base d)
  observed_states_steady part may_stand base h d k =
      made_steady _ _ _ (chain_steady (base d) (λ _. log_grammar part may_stand d) k (λ _. listed_steady (logged_grammar part may_stand d) (logged_steady part may_stand h d)))

-- ---- the logs that are allowed are those that are good

-- the stamp of a log is one of the document, within the limits
pub new_stamp_is : {O : Type 0} (r : Rules) (d : Clock) (before : List (Entry O)) (p : Stamp) → 1 ≤ r.members → r.members ≤ max_members → (logged_stamp d before).allows r p
    → IsStampOf r.members p × IsWithin p
new_stamp_is r d before p some most a = (stamp_allowed r p some most a.0.0, stamp_within r p a.0.0)

not_is : (b : Bool) → not b ≡ true → b ≡ false
not_is true e = absurd cc
not_is false e = refl

module _ {S O : Type 0} (m : Meaning S O) (part : Grammar O) (may_stand : Stamp → O → Bool) (tells : Tells m part may_stand) (r : Rules) (d : Clock) (k : IsClock d) (n : d.n ≡ r.members) where
  -- what each operation of the log keeps
  abbrev IsLogged : Entry O → Type 0
  IsLogged e = IsIssued m r.members e.stamp e.op × IsKnownTo d e.stamp

  is_new : (before : List (Entry O)) (e : Entry O) → (logged_grammar part may_stand d before).allows r e → has_id before (id_of e.stamp) ≡ false
  is_new before e a = not_is (has_id before (id_of e.stamp)) a.0.0.1

  is_logged : (before : List (Entry O)) (e : Entry O) → (logged_grammar part may_stand d before).allows r e → Follows (IsEarlier stamp_of) (last_or None before) e × IsLogged e
  is_logged before e a =
      let test = both (comes_next stamp_of is_below (last_or None before) e.stamp) (knows d e.stamp) a.0.0.0.1 in
      let some = k.some in
      let most = k.most in
      let stamp : IsStampOf r.members e.stamp = stamp_allowed r e.stamp (omega (arith, n)) (omega (arith, n)) a.0.0.0.0 in
      let within : IsWithin e.stamp = stamp_within r e.stamp a.0.0.0.0 in (
        follows stamp_of is_below (IsEarlier stamp_of) (λ x y i. i) (last_or None before) e test.0,
        (record { stamp = stamp; valid = (tells.each r e.stamp e.op stamp within a.0.1.0).0 a.0.1.1 }, known_from d e.stamp test.1),
      )

  log_rises : (es : List (Entry O)) → allows_each (logged_grammar part may_stand d) r [] es → AreRising (IsEarlier stamp_of) es × AllByRecursion IsLogged es
  log_rises es a = rising_taken (IsEarlier stamp_of) (earlier_transitive stamp_of) (logged_grammar part may_stand d) r IsLogged is_logged es a

  -- the stamps of a log that was taken are stamps
  pub log_is_stamped : (es : List (Entry O)) → allows_each (logged_grammar part may_stand d) r [] es → AllByRecursion (λ e. IsStamp e.stamp) es
  log_is_stamped es a = all_weaker IsLogged (λ e. IsStamp e.stamp) (λ e q. q.0.stamp.stamp) es (log_rises es a).1

  module _ (valid_within : (p : Stamp) (x : O) → m.valid p x → IsWithin p) (writes : Writes m part) where
    log_again : (es : List (Entry O)) → IsRising es → AreApart es → AllByRecursion IsLogged es → allows_each (logged_grammar part may_stand d) r [] es
    log_again es rising apart all =
        behind_allowed (λ b e. (Follows (IsEarlier stamp_of) (last_or None b) e × IsLogged e) × (has_id b (id_of e.stamp) ≡ false)) (logged_grammar part may_stand d) r
        (λ b e q.
        (let issued = q.0.1.0 in
        let within : IsWithin e.stamp = valid_within e.stamp e.op issued.valid in
        let later : comes_next stamp_of is_below (last_or None b) e.stamp ≡ true = follows_back stamp_of is_below (IsEarlier stamp_of) (λ x y i. i) (last_or None b) e q.0.0 in
        let test : (comes_next stamp_of is_below (last_or None b) e.stamp && knows d e.stamp) ≡ true = rw later (knows_most d e.stamp q.0.1.1.known) in
        let new : not (has_id b (id_of e.stamp)) ≡ true = ap not q.1 in
        let allowed : part.allows r e.op = writes.each r e.stamp e.op issued.stamp issued.valid in
        ((((stamp_written r e.stamp issued.stamp within, test), new), (allowed, (tells.each r e.stamp e.op issued.stamp within allowed).1 issued.valid)), refl)))
        [] es (behind_both (λ b e. Follows (IsEarlier stamp_of) (last_or None b) e × IsLogged e) (λ b e. has_id b (id_of e.stamp) ≡ false) [] es
        (rising_behind (IsEarlier stamp_of) (earlier_transitive stamp_of) (logged_grammar part may_stand d) r IsLogged es rising all) (apart_behind es apart))

module _ {S O : Type 0} (m : Meaning S O) (part : Grammar O) (may_stand : Stamp → O → Bool) (tells : Tells m part may_stand)
    (valid_within : (p : Stamp) (x : O) → m.valid p x → IsWithin p) (writes : Writes m part) (fits : S → Type 0) (base : Clock → Grammar S) (h : AreGood m fits base) where
  taken : (r : Rules) (d : Clock) (s : Logged S O) → IsClock d → d.n ≡ r.members → (observed_states part may_stand base d).allows r s → IsGoodLogAt m d s
  taken r d s k n a =
      let t = log_rises m part may_stand tells r d k n s.log a.0.1.1 in
      let issued : AreIssued m r.members s.log =
      All-from_recursion (λ e. IsIssued m r.members e.stamp e.op) s.log (all_weaker (IsLogged m part may_stand tells r d k n) (λ e. IsIssued m r.members e.stamp e.op) (λ e q. q.0) s.log t.1) in
      record {
        base = h.taken r d s.base k n a.0.0;
        issued = subst (λ (i : _). AreIssued m i s.log) (sym n) issued;
        rising = t.0;
        apart = apart_taken (logged_grammar part may_stand d) r (is_new m part may_stand tells r d k n) s.log a.0.1.1;
        known = All-from_recursion (λ e. IsKnownTo d e.stamp) s.log (all_weaker (IsLogged m part may_stand tells r d k n) (λ e. IsKnownTo d e.stamp) (λ e q. q.1) s.log t.1);
      }

  again : (r : Rules) (d : Clock) (s : Logged S O) → IsClock d → d.n ≡ r.members → IsGoodLogAt m d s → observed_fit fits s → (observed_states part may_stand base d).allows r s
  again r d s k n a f =
      let issued : AreIssued m r.members s.log = subst (λ (i : _). AreIssued m i s.log) n a.issued in
      let each = all_both (λ e. IsIssued m r.members e.stamp e.op) (λ e. IsKnownTo d e.stamp) s.log
      (recursion_from_All (λ e. IsIssued m r.members e.stamp e.op) s.log issued) (recursion_from_All (λ e. IsKnownTo d e.stamp) s.log a.known) in
      ((h.again r d s.base k n a.base f.0, (count_listed r (length s.log) f.1, log_again m part may_stand tells r d k n valid_within writes s.log a.rising a.apart each)), refl)

  pub observed_good : AreGood (observed_meaning m) (observed_fit fits) (observed_states part may_stand base)
  observed_good = record { taken = taken; again = again }
