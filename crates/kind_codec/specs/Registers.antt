-- The bytes of registers: a text, and the sets that stay, each with its key or its stamp.
use Rattle.std.specs.Prelude.{◌≡◌, ℕ, ◌≤◌, ◌⊎◌, ◌&&◌, true, List, [], length, Option, None, Some}
use Rattle.std.proofs.Common.{refl, sym, subst, inl, inr, arith}
use Rattle.std.specs.List.{AllByRecursion, last_or}
use Rattle.vector_clock.specs.declared.clock.Clock.{Clock}
use Rattle.vector_clock.specs.declared.stamp.Key.{Key}
use Rattle.vector_clock.specs.declared.stamp.Stamp.{Stamp}
use Rattle.vector_clock.specs.Clock.{IsClock, covers}
use Rattle.vector_clock.specs.Stamp.{IsKnownTo, IsStamp, is_below}
use Rattle.vector_clock.proofs.Ordered.{all_weaker}
use Rattle.register_crdts.specs.declared.latest.Set.{Set}
use Rattle.register_crdts.specs.declared.several.Held.{Held}
use Rattle.register_crdts.specs.Latest.{IsSetOf, id_of_key, latest_meaning}
use Rattle.register_crdts.specs.Several.{IsHeldOf, IsSeveralOf, held, several_meaning}
use Rattle.register_crdts.specs.Text.{IsText}
use Rattle.wire_core.specs.Reading.{Grammar, IsExact, IsSplit, Rules, only, nothing, chain, made, tagged, listed, max_listed, allows_each}
use Rattle.wire_core.specs.Exact.{only_exact, nothing_exact, chain_exact, made_exact, tagged_exact, listed_exact}
use Rattle.wire_core.specs.InOrder.{nothing_in_order}
use Rattle.wire_core.specs.Small.{set_key_grammar, text_grammar}
use Rattle.wire_core.specs.SmallExact.{count_listed, set_key_allowed, set_key_exact, set_key_is, text_allowed, text_exact, text_is}
use Rattle.wire_core.specs.SmallInOrder.{set_key_in_order, text_in_order}
use Rattle.wire_core.specs.Steady.{IsSteady, in_order_steady, only_steady, chain_steady, made_steady, tagged_steady, listed_steady}
use Rattle.wire_core.specs.Good.{AreGood}
use Rattle.wire_core.specs.Stands.{Tells}
use Rattle.wire_core.specs.Writes.{Writes}
use Rattle.wire_core.specs.ClocksExact.{both}
use Rattle.wire_core.specs.Rising.{AreRising, all_both, follows, follows_back, rising_again, rising_taken, comes_next}
use Rattle.wire_core.specs.Stamps.{IsEarlier, earlier_transitive, known_from, knows, knows_most, next_stamp, next_stamp_exact, next_stamp_steady}
use Rattle.wire_core.specs.Taken.{stamp_allowed, stamp_within}
use Rattle.wire_core.specs.Written.{stamp_written}

-- ---- operations: a text

text_from : (r : Rules) (t : List ℕ) → text_grammar.allows r t → IsText t
text_from r t h = let text = text_is r t h in record { short = text.0; utf8 = text.1 }

pub latest_writes : Writes latest_meaning text_grammar
latest_writes = record { each = λ r p x stamp valid. text_allowed r x valid.text.short valid.text.utf8 }

pub several_writes : Writes several_meaning text_grammar
several_writes = record { each = λ r p x stamp valid. text_allowed r x valid.text.short valid.text.utf8 }

-- each text may be set at each stamp
pub latest_tells : Tells latest_meaning text_grammar (λ _ _. true)
latest_tells = record { each = λ r p x stamp within allowed. (λ _. record { within = within; text = text_from r x allowed }, λ _. refl) }

pub several_tells : Tells several_meaning text_grammar (λ _ _. true)
several_tells = record { each = λ r p x stamp within allowed. (λ _. record { within = within; text = text_from r x allowed }, λ _. refl) }

-- ---- one text: tag 0, or tag 1, the key of the operation that set it, and the text

-- the key of an operation that the clock covers
abbrev pub known_key : Clock → Grammar Key
known_key d = only (λ _ k. covers d (id_of_key k)) set_key_grammar

abbrev pub set_of : Key × List ℕ → Set
set_of p = record { key = p.0; text = p.1 }

abbrev pub set_grammar : Clock → Grammar Set
set_grammar d = made set_of (λ s. (s.key, s.text)) (chain (known_key d) (λ _. text_grammar))

abbrev pub latest_split : Option Set → Unit {0} ⊎ Set
latest_split None = inl tt
latest_split (Some s) = inr s

abbrev pub unset : Unit {0} → Option Set
unset _ = None

abbrev pub latest_states : Clock → Grammar (Option Set)
latest_states d = tagged unset Some latest_split (nothing tt) (set_grammar d)

latest_whole : IsSplit unset Some latest_split
latest_whole = record { at_left = λ x. refl; at_right = λ y. refl; whole = elim [ None ↦ refl | Some s ↦ refl ] }

set_exact : (d : Clock) → IsExact (set_grammar d)
set_exact d = made_exact _ _ _ (chain_exact (known_key d) (λ _. text_grammar) (only_exact _ set_key_grammar set_key_exact) (λ _. text_exact)) (λ r p a. refl)

pub latest_states_exact : (d : Clock) → IsExact (latest_states d)
latest_states_exact d = tagged_exact unset Some latest_split latest_whole (nothing tt) (set_grammar d) (nothing_exact tt) (set_exact d)

set_steady : (d : Clock) → IsSteady (set_grammar d)
set_steady d = made_steady _ _ _ (chain_steady (known_key d) (λ _. text_grammar) (only_steady _ set_key_grammar (in_order_steady set_key_grammar set_key_in_order)) (λ _. in_order_steady text_grammar text_in_order))

pub latest_states_steady : (d : Clock) → IsSteady (latest_states d)
latest_states_steady d = tagged_steady unset Some latest_split (nothing tt) (set_grammar d) (in_order_steady (nothing tt) (nothing_in_order tt)) (set_steady d)

latest_taken : (r : Rules) (d : Clock) (s : Option Set) → d.n ≡ r.members → (latest_states d).allows r s → latest_meaning.good_at d s
latest_taken r d None n a = tt
latest_taken r d (Some s) n a =
    let set : IsSetOf r.members s = record { key = set_key_is r s.key a.0.0.0; text = text_from r s.text a.0.1 } in
    (subst (λ (m : ℕ). IsSetOf m s) (sym n) set, a.0.0.1)

latest_again : (r : Rules) (d : Clock) (s : Option Set) → IsClock d → d.n ≡ r.members → latest_meaning.good_at d s → (latest_states d).allows r s
latest_again r d None k n a = refl
latest_again r d (Some s) k n a =
    let set : IsSetOf r.members s = subst (λ (m : ℕ). IsSetOf m s) n a.0 in
    let few = k.most in
    (((set_key_allowed r s.key (omega (arith, n)) set.key, a.1), text_allowed r s.text set.text.short set.text.utf8), refl)

pub latest_good : AreGood latest_meaning (λ _. Unit {0}) latest_states
latest_good = record { taken = λ r d s k n a. latest_taken r d s n a; again = λ r d s k n a f. latest_again r d s k n a }

-- ---- several texts: a count, and each stamp with its text, the keys strictly rising

abbrev pub stamp_of : Held → Stamp
stamp_of h = h.stamp

abbrev pub held_of : Stamp × List ℕ → Held
held_of p = held p.0 p.1

abbrev pub held_grammar : Clock → List Held → Grammar Held
held_grammar d before = made held_of (λ h. (h.stamp, h.text)) (chain (next_stamp stamp_of d before) (λ _. text_grammar))

abbrev pub several_states : Clock → Grammar (List Held)
several_states d = listed (held_grammar d)

-- four bytes can tell the number of sets
abbrev pub several_fits : List Held → Type 0
several_fits s = length s ≤ max_listed

pub held_exact : (d : Clock) (before : List Held) → IsExact (held_grammar d before)
held_exact d before = made_exact _ _ _ (chain_exact (next_stamp stamp_of d before) (λ _. text_grammar) (next_stamp_exact stamp_of d before) (λ _. text_exact)) (λ r p a. refl)

pub several_states_exact : (d : Clock) → IsExact (several_states d)
several_states_exact d = listed_exact (held_grammar d) (held_exact d)

pub several_states_steady : (d : Clock) → IsSteady (several_states d)
several_states_steady d = listed_steady (held_grammar d) (λ before. made_steady _ _ _
    (chain_steady (next_stamp stamp_of d before) (λ _. text_grammar) (next_stamp_steady stamp_of d before) (λ _. in_order_steady text_grammar text_in_order)))

-- what each set keeps that the clock knows
abbrev IsHeldAt : ℕ → Clock → Held → Type 0
IsHeldAt n d h = IsHeldOf n h × IsKnownTo d h.stamp

held_from : (r : Rules) (d : Clock) → IsClock d → d.n ≡ r.members → (before : List Held) (h : Held) → (held_grammar d before).allows r h → IsHeldAt r.members d h
held_from r d k n before h a =
    let sides = both (comes_next stamp_of is_below (last_or None before) h.stamp) (knows d h.stamp) a.0.0.1 in
    let some = k.some in
    let most = k.most in (
      record { stamp = stamp_allowed r h.stamp (omega (arith, n)) (omega (arith, n)) a.0.0.0; within = stamp_within r h.stamp a.0.0.0; text = text_from r h.text a.0.1 },
      known_from d h.stamp sides.1,
    )

several_rises : (r : Rules) (d : Clock) → IsClock d → d.n ≡ r.members → (s : List Held) → allows_each (held_grammar d) r [] s → AreRising (IsEarlier stamp_of) s × AllByRecursion (IsHeldAt r.members d) s
several_rises r d k n s a =
    rising_taken (IsEarlier stamp_of) (earlier_transitive stamp_of) (held_grammar d) r (IsHeldAt r.members d)
    (λ before h b.
    (let sides = both (comes_next stamp_of is_below (last_or None before) h.stamp) (knows d h.stamp) b.0.0.1 in
    (follows stamp_of is_below (IsEarlier stamp_of) (λ x y e. e) (last_or None before) h sides.0, held_from r d k n before h b))) s a

-- the stamps of sets that were taken are stamps
pub helds_are_stamped : (r : Rules) (d : Clock) → IsClock d → d.n ≡ r.members → (s : List Held) → allows_each (held_grammar d) r [] s → AllByRecursion (λ h. IsStamp h.stamp) s
helds_are_stamped r d k n s a =
    let t = several_rises r d k n s a in
    all_weaker (IsHeldAt r.members d) (λ h. IsStamp h.stamp) (λ h q. q.0.stamp.stamp) s t.1

several_taken : (r : Rules) (d : Clock) (s : List Held) → IsClock d → d.n ≡ r.members → allows_each (held_grammar d) r [] s → several_meaning.good_at d s
several_taken r d s k n a =
    let t = several_rises r d k n s a in
    let several : IsSeveralOf r.members s = record { rising = t.0; sets = all_weaker (IsHeldAt r.members d) (IsHeldOf r.members) (λ h q. q.0) s t.1 } in
    (subst (λ (m : ℕ). IsSeveralOf m s) (sym n) several, all_weaker (IsHeldAt r.members d) (λ h. IsKnownTo d h.stamp) (λ h q. q.1) s t.1)

several_again : (r : Rules) (d : Clock) (s : List Held) → d.n ≡ r.members → several_meaning.good_at d s → allows_each (held_grammar d) r [] s
several_again r d s n a =
    let several : IsSeveralOf r.members s = subst (λ (m : ℕ). IsSeveralOf m s) n a.0 in
    rising_again (IsEarlier stamp_of) (earlier_transitive stamp_of) (held_grammar d) r (IsHeldAt r.members d)
    (λ before h f q.
    (let later : comes_next stamp_of is_below (last_or None before) h.stamp ≡ true = follows_back stamp_of is_below (IsEarlier stamp_of) (λ x y e. e) (last_or None before) h f in
    let test : (comes_next stamp_of is_below (last_or None before) h.stamp && knows d h.stamp) ≡ true = rw later (knows_most d h.stamp q.1.known) in
    (((stamp_written r h.stamp q.0.stamp q.0.within, test), text_allowed r h.text q.0.text.short q.0.text.utf8), refl)))
    s several.rising (all_both (IsHeldOf r.members) (λ h. IsKnownTo d h.stamp) s several.sets a.1)

pub several_good : AreGood several_meaning several_fits several_states
several_good = record {
  taken = λ r d s k n a. several_taken r d s k n a.1;
  again = λ r d s k n a f. (count_listed r (length s) f, several_again r d s n a);
}
