-- What registers show after a set that knew of what is there.
use Rattle.std.proofs.Common.{◌≡◌, ℕ, ◌≤◌, true, IsTrue, IfSome, List, [], ◌∷◌, length, nat_le, codes, Option, None, Some, Ok, inl, inr, subst, refl, sym, ap, arith}
use Rattle.std.specs.List.{All, AllByRecursion}
use Rattle.std.proofs.lemmas.Bool.{cond_both, cond-true}
use Rattle.std.proofs.lemmas.Bool.Decides.{nat_tests}
use Rattle.std.proofs.lemmas.List.Elements.{recursion_from_All}
use Rattle.vector_clock.specs.declared.clock.Clock.{Clock}
use Rattle.vector_clock.specs.declared.stamp.Stamp.{Stamp}
use Rattle.vector_clock.specs.Clock.{covers}
use Rattle.vector_clock.specs.Sets.{beyond, place}
use Rattle.vector_clock.specs.Stamp.{IsAfter, IsKnownTo, id_of, is_below, is_less, key_of}
use Rattle.vector_clock.proofs.Causal.{covers_past}
use Rattle.vector_clock.proofs.Keys.{below_known}
use Rattle.crdt_laws.specs.Present.{apply_all}
use Rattle.crdt_laws.specs.declared.small.Entry.{Entry}
use Rattle.map_crdt.specs.Keyed.{apply_at, keyed_meaning, state_at}
use Rattle.map_crdt.specs.KeyedLaws.{at-put, at-put_other, same_or_other}
use Rattle.map_crdt.specs.declared.keyed.KeyOp.{KeyOp}
use Rattle.map_crdt.specs.declared.keyed.KeyState.{KeyState}
use Rattle.register_crdts.specs.Latest.{latest_apply, latest_meaning, set_at}
use Rattle.register_crdts.specs.Several.{held, several_apply, several_meaning}
use Rattle.register_crdts.specs.Text.{max_text}
use Rattle.register_crdts.specs.declared.latest.Set.{Set}
use Rattle.register_crdts.specs.declared.several.Held.{Held}
use Rattle.kind_edits.specs.TextEdit.{register_edit}

-- a text within the limit is set
pub text_read : (text : List ℕ) → length text ≤ max_text → register_edit (codes "set") text ≡ Ok text
text_read text short = (let test : nat_le (length text) max_text ≡ true = grind (arith, nat_tests) in rw test refl)

-- what is there has a lesser key
abbrev pub HasLesserKey : Option Set → Stamp → Type 0
HasLesserKey s p = IfSome s (λ old. IsTrue (is_less old.key (key_of p)))

pub set_state : (s : Option Set) (p : Stamp) (text : List ℕ) → HasLesserKey s p → latest_apply s p text ≡ Some (set_at p text)
set_state None p text h = refl
set_state (Some old) p text h = ap Some (cond-true (is_less old.key (key_of p)) (set_at p text) old h)

-- a stamp that is known has a lesser key
known_less : (q p : Stamp) → IsAfter q.clock p → is_less (key_of q) (key_of p) ≡ true
unfolding is_below
known_less q p h = below_known p q h

keeps_less : (s : Option Set) (q p : Stamp) (x : List ℕ) → HasLesserKey s p → IsAfter q.clock p → HasLesserKey (latest_apply s q x) p
keeps_less None q p x h after = known_less q p after
keeps_less (Some old) q p x h after =
    cond_both (is_less old.key (key_of q)) (set_at q x) old (λ (t : Set). is_less t.key (key_of p) ≡ true) (λ _. known_less q p after) (λ _. h)

all_less : (xs : List (Entry (List ℕ))) (s : Option Set) (p : Stamp) → HasLesserKey s p → AllByRecursion (λ e. IsAfter e.stamp.clock p) xs
    → HasLesserKey (apply_all latest_meaning s xs) p
all_less [] s p h all = h
all_less (e ∷ xs) s p h all = all_less xs (latest_apply s e.stamp e.op) p (keeps_less s e.stamp p e.op h all.0) all.1

pub known_sets : (xs : List (Entry (List ℕ))) (p : Stamp) → All (λ e. IsAfter e.stamp.clock p) xs → HasLesserKey (apply_all latest_meaning None xs) p
known_sets xs p all = all_less xs None p tt (recursion_from_All (λ e. IsAfter e.stamp.clock p) xs all)

-- a clock that is past all of them leaves none
none_beyond : (d : Clock) (p : Stamp) (s : List Held) → IsAfter d p → AllByRecursion (λ h. IsKnownTo d h.stamp) s → beyond (λ h. h.stamp) p.clock s ≡ []
none_beyond d p [] after all = refl
none_beyond d p (h ∷ s) after all =
    let known : covers p.clock (id_of h.stamp) ≡ true = covers_past d p.clock h.stamp after.knows all.0.covered in
    let ih : beyond (λ h. h.stamp) p.clock s ≡ [] = none_beyond d p s after all.1 in
    grind arith

pub several_state : (d : Clock) (s : List Held) (p : Stamp) (x : List ℕ) → several_meaning.good_at d s → IsAfter d p → several_apply s p x ≡ held p x ∷ []
several_state d s p x good after = ap (place (λ h. h.stamp) (held p x)) (none_beyond d p s after good.1)

-- the same of the state at a key, after operations at keys
module _ (key : List ℕ) (p : Stamp) where
  key_less : (es : List (KeyState (Option Set))) (e : Entry (KeyOp (List ℕ))) → HasLesserKey (state_at latest_meaning es key) p → IsAfter e.stamp.clock p
      → HasLesserKey (state_at latest_meaning (apply_at latest_meaning es e.op.key e.stamp e.op.op) key) p
  key_less es e h after = elim (same_or_other key e.op.key) [
    | inl same ↦
        (let own : HasLesserKey (state_at latest_meaning es e.op.key) p = subst (λ (k : List ℕ). HasLesserKey (state_at latest_meaning es k) p) same h in
        let new : HasLesserKey (latest_apply (state_at latest_meaning es e.op.key) e.stamp e.op.op) p = keeps_less (state_at latest_meaning es e.op.key) e.stamp p e.op.op own after in
        let there = at-put latest_meaning es e.op.key (latest_apply (state_at latest_meaning es e.op.key) e.stamp e.op.op) in
        subst (λ (k : List ℕ). HasLesserKey (state_at latest_meaning (apply_at latest_meaning es e.op.key e.stamp e.op.op) k) p) (sym same)
        (subst (λ (s : Option Set). HasLesserKey s p) (sym there) new))
    | inr differ ↦
        (let there = at-put_other latest_meaning es e.op.key key (latest_apply (state_at latest_meaning es e.op.key) e.stamp e.op.op) differ in
        subst (λ (s : Option Set). HasLesserKey s p) (sym there) h)
  ]

  all_keys_less : (xs : List (Entry (KeyOp (List ℕ)))) (es : List (KeyState (Option Set))) → HasLesserKey (state_at latest_meaning es key) p
      → AllByRecursion (λ e. IsAfter e.stamp.clock p) xs → HasLesserKey (state_at latest_meaning (apply_all (keyed_meaning latest_meaning) es xs) key) p
  all_keys_less [] es h all = h
  all_keys_less (e ∷ xs) es h all = all_keys_less xs (apply_at latest_meaning es e.op.key e.stamp e.op.op) (key_less es e h all.0) all.1

  pub known_puts : (xs : List (Entry (KeyOp (List ℕ)))) → All (λ e. IsAfter e.stamp.clock p) xs
      → HasLesserKey (state_at latest_meaning (apply_all (keyed_meaning latest_meaning) [] xs) key) p
  known_puts xs all = all_keys_less xs [] tt (recursion_from_All (λ e. IsAfter e.stamp.clock p) xs all)
