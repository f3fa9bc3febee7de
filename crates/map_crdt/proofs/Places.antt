-- Where a key stands among rising keys, and what is read and written there.
use Rattle.std.proofs.Common.{◌≡◌, ℕ, zero, suc, ◌+◌, ◌<◌, ◌≤◌, List, [], ◌∷◌, ◌++◌, length, get_or, Result, Ok, Err, IfOk, IfErr, Less, Equal, Greater, refl, sym, subst, ap, ◌∙◌, arith}
use Rattle.std.specs.List.{HoldsAt, insert, swap, swap_remove}
use Rattle.std.proofs.Math.ListN.{set}
use Rattle.std.specs.List.Sorted.{IsBinarySearchResult, IsPartitionPoint, IsSortedBy}
use Rattle.std.specs.Ordering.{is_lt}
use Rattle.std.proofs.lemmas.Cmp.{nat_list_cmp_total}
use Rattle.std.proofs.lemmas.List.Elements.{All-from_recursion}
use Rattle.std.proofs.lemmas.List.Sorted.{searchable_from_sorted}
use Rattle.vector_clock.specs.declared.stamp.Stamp.{Stamp}
use Rattle.crdt_laws.specs.Tower.{Meaning}
use Rattle.crdt_laws.proofs.Swaps.{length-removed, swapped_back}
use Rattle.map_crdt.specs.declared.keyed.KeyState.{KeyState}
use Rattle.map_crdt.specs.Keyed.{AreRising, apply_at, byte_order, pair, put, state_at}
use Rattle.map_crdt.specs.KeyedLaws.{at_here, at_later, equal_same, greater_less, less_greater, less_other, greater_other, put_equal, put_greater, put_less, same_equal}

module _ {S : Type 0} where
  pub rising_pair : (es : List (KeyState S)) → AreRising es → (i j : ℕ) (d : KeyState S) → i < j → j < length es → byte_order (get_or es i d).key (get_or es j d).key ≡ Less
  rising_pair [] r i j d below within = absurd (omega arith)
  rising_pair (a ∷ es) r zero zero d below within = absurd (omega arith)
  rising_pair (a ∷ es) r zero (suc j) d below within = All-from_recursion (λ e. byte_order a.key e.key ≡ Less) es r.0 j d (omega arith)
  rising_pair (a ∷ es) r (suc i) zero d below within = absurd (omega arith)
  rising_pair (a ∷ es) r (suc i) (suc j) d below within = rising_pair es r.1 i j d (omega arith) (omega arith)

  sorted_from_rising : (es : List (KeyState S)) → AreRising es → IsSortedBy (λ a b. is_lt (byte_order a.key b.key)) es
  sorted_from_rising es r i d low high =
      ap is_lt (less_greater (get_or es i d).key (get_or es (i + 1) d).key (rising_pair es r i (i + 1) d (omega arith) high))

  -- what a binary search for the key finds
  pub searched : (es : List (KeyState S)) → AreRising es → (k : List ℕ) (r : Result ℕ ℕ) → IsBinarySearchResult (λ e. byte_order e.key k) es r
      → record {
        found : IfOk r (HoldsAt (λ e. e.key ≡ k) es);
        absent : IfErr r (IsPartitionPoint (λ e. byte_order e.key k ≡ Less) (λ e. byte_order e.key k ≡ Greater) es);
      }
  searched es r k (Ok i) h = record { found = λ d. equal_same (get_or es i d).key k (h d); absent = tt }
  searched es r k (Err i) h = record {
    found = tt;
    absent = h (searchable_from_sorted nat_list_cmp_total (λ (e : KeyState S). e.key) es k (sorted_from_rising es r));
  }

  -- the keys before the place i are less, and those from it on greater
  abbrev pub IsGap : List (KeyState S) → List ℕ → ℕ → Type 0
  IsGap es k i = IsPartitionPoint (λ (e : KeyState S). byte_order e.key k ≡ Less) (λ e. byte_order e.key k ≡ Greater) es i

module _ {S O : Type 0} (m : Meaning S O) where
  -- s is the state at the key k, which stands at the place i
  pub record IsStateAt (es : List (KeyState S)) (k : List ℕ) (i : ℕ) (s : S) : Type 0 where
    pub state : state_at m es k ≡ s
    pub written : (v : S) → set es i (pair k v) ≡ put es k v

  state_there : (es : List (KeyState S)) → AreRising es → (k : List ℕ) (i : ℕ) (d : KeyState S) → i < length es → (get_or es i d).key ≡ k → IsStateAt es k i (get_or es i d).state
  state_there [] r k i d within same = absurd (omega arith)
  state_there (e ∷ es) r k zero d within same = record {
    state = at_here m e es k (sym same);
    written = λ v. sym (put_equal e es k v (subst (λ j. byte_order k j ≡ Equal) (sym same) (same_equal k)));
  }
  state_there (e ∷ es) r k (suc i) d within same =
      let ih = state_there es r.1 k i d (omega arith) same in
      let below : byte_order e.key k ≡ Less = subst (λ j. byte_order e.key j ≡ Less) same (All-from_recursion (λ f. byte_order e.key f.key ≡ Less) es r.0 i d (omega arith)) in
      let above : byte_order k e.key ≡ Greater = less_greater e.key k below in
      record {
        state = at_later m e es k (greater_other k e.key above) ∙ ih.state;
        written = λ v. ap (λ l. e ∷ l) (ih.written v) ∙ sym (put_greater e es k v above);
      }

  -- as it is read
  pub state_read : (es : List (KeyState S)) → AreRising es → (k : List ℕ) (i : ℕ) (x : KeyState S) → i < length es → HoldsAt (λ e. e.key ≡ k) es i → x ≡ get_or es i x
      → IsStateAt es k i x.state
  state_read es r k i x within here is = subst (λ z. IsStateAt es k i z.state) (sym is) (state_there es r k i x within (here x))

  -- the key k is absent, and its place is i
  pub record IsAbsent (es : List (KeyState S)) (k : List ℕ) (i : ℕ) : Type 0 where
    pub state : state_at m es k ≡ m.init
    pub written : (v : S) → insert es i (pair k v) ≡ put es k v

  pub absent_there : (es : List (KeyState S)) (k : List ℕ) (i : ℕ) → i ≤ length es → IsGap es k i → IsAbsent es k i
  absent_there [] k zero within parts = record { state = refl; written = λ v. refl }
  absent_there [] k (suc i) within parts = absurd (omega arith)
  absent_there (e ∷ es) k zero within parts =
      let below : byte_order k e.key ≡ Less = greater_less e.key k (parts.1 0 e (omega arith) (omega arith)) in
      let ih = absent_there es k zero (omega arith) (λ j d low high. absurd (omega arith), λ j d low high. parts.1 (suc j) d (omega arith) (omega arith)) in
      record {
        state = at_later m e es k (less_other k e.key below) ∙ ih.state;
        written = λ v. sym (put_less e es k v below);
      }
  absent_there (e ∷ es) k (suc i) within parts =
      let above : byte_order k e.key ≡ Greater = less_greater e.key k (parts.0 0 e (omega arith) (omega arith)) in
      let ih = absent_there es k i (omega arith) (λ j d low high. parts.0 (suc j) d (omega arith) (omega arith), λ j d low high. parts.1 (suc j) d (omega arith) (omega arith)) in
      record {
        state = at_later m e es k (greater_other k e.key above) ∙ ih.state;
        written = λ v. ap (λ l. e ∷ l) (ih.written v) ∙ sym (put_greater e es k v above);
      }

  -- what is written back at the place of a key that is present, which the last one had meanwhile
  pub written_back : (es : List (KeyState S)) (k : List ℕ) (i : ℕ) (x : KeyState S) → IsStateAt es k i x.state → x.key ≡ k → i < length es
      → (rest : List (KeyState S)) → rest ≡ swap_remove es i x → (p : Stamp) (o : O) (v : S) → v ≡ m.apply x.state p o
      → (n : ℕ) → n ≡ length rest → swap (rest ++ pair x.key v ∷ []) i n ≡ apply_at m es k p o
  written_back es k i x there key within rest is p o v applied n last =
      swapped_back (pair x.key v) es i x within rest is n (omega (arith, last, ap length is, length-removed es i x within))
      ∙ ap (λ j. set es i (pair j v)) key ∙ there.written v
      ∙ ap (put es k) (applied ∙ ap (λ s. m.apply s p o) (sym there.state))

  -- what is written at the place of a key that is absent
  pub written_new : (es : List (KeyState S)) (k : List ℕ) (i : ℕ) → IsAbsent es k i → (l : List (KeyState S)) → l ≡ es → (j : List ℕ) → j ≡ k
      → (p : Stamp) (o : O) (s v : S) → s ≡ m.init → v ≡ m.apply s p o → insert l i (pair j v) ≡ apply_at m es k p o
  written_new es k i absent l is j key p o s v first applied =
      ap (λ l. insert l i (pair j v)) is ∙ ap (λ j. insert es i (pair j v)) key ∙ absent.written v
      ∙ ap (put es k) (applied ∙ ap (λ s. m.apply s p o) (first ∙ sym absent.state))
