-- A map of states of a tower is a lawful tower where the tower is.
use Rattle.std.specs.Prelude.{◌≡◌, ◌≢◌, ℕ, ◌<◌, ◌≤◌, ◌⊎◌, IsTrue, true, false, cond, List, [], ◌∷◌}
use Rattle.std.proofs.Common.{ap, ap₂, refl, sym, subst, ◌∙◌, inl, inr}
use Rattle.std.proofs.lemmas.Bool.{cases_Bool, cond-true, cond-false, false_from_ne_true}
use Rattle.std.proofs.lemmas.Cmp.{nat_list_cmp_total, tied_itself}
use Rattle.std.proofs.lemmas.Map.Text.{is_eq-slice_cmp}
use Rattle.std.proofs.lemmas.Slice.Eq.{bytes_eq-Decides}
use Rattle.std.specs.declared.cmp.Ordering.{Ordering}
use Rattle.std.specs.declared.cmp.Ordering.TheVariants.{Less, Equal, Greater}
use Rattle.std.specs.List.{AllByRecursion}
use Rattle.std.specs.Ordering.{is_eq, match_ordering, ordering_reverse}
use Rattle.std.specs.Str.{bytes_eq}
use Rattle.serde_json.specs.Data.{member, object}
use Rattle.vector_clock.specs.declared.clock.Clock.{Clock}
use Rattle.vector_clock.specs.declared.clock.Id.{Id}
use Rattle.vector_clock.specs.declared.stamp.Stamp.{Stamp}
use Rattle.vector_clock.specs.Clock.{IsAtMost, covers}
use Rattle.vector_clock.specs.Stamp.{IsAfter, IsKnownTo, IsStamp, id_of}
use Rattle.crdt_laws.specs.Tower.{Meaning, IsLawful, IsIssued, Agrees, Lacks, MaySwap, WasIssued}
use Rattle.map_crdt.specs.declared.keyed.KeyOp.{KeyOp}
use Rattle.map_crdt.specs.declared.keyed.KeyState.{KeyState}
use Rattle.map_crdt.specs.Keyed.{AreRising, IsKey, IsMapOf, apply_at, at_key, byte_order, holds_any, keyed_act, keyed_meaning, members, pair, put, settle_all, state_at}
use Rattle.vector_clock.proofs.Ordered.{all_weaker}

-- the order of keys

pub same_equal : (k : List ℕ) → byte_order k k ≡ Equal
same_equal k = tied_itself nat_list_cmp_total k

pub equal_same : (j k : List ℕ) → byte_order j k ≡ Equal → j ≡ k
equal_same j k e = (bytes_eq-Decides j k).0 (sym (is_eq-slice_cmp j k) ∙ ap is_eq e)

pub greater_less : (j k : List ℕ) → byte_order j k ≡ Greater → byte_order k j ≡ Less
greater_less j k e = nat_list_cmp_total.antisymm k j ∙ ap ordering_reverse e

pub less_greater : (j k : List ℕ) → byte_order j k ≡ Less → byte_order k j ≡ Greater
less_greater j k e = nat_list_cmp_total.antisymm k j ∙ ap ordering_reverse e

pub less_other : (j k : List ℕ) → byte_order j k ≡ Less → j ≢ k
less_other j k e q = (let h : byte_order k k ≡ Less = subst (λ i. byte_order i k ≡ Less) q e in let g : byte_order k k ≡ Equal = same_equal k in cc)

pub greater_other : (j k : List ℕ) → byte_order j k ≡ Greater → j ≢ k
greater_other j k e q = (let h : byte_order k k ≡ Greater = subst (λ i. byte_order i k ≡ Greater) q e in let g : byte_order k k ≡ Equal = same_equal k in cc)

pub ordered : (o : Ordering) → (o ≡ Less) ⊎ ((o ≡ Equal) ⊎ (o ≡ Greater))
ordered Less = inl refl
ordered Equal = inr (inl refl)
ordered Greater = inr (inr refl)

pub keys_eq : (j k : List ℕ) → j ≡ k → bytes_eq j k ≡ true
keys_eq j k e = (bytes_eq-Decides j k).1 e

pub keys_ne : (j k : List ℕ) → j ≢ k → bytes_eq j k ≡ false
keys_ne j k d = false_from_ne_true (bytes_eq j k) (λ e. d ((bytes_eq-Decides j k).0 e))

pub same_or_other : (j k : List ℕ) → (j ≡ k) ⊎ (j ≢ k)
same_or_other j k = elim (cases_Bool (bytes_eq j k)) [
  | inl e ↦ inl ((bytes_eq-Decides j k).0 e)
  | inr e ↦ inr (λ q. let h : bytes_eq j k ≡ true = keys_eq j k q in cc)
]

-- what is put at a key

module _ {S : Type 0} where
  pub put_less : (e : KeyState S) (es : List (KeyState S)) (k : List ℕ) (v : S) → byte_order k e.key ≡ Less → put (e ∷ es) k v ≡ pair k v ∷ e ∷ es
  put_less e es k v h = ap (λ o. match_ordering o (pair k v ∷ e ∷ es) (pair k v ∷ es) (e ∷ put es k v)) h

  pub put_equal : (e : KeyState S) (es : List (KeyState S)) (k : List ℕ) (v : S) → byte_order k e.key ≡ Equal → put (e ∷ es) k v ≡ pair k v ∷ es
  put_equal e es k v h = ap (λ o. match_ordering o (pair k v ∷ e ∷ es) (pair k v ∷ es) (e ∷ put es k v)) h

  pub put_greater : (e : KeyState S) (es : List (KeyState S)) (k : List ℕ) (v : S) → byte_order k e.key ≡ Greater → put (e ∷ es) k v ≡ e ∷ put es k v
  put_greater e es k v h = ap (λ o. match_ordering o (pair k v ∷ e ∷ es) (pair k v ∷ es) (e ∷ put es k v)) h

  -- the last one that is put at a key stays
  pub put_again : (es : List (KeyState S)) (k : List ℕ) (v w : S) → put (put es k v) k w ≡ put es k w
  put_again [] k v w = put_equal (pair k v) [] k w (same_equal k)
  put_again (e ∷ es) k v w = elim (ordered (byte_order k e.key)) [
    | inl h ↦ ap (λ l. put l k w) (put_less e es k v h) ∙ put_equal (pair k v) (e ∷ es) k w (same_equal k) ∙ sym (put_less e es k w h)
    | inr r ↦ elim r [
      | inl h ↦ ap (λ l. put l k w) (put_equal e es k v h) ∙ put_equal (pair k v) es k w (same_equal k) ∙ sym (put_equal e es k w h)
      | inr h ↦ ap (λ l. put l k w) (put_greater e es k v h) ∙ put_greater e (put es k v) k w h ∙ ap (λ l. e ∷ l) (put_again es k v w) ∙ sym (put_greater e es k w h)
    ]
  ]

  -- what is put at a lesser key than that of the first one stands first, whatever is put at a greater key
  put_first : (e : KeyState S) (es : List (KeyState S)) (k j : List ℕ) (v w : S) → byte_order k j ≡ Less → byte_order k e.key ≡ Less
      → put (put (e ∷ es) j w) k v ≡ pair k v ∷ put (e ∷ es) j w
  put_first e es k j v w less above = elim (ordered (byte_order j e.key)) [
    | inl h ↦ ap (λ l. put l k v) (put_less e es j w h) ∙ put_less (pair j w) (e ∷ es) k v less ∙ ap (λ l. pair k v ∷ l) (sym (put_less e es j w h))
    | inr r ↦ elim r [
      | inl h ↦ ap (λ l. put l k v) (put_equal e es j w h) ∙ put_less (pair j w) es k v less ∙ ap (λ l. pair k v ∷ l) (sym (put_equal e es j w h))
      | inr h ↦ ap (λ l. put l k v) (put_greater e es j w h) ∙ put_less e (put es j w) k v above ∙ ap (λ l. pair k v ∷ l) (sym (put_greater e es j w h))
    ]
  ]

  put_two : (es : List (KeyState S)) (k j : List ℕ) (v w : S) → byte_order k j ≡ Less → put (put es k v) j w ≡ put (put es j w) k v
  put_two [] k j v w less = put_greater (pair k v) [] j w (less_greater k j less) ∙ sym (put_less (pair j w) [] k v less)
  put_two (e ∷ es) k j v w less = elim (ordered (byte_order k e.key)) [
    | inl h ↦ ap (λ l. put l j w) (put_less e es k v h) ∙ put_greater (pair k v) (e ∷ es) j w (less_greater k j less) ∙ sym (put_first e es k j v w less h)
    | inr r ↦ elim r [
      | inl h ↦
          (let g : byte_order j e.key ≡ Greater = subst (λ i. byte_order j i ≡ Greater) (equal_same k e.key h) (less_greater k j less) in
          ap (λ l. put l j w) (put_equal e es k v h) ∙ put_greater (pair k v) es j w (less_greater k j less)
          ∙ sym (ap (λ l. put l k v) (put_greater e es j w g) ∙ put_equal e (put es j w) k v h))
      | inr h ↦
          (let g : byte_order j e.key ≡ Greater = less_greater e.key j (nat_list_cmp_total.trans e.key k j (greater_less k e.key h) less) in
          ap (λ l. put l j w) (put_greater e es k v h) ∙ put_greater e (put es k v) j w g ∙ ap (λ l. e ∷ l) (put_two es k j v w less)
          ∙ sym (ap (λ l. put l k v) (put_greater e es j w g) ∙ put_greater e (put es j w) k v h))
    ]
  ]

  -- what is put at two keys may be put in either order
  pub put_other : (es : List (KeyState S)) (k j : List ℕ) (v w : S) → k ≢ j → put (put es k v) j w ≡ put (put es j w) k v
  put_other es k j v w differ = elim (ordered (byte_order k j)) [
    | inl h ↦ put_two es k j v w h
    | inr r ↦ elim r [
      | inl h ↦ absurd (differ (equal_same k j h))
      | inr h ↦ sym (put_two es j k w v (greater_less k j h))
    ]
  ]

  all-put : (P : KeyState S → Type 0) (es : List (KeyState S)) (k : List ℕ) (v : S) → P (pair k v) → AllByRecursion P es → AllByRecursion P (put es k v)
  all-put P [] k v h all = (h, tt)
  all-put P (e ∷ es) k v h all = elim (byte_order k e.key) as (λ o. AllByRecursion P (match_ordering o (pair k v ∷ e ∷ es) (pair k v ∷ es) (e ∷ put es k v))) [
    | Less ↦ (h, all)
    | Equal ↦ (h, all.1)
    | Greater ↦ (all.0, all-put P es k v h all.1)
  ]

  rising-put : (es : List (KeyState S)) (k : List ℕ) (v : S) → AreRising es → AreRising (put es k v)
  rising-put [] k v r = (tt, tt)
  rising-put (e ∷ es) k v r =
      (elim (byte_order k e.key) as (λ o. byte_order k e.key ≡ o → AreRising (match_ordering o (pair k v ∷ e ∷ es) (pair k v ∷ es) (e ∷ put es k v))) [
        | Less ↦ λ h. ((h, all_weaker _ (λ f. byte_order k f.key ≡ Less) (λ f i. nat_list_cmp_total.trans k e.key f.key h i) es r.0), r)
        | Equal ↦ λ h. (all_weaker _ (λ f. byte_order k f.key ≡ Less) (λ f i. subst (λ j. byte_order j f.key ≡ Less) (sym (equal_same k e.key h)) i) es r.0, r.1)
        | Greater ↦ λ h. (all-put (λ f. byte_order e.key f.key ≡ Less) es k v (greater_less k e.key h) r.0, rising-put es k v r.1)
      ]) refl

  pub map-put : (P : S → Type 0) (es : List (KeyState S)) (k : List ℕ) (v : S) → IsMapOf P es → IsKey k → P v → IsMapOf P (put es k v)
  map-put P es k v h key good = record {
    rising = rising-put es k v h.rising;
    keys = all-put (λ e. IsKey e.key) es k v key h.keys;
    states = all-put (λ e. P e.state) es k v good h.states;
  }

-- the state at a key

module _ {S O : Type 0} (m : Meaning S O) where
  pub at_here : (e : KeyState S) (es : List (KeyState S)) (k : List ℕ) → k ≡ e.key → state_at m (e ∷ es) k ≡ e.state
  at_here e es k same = cond-true (bytes_eq k e.key) e.state (state_at m es k) (keys_eq k e.key same)

  pub at_later : (e : KeyState S) (es : List (KeyState S)) (k : List ℕ) → k ≢ e.key → state_at m (e ∷ es) k ≡ state_at m es k
  at_later e es k differ = cond-false (bytes_eq k e.key) e.state (state_at m es k) (keys_ne k e.key differ)

  -- what was put at a key is there
  pub at-put : (es : List (KeyState S)) (k : List ℕ) (v : S) → state_at m (put es k v) k ≡ v
  at-put [] k v = at_here (pair k v) [] k refl
  at-put (e ∷ es) k v = elim (ordered (byte_order k e.key)) [
    | inl h ↦ ap (λ l. state_at m l k) (put_less e es k v h) ∙ at_here (pair k v) (e ∷ es) k refl
    | inr r ↦ elim r [
      | inl h ↦ ap (λ l. state_at m l k) (put_equal e es k v h) ∙ at_here (pair k v) es k refl
      | inr h ↦ ap (λ l. state_at m l k) (put_greater e es k v h) ∙ at_later e (put es k v) k (greater_other k e.key h) ∙ at-put es k v
    ]
  ]

  -- and nothing else has changed
  pub at-put_other : (es : List (KeyState S)) (k j : List ℕ) (v : S) → j ≢ k → state_at m (put es k v) j ≡ state_at m es j
  at-put_other [] k j v differ = at_later (pair k v) [] j differ
  at-put_other (e ∷ es) k j v differ = elim (ordered (byte_order k e.key)) [
    | inl h ↦ ap (λ l. state_at m l j) (put_less e es k v h) ∙ at_later (pair k v) (e ∷ es) j differ
    | inr r ↦ elim r [
      | inl h ↦ ap (λ l. state_at m l j) (put_equal e es k v h) ∙ at_later (pair k v) es j differ ∙ sym (at_later e es j (λ q. differ (q ∙ sym (equal_same k e.key h))))
      | inr h ↦ ap (λ l. state_at m l j) (put_greater e es k v h) ∙ elim (same_or_other j e.key) [
        | inl q ↦ at_here e (put es k v) j q ∙ sym (at_here e es j q)
        | inr d ↦ at_later e (put es k v) j d ∙ at-put_other es k j v differ ∙ sym (at_later e es j d)
      ]
    ]
  ]

  pub good_at_key : (P : S → Type 0) (es : List (KeyState S)) (k : List ℕ) → P m.init → AllByRecursion (λ e. P e.state) es → P (state_at m es k)
  good_at_key P [] k first h = first
  good_at_key P (e ∷ es) k first h = elim (bytes_eq k e.key) as (λ b. P (cond b e.state (state_at m es k))) [
    | true ↦ h.0
    | false ↦ good_at_key P es k first h.1
  ]

  -- two operations on one key
  pub apply_twice : (es : List (KeyState S)) (k : List ℕ) (p q : Stamp) (x y : O)
      → apply_at m (apply_at m es k p x) k q y ≡ put es k (m.apply (m.apply (state_at m es k) p x) q y)
  apply_twice es k p q x y =
      let v = m.apply (state_at m es k) p x in
      ap (λ s. put (put es k v) k (m.apply s q y)) (at-put es k v) ∙ put_again es k v (m.apply v q y)

  -- two operations on different keys
  pub apply_both : (es : List (KeyState S)) (k j : List ℕ) (p q : Stamp) (x y : O) → k ≢ j
      → apply_at m (apply_at m es k p x) j q y ≡ apply_at m (apply_at m es j q y) k p x
  apply_both es k j p q x y differ =
      let v = m.apply (state_at m es k) p x in
      let w = m.apply (state_at m es j) q y in
      ap (λ s. put (put es k v) j (m.apply s q y)) (at-put_other es k j v (λ e. differ (sym e)))
      ∙ put_other es k j v w differ
      ∙ sym (ap (λ s. put (put es j w) k (m.apply s p x)) (at-put_other es j k w differ))

  pub act-same : (y x : KeyOp O) → y.key ≡ x.key → keyed_act m y x ≡ at_key x.key (m.act y.op x.op)
  act-same y x same = cond-true (bytes_eq y.key x.key) (at_key x.key (m.act y.op x.op)) x (keys_eq y.key x.key same)

  pub act-other : (y x : KeyOp O) → y.key ≢ x.key → keyed_act m y x ≡ x
  act-other y x differ = cond-false (bytes_eq y.key x.key) (at_key x.key (m.act y.op x.op)) x (keys_ne y.key x.key differ)

  -- an operation stays at its key
  key-act : (y x : KeyOp O) → (keyed_act m y x).key ≡ x.key
  key-act y x = elim (same_or_other y.key x.key) [
    | inl e ↦ ap (λ z. z.key) (act-same y x e)
    | inr d ↦ ap (λ z. z.key) (act-other y x d)
  ]

  -- y acts on what v made of x, at one key
  act_twice : (y v x : KeyOp O) → y.key ≡ x.key → v.key ≡ x.key → keyed_act m y (keyed_act m v x) ≡ at_key x.key (m.act y.op (m.act v.op x.op))
  act_twice y v x e f = ap (keyed_act m y) (act-same v x f) ∙ act-same y (at_key x.key (m.act v.op x.op)) e

  -- y is of another key than v and x
  act_once : (y v x : KeyOp O) → y.key ≢ x.key → keyed_act m y (keyed_act m v x) ≡ keyed_act m v x
  act_once y v x d = act-other y (keyed_act m v x) (λ e. d (e ∙ key-act v x))

module _ {S O : Type 0} (m : Meaning S O) (law : IsLawful m) where
  -- what holds of a map holds of the state at a key

  holds_at_key : (es : List (KeyState S)) (k : List ℕ) (p : Stamp) → m.holds (state_at m es k) p → holds_any m es p
  holds_at_key [] k p h = law.holds-init p h
  holds_at_key (e ∷ es) k p h = (elim (bytes_eq k e.key) as (λ b. m.holds (cond b e.state (state_at m es k)) p → m.holds e.state p ⊎ holds_any m es p) [
    | true ↦ λ i. inl i
    | false ↦ λ i. inr (holds_at_key es k p i)
  ]) h

  pub lacks : (es : List (KeyState S)) (k : List ℕ) (i : Id) → Lacks (keyed_meaning m) es i → Lacks m (state_at m es k) i
  lacks es k i h = record { none = λ p held. h.none p (holds_at_key es k p held) }

  agrees : (es : List (KeyState S)) (k : List ℕ) (c : Clock) → Agrees (keyed_meaning m) es c → Agrees m (state_at m es k) c
  agrees es k c h = record { each = λ p held. h.each p (holds_at_key es k p held) }

  may_swap : (n : ℕ) (es : List (KeyState S)) (k : List ℕ) (p q : Stamp) → MaySwap (keyed_meaning m) n es p q → MaySwap m n (state_at m es k) p q
  may_swap n es k p q h = record {
    concurrent = h.concurrent;
    good = good_at_key m (m.good n) es k (law.good-init n) h.good.states;
    first_fresh = lacks es k (id_of p) h.first_fresh;
    second_fresh = lacks es k (id_of q) h.second_fresh;
  }

  issued : (n : ℕ) (p : Stamp) (x : KeyOp O) → IsIssued (keyed_meaning m) n p x → IsIssued m n p x.op
  issued n p x h = record { stamp = h.stamp; valid = h.valid.1 }

  -- the laws

  level-act : (y x : KeyOp O) → m.well_formed y.op → m.well_formed x.op → m.level (keyed_act m y x).op ≡ m.level x.op
  level-act y x h k = elim (same_or_other y.key x.key) [
    | inl e ↦ ap (λ z. m.level z.op) (act-same m y x e) ∙ law.level-act y.op x.op h k
    | inr d ↦ ap (λ z. m.level z.op) (act-other m y x d)
  ]

  act_below : (y x : KeyOp O) → m.well_formed y.op → m.well_formed x.op → m.level y.op ≤ m.level x.op → keyed_act m y x ≡ x
  act_below y x h k below = elim (same_or_other y.key x.key) [
    | inl e ↦ act-same m y x e ∙ ap (at_key x.key) (law.act_below y.op x.op h k below)
    | inr d ↦ act-other m y x d
  ]

  well_formed-act : (y x : KeyOp O) → m.well_formed y.op → IsKey x.key × m.well_formed x.op → IsKey (keyed_act m y x).key × m.well_formed (keyed_act m y x).op
  well_formed-act y x h k = elim (same_or_other y.key x.key) [
    | inl e ↦ subst (λ z. IsKey z.key × m.well_formed z.op) (sym (act-same m y x e)) (k.0, law.well_formed-act y.op x.op h k.1)
    | inr d ↦ subst (λ z. IsKey z.key × m.well_formed z.op) (sym (act-other m y x d)) k
  ]

  valid-act : (p : Stamp) (y x : KeyOp O) → IsStamp p → WasIssued m p.clock.n y.op → IsKey x.key × m.valid p x.op → IsKey (keyed_act m y x).key × m.valid p (keyed_act m y x).op
  valid-act p y x stamp h k = elim (same_or_other y.key x.key) [
    | inl e ↦ subst (λ z. IsKey z.key × m.valid p z.op) (sym (act-same m y x e)) (k.0, law.valid-act p y.op x.op stamp h k.1)
    | inr d ↦ subst (λ z. IsKey z.key × m.valid p z.op) (sym (act-other m y x d)) k
  ]

  commute : (n : ℕ) (es : List (KeyState S)) (p q : Stamp) (x y : KeyOp O) → MaySwap (keyed_meaning m) n es p q
      → IsIssued (keyed_meaning m) n p x → IsIssued (keyed_meaning m) n q y → m.level x.op ≡ m.level y.op
      → apply_at m (apply_at m es x.key p x.op) y.key q y.op ≡ apply_at m (apply_at m es y.key q y.op) x.key p x.op
  commute n es p q x y swap h k same = elim (same_or_other x.key y.key) [
    | inl e ↦ subst (λ j. apply_at m (apply_at m es x.key p x.op) j q y.op ≡ apply_at m (apply_at m es j q y.op) x.key p x.op) e
        (apply_twice m es x.key p q x.op y.op
        ∙ ap (put es x.key) (law.commute n (state_at m es x.key) p q x.op y.op (may_swap n es x.key p q swap) (issued n p x h) (issued n q y k) same)
        ∙ sym (apply_twice m es x.key q p y.op x.op))
    | inr d ↦ apply_both m es x.key y.key p q x.op y.op d
  ]

  exchange : (n : ℕ) (es : List (KeyState S)) (p q : Stamp) (x y : KeyOp O) → MaySwap (keyed_meaning m) n es p q
      → IsIssued (keyed_meaning m) n p x → IsIssued (keyed_meaning m) n q y → m.level x.op < m.level y.op
      → apply_at m (apply_at m es x.key p x.op) y.key q y.op ≡ apply_at m (apply_at m es y.key q y.op) (keyed_act m y x).key p (keyed_act m y x).op
  exchange n es p q x y swap h k below = elim (same_or_other x.key y.key) [
    | inl e ↦
        subst (λ j. apply_at m (apply_at m es x.key p x.op) j q y.op ≡ apply_at m (apply_at m es j q y.op) x.key p (m.act y.op x.op)) e
        (apply_twice m es x.key p q x.op y.op
        ∙ ap (put es x.key) (law.exchange n (state_at m es x.key) p q x.op y.op (may_swap n es x.key p q swap) (issued n p x h) (issued n q y k) below)
        ∙ sym (apply_twice m es x.key q p y.op (m.act y.op x.op)))
        ∙ sym (ap (λ z. apply_at m (apply_at m es y.key q y.op) z.key p z.op) (act-same m y x (sym e)))
    | inr d ↦
        apply_both m es x.key y.key p q x.op y.op d
        ∙ sym (ap (λ z. apply_at m (apply_at m es y.key q y.op) z.key p z.op) (act-other m y x (λ e. d (sym e))))
  ]

  act-act : (y v x : KeyOp O) → m.well_formed y.op → m.well_formed v.op → m.well_formed x.op → m.level y.op ≡ m.level v.op
      → keyed_act m y (keyed_act m v x) ≡ keyed_act m v (keyed_act m y x)
  act-act y v x h j k same = elim (same_or_other y.key x.key) [
    | inl e ↦ elim (same_or_other v.key x.key) [
      | inl f ↦ act_twice m y v x e f ∙ ap (at_key x.key) (law.act-act y.op v.op x.op h j k same) ∙ sym (act_twice m v y x f e)
      | inr d ↦ ap (keyed_act m y) (act-other m v x d) ∙ sym (act_once m v y x d)
    ]
    | inr d ↦ act_once m y v x d ∙ ap (keyed_act m v) (sym (act-other m y x d))
  ]

  distribute : (z y x : KeyOp O) → m.well_formed z.op → m.well_formed y.op → m.well_formed x.op → m.level x.op < m.level y.op → m.level y.op < m.level z.op
      → keyed_act m z (keyed_act m y x) ≡ keyed_act m (keyed_act m z y) (keyed_act m z x)
  distribute z y x h j k one two = elim (same_or_other y.key x.key) [
    | inl e ↦ elim (same_or_other z.key x.key) [
      | inl f ↦
          (let left : keyed_act m z y ≡ at_key y.key (m.act z.op y.op) = act-same m z y (f ∙ sym e) in
          act_twice m z y x f e ∙ ap (at_key x.key) (law.distribute z.op y.op x.op h j k one two)
          ∙ sym (ap₂ (keyed_act m) left (act-same m z x f) ∙ act-same m (at_key y.key (m.act z.op y.op)) (at_key x.key (m.act z.op x.op)) e))
      | inr d ↦ act_once m z y x d ∙ sym (ap₂ (keyed_act m) (act-other m z y (λ g. d (g ∙ e))) (act-other m z x d))
    ]
    | inr d ↦ ap (keyed_act m z) (act-other m y x d)
        ∙ sym (act-other m (keyed_act m z y) (keyed_act m z x) (λ e. d (sym (key-act m z y) ∙ e ∙ key-act m z x)))
  ]

  -- settling

  settle-at : (es : List (KeyState S)) (c : Clock) (k : List ℕ) → state_at m (settle_all m es c) k ≡ m.settle (state_at m es k) c
  settle-at [] c k = sym (law.settle-init c)
  settle-at (e ∷ es) c k =
      let ih : state_at m (settle_all m es c) k ≡ m.settle (state_at m es k) c = settle-at es c k in
      elim (bytes_eq k e.key) as (λ b. cond b (m.settle e.state c) (state_at m (settle_all m es c) k) ≡ m.settle (cond b e.state (state_at m es k)) c) [
        | true ↦ refl
        | false ↦ ih
      ]

  settle-put : (es : List (KeyState S)) (c : Clock) (k : List ℕ) (v : S) → settle_all m (put es k v) c ≡ put (settle_all m es c) k (m.settle v c)
  settle-put [] c k v = refl
  settle-put (e ∷ es) c k v =
      let ih : settle_all m (put es k v) c ≡ put (settle_all m es c) k (m.settle v c) = settle-put es c k v in
      let f = pair e.key (m.settle e.state c) in
      elim (byte_order k e.key) as (λ o. settle_all m (match_ordering o (pair k v ∷ e ∷ es) (pair k v ∷ es) (e ∷ put es k v)) c
      ≡ match_ordering o (pair k (m.settle v c) ∷ f ∷ settle_all m es c) (pair k (m.settle v c) ∷ settle_all m es c) (f ∷ put (settle_all m es c) k (m.settle v c))) [
        | Less ↦ refl
        | Equal ↦ refl
        | Greater ↦ ap (λ (l : List (KeyState S)). f ∷ l) ih
      ]

  settle-apply : (n : ℕ) (es : List (KeyState S)) (c : Clock) (p : Stamp) (x : KeyOp O) → IsMapOf (m.good n) es → Agrees (keyed_meaning m) es c
      → IsIssued (keyed_meaning m) n p x → Lacks (keyed_meaning m) es (id_of p) → IsAfter c p
      → settle_all m (apply_at m es x.key p x.op) c ≡ apply_at m (settle_all m es c) x.key p x.op
  settle-apply n es c p x good agree h fresh after =
      settle-put es c x.key (m.apply (state_at m es x.key) p x.op)
      ∙ ap (put (settle_all m es c) x.key) (law.settle-apply n (state_at m es x.key) c p x.op (good_at_key m (m.good n) es x.key (law.good-init n) good.states)
      (agrees es x.key c agree) (issued n p x h) (lacks es x.key (id_of p) fresh) after
      ∙ ap (λ s. m.apply s p x.op) (sym (settle-at es c x.key)))

  settle_twice : (n : ℕ) (es : List (KeyState S)) (c d : Clock) → AllByRecursion (λ e. m.good n e.state) es
      → ((p : Stamp) → holds_any m es p → IsTrue (covers c (id_of p)) → IsAtMost p.clock c)
      → ((p : Stamp) → holds_any m es p → IsTrue (covers d (id_of p)) → IsAtMost p.clock d)
      → IsAtMost c d → settle_all m (settle_all m es c) d ≡ settle_all m es d
  settle_twice n [] c d good first second below = refl
  settle_twice n (e ∷ es) c d good first second below =
      ap₂ (λ (s : S) (l : List (KeyState S)). pair e.key s ∷ l)
      (law.settle-settle n e.state c d good.0 (record { each = λ p held. first p (inl held) }) (record { each = λ p held. second p (inl held) }) below)
      (settle_twice n es c d good.1 (λ p held. first p (inr held)) (λ p held. second p (inr held)) below)

  show_settle : (n : ℕ) (es : List (KeyState S)) (c : Clock) → AllByRecursion (λ e. m.good n e.state) es → members m (settle_all m es c) ≡ members m es
  show_settle n [] c good = refl
  show_settle n (e ∷ es) c good = ap₂ (member e.key) (law.show-settle n e.state c good.0) (show_settle n es c good.1)

  settled_above : (k : List ℕ) (es : List (KeyState S)) (c : Clock) → AllByRecursion (λ f. byte_order k f.key ≡ Less) es → AllByRecursion (λ f. byte_order k f.key ≡ Less) (settle_all m es c)
  settled_above k [] c h = tt
  settled_above k (e ∷ es) c h = (h.0, settled_above k es c h.1)

  settled_rising : (es : List (KeyState S)) (c : Clock) → AreRising es → AreRising (settle_all m es c)
  settled_rising [] c r = tt
  settled_rising (e ∷ es) c r = (settled_above e.key es c r.0, settled_rising es c r.1)

  settled_keys : (es : List (KeyState S)) (c : Clock) → AllByRecursion (λ e. IsKey e.key) es → AllByRecursion (λ e. IsKey e.key) (settle_all m es c)
  settled_keys [] c h = tt
  settled_keys (e ∷ es) c h = (h.0, settled_keys es c h.1)

  settled_states : (P : S → Type 0) (es : List (KeyState S)) (c : Clock) → ((s : S) → P s → P (m.settle s c)) → AllByRecursion (λ e. P e.state) es
      → AllByRecursion (λ e. P e.state) (settle_all m es c)
  settled_states P [] c keeps h = tt
  settled_states P (e ∷ es) c keeps h = (keeps e.state h.0, settled_states P es c keeps h.1)

  good_settled : (P : S → Type 0) (es : List (KeyState S)) (c : Clock) → ((s : S) → P s → P (m.settle s c)) → IsMapOf P es → IsMapOf P (settle_all m es c)
  good_settled P es c keeps h = record {
    rising = settled_rising es c h.rising;
    keys = settled_keys es c h.keys;
    states = settled_states P es c keeps h.states;
  }

  -- good states and held stamps

  weaker : (P Q : S → Type 0) (es : List (KeyState S)) → ((s : S) → P s → Q s) → IsMapOf P es → IsMapOf Q es
  weaker P Q es gives h = record {
    rising = h.rising;
    keys = h.keys;
    states = all_weaker (λ e. P e.state) (λ e. Q e.state) (λ e. gives e.state) es h.states;
  }

  good_apply : (n : ℕ) (es : List (KeyState S)) (p : Stamp) (x : KeyOp O) → IsMapOf (m.good n) es → IsIssued (keyed_meaning m) n p x
      → Lacks (keyed_meaning m) es (id_of p) → IsMapOf (m.good n) (apply_at m es x.key p x.op)
  good_apply n es p x good h fresh =
      let before : m.good n (state_at m es x.key) = good_at_key m (m.good n) es x.key (law.good-init n) good.states in
      map-put (m.good n) es x.key (m.apply (state_at m es x.key) p x.op) good h.valid.0
      (law.good-apply n (state_at m es x.key) p x.op before (issued n p x h) (lacks es x.key (id_of p) fresh))

  good_at_apply : (d : Clock) (es : List (KeyState S)) (p : Stamp) (x : KeyOp O) → IsMapOf (m.good_at d) es → IsIssued (keyed_meaning m) d.n p x
      → Lacks (keyed_meaning m) es (id_of p) → IsAtMost p.clock d → IsTrue (covers d (id_of p)) → IsMapOf (m.good_at d) (apply_at m es x.key p x.op)
  good_at_apply d es p x good h fresh below covered =
      let before : m.good_at d (state_at m es x.key) = good_at_key m (m.good_at d) es x.key (law.good_at-init d) good.states in
      map-put (m.good_at d) es x.key (m.apply (state_at m es x.key) p x.op) good h.valid.0
      (law.good_at-apply d (state_at m es x.key) p x.op before (issued d.n p x h) (lacks es x.key (id_of p) fresh) below covered)

  good_at_holds : (d : Clock) (es : List (KeyState S)) (p : Stamp) → AllByRecursion (λ e. m.good_at d e.state) es → holds_any m es p → IsKnownTo d p
  good_at_holds d [] p good h = absurd h
  good_at_holds d (e ∷ es) p good h = elim h [ inl a ↦ law.good_at-holds d e.state p good.0 a | inr b ↦ good_at_holds d es p good.1 b ]

  holds_put : (es : List (KeyState S)) (k : List ℕ) (v : S) (q : Stamp) → holds_any m (put es k v) q → m.holds v q ⊎ holds_any m es q
  holds_put [] k v q h = h
  holds_put (e ∷ es) k v q h =
      (elim (byte_order k e.key) as (λ o. holds_any m (match_ordering o (pair k v ∷ e ∷ es) (pair k v ∷ es) (e ∷ put es k v)) q → m.holds v q ⊎ holds_any m (e ∷ es) q) [
        | Less ↦ λ i. i
        | Equal ↦ λ i. elim i [ inl a ↦ inl a | inr b ↦ inr (inr b) ]
        | Greater ↦ λ i. elim i [
          | inl a ↦ inr (inl a)
          | inr b ↦ elim (holds_put es k v q b) [ inl a ↦ inl a | inr c ↦ inr (inr c) ]
        ]
      ]) h

  holds_apply : (es : List (KeyState S)) (p : Stamp) (x : KeyOp O) (q : Stamp) → holds_any m (apply_at m es x.key p x.op) q → (q ≡ p) ⊎ holds_any m es q
  holds_apply es p x q h = elim (holds_put es x.key (m.apply (state_at m es x.key) p x.op) q h) [
    | inl a ↦ elim (law.holds-apply (state_at m es x.key) p x.op q a) [ inl e ↦ inl e | inr b ↦ inr (holds_at_key es x.key q b) ]
    | inr b ↦ inr b
  ]

  holds_settle : (es : List (KeyState S)) (c : Clock) (q : Stamp) → holds_any m (settle_all m es c) q → holds_any m es q
  holds_settle [] c q h = absurd h
  holds_settle (e ∷ es) c q h = elim h [ inl a ↦ inl (law.holds-settle e.state c q a) | inr b ↦ inr (holds_settle es c q b) ]

  plain_settle : (es : List (KeyState S)) (c : Clock) → IsTrue m.plain → settle_all m es c ≡ es
  plain_settle [] c plain = refl
  plain_settle (e ∷ es) c plain =
      ap₂ (λ (s : S) (l : List (KeyState S)). pair e.key s ∷ l) (law.plain_settle e.state c plain) (plain_settle es c plain)

  plain_holds : (es : List (KeyState S)) (p : Stamp) → IsTrue m.plain → holds_any m es p → ⊥
  plain_holds [] p plain h = h
  plain_holds (e ∷ es) p plain h = elim h [ inl a ↦ law.plain_holds e.state p plain a | inr b ↦ plain_holds es p plain b ]

  pub keyed_lawful : IsLawful (keyed_meaning m)
  keyed_lawful = record {
    valid_within = λ p x h. law.valid_within p x.op h.1;
    valid_well_formed = λ p x h. (h.0, law.valid_well_formed p x.op h.1);
    level_low = λ x h. law.level_low x.op h.1;
    level_top = λ x h. law.level_top x.op h.1;
    level-act = λ y x h k. level-act y x h.1 k.1;
    act_below = λ y x h k below. act_below y x h.1 k.1 below;
    well_formed-act = λ y x h k. well_formed-act y x h.1 k;
    valid-act = λ p y x stamp h k. valid-act p y x stamp (record { at = h.at; issued = issued p.clock.n h.at y h.issued }) k;
    commute = commute;
    exchange = exchange;
    act-act = λ y v x h j k same. act-act y v x h.1 j.1 k.1 same;
    distribute = λ z y x h j k one two. distribute z y x h.1 j.1 k.1 one two;
    settle-apply = settle-apply;
    settle-settle = λ n es c d good first second below. settle_twice n es c d good.states first.each second.each below;
    settle-init = λ c. refl;
    show-settle = λ n es c good. ap object (show_settle n es c good.states);
    good-init = λ n. record { rising = tt; keys = tt; states = tt };
    good-apply = good_apply;
    good-settle = λ n es c good. good_settled (m.good n) es c (λ s h. law.good-settle n s c h) good;
    good_at_good = λ d es h. weaker (m.good_at d) (m.good d.n) es (law.good_at_good d) h;
    good_at-init = λ d. record { rising = tt; keys = tt; states = tt };
    good_at_later = λ d e es one below h. weaker (m.good_at d) (m.good_at e) es (λ s k. law.good_at_later d e s one below k) h;
    good_at-apply = good_at_apply;
    good_at-settle = λ d es c h. good_settled (m.good_at d) es c (λ s k. law.good_at-settle d s c k) h;
    good_at-holds = λ d es p good h. good_at_holds d es p good.states h;
    holds-init = λ p h. h;
    holds-apply = holds_apply;
    holds-settle = holds_settle;
    plain_settle = plain_settle;
    plain_holds = plain_holds;
  }
