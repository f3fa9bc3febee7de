-- Towers in a row are lawful where each of them is.
use Rattle.std.specs.Prelude.{◌≡◌, ◌≢◌, ℕ, zero, suc, ◌<◌, ◌≤◌, ◌⊎◌, IsTrue, ◌==◌, List, [], ◌∷◌}
use Rattle.std.proofs.Common.{ap, refl, sym, ◌∙◌, arith, inl, inr}
use Rattle.std.proofs.lemmas.Bool.{and_parts, cases_eq, cond-true, cond-false, eq-eqb, ne_eqb}
use Rattle.serde_json.specs.Data.{array}
use Rattle.serde_json.specs.View.{items_of}
use Rattle.vector_clock.specs.declared.clock.Clock.{Clock}
use Rattle.vector_clock.specs.declared.stamp.Stamp.{Stamp}
use Rattle.vector_clock.specs.Clock.{IsAtMost, covers}
use Rattle.vector_clock.specs.Stamp.{IsAfter, IsKnownTo, IsStamp, id_of, are_concurrent}
use Rattle.crdt_laws.specs.Tower.{Meaning, IsLawful, IsIssued, IsWithin, IsStampOf, Lacks, MaySwap, WasIssued}
use Rattle.direct_product.specs.declared.row.RowOp.{RowOp}
use Rattle.direct_product.specs.Row.{MayApply, act_at, apply_at, at_part, formed_at, good_all, good_at_all, holds_any, init_all, level_at, plain_all, row_act, row_meaning, settle_all, show_all, top_of, valid_at}

module _ {T S O : Type 0} (of : T → Meaning S O) where
  pub row_act-same : (ts : List T) (y x : RowOp O) → y.part ≡ x.part → row_act of ts y x ≡ at_part x.part (act_at of ts x.part y.op x.op)
  row_act-same ts y x same = cond-true (y.part == x.part) (at_part x.part (act_at of ts x.part y.op x.op)) x (eq-eqb y.part x.part same)

  pub row_act-other : (ts : List T) (y x : RowOp O) → y.part ≢ x.part → row_act of ts y x ≡ x
  row_act-other ts y x differ = cond-false (y.part == x.part) (at_part x.part (act_at of ts x.part y.op x.op)) x (ne_eqb y.part x.part differ)

  -- operations of two parts commute
  other_part : (ts : List T) (ss : List S) (i j : ℕ) (p q : Stamp) (x y : O) → i ≢ j
      → apply_at of ts (apply_at of ts ss i p x) j q y ≡ apply_at of ts (apply_at of ts ss j q y) i p x
  other_part [] ss i j p q x y differ = refl
  other_part (t ∷ ts) [] i j p q x y differ = refl
  other_part (t ∷ ts) (s ∷ ss) zero zero p q x y differ = absurd (differ refl)
  other_part (t ∷ ts) (s ∷ ss) zero (suc j) p q x y differ = refl
  other_part (t ∷ ts) (s ∷ ss) (suc i) zero p q x y differ = refl
  other_part (t ∷ ts) (s ∷ ss) (suc i) (suc j) p q x y differ =
      ap (λ z. s ∷ z) (other_part ts ss i j p q x y (λ e. differ (ap suc e)))

  head_fresh : (n : ℕ) (t : T) (ts : List T) (s : S) (ss : List S) (p : Stamp) → MayApply of n (t ∷ ts) (s ∷ ss) p → Lacks (of t) s (id_of p)
  head_fresh n t ts s ss p h = record { none = λ r held. h.fresh r (inl held) }

  tail_may : (n : ℕ) (t : T) (ts : List T) (s : S) (ss : List S) (p : Stamp) → MayApply of n (t ∷ ts) (s ∷ ss) p → MayApply of n ts ss p
  tail_may n t ts s ss p h = record { stamp = h.stamp; good = h.good.1; fresh = λ r held. h.fresh r (inr held) }

  head_swap : (n : ℕ) (t : T) (ts : List T) (s : S) (ss : List S) (p q : Stamp) → IsTrue (are_concurrent p q)
      → MayApply of n (t ∷ ts) (s ∷ ss) p → MayApply of n (t ∷ ts) (s ∷ ss) q → MaySwap (of t) n s p q
  head_swap n t ts s ss p q concurrent h k = record {
    concurrent = concurrent;
    good = h.good.0;
    first_fresh = head_fresh n t ts s ss p h;
    second_fresh = head_fresh n t ts s ss q k;
  }

module _ {T S O : Type 0} (of : T → Meaning S O) (law : (t : T) → IsLawful (of t)) where
  within_at : (ts : List T) (i : ℕ) (p : Stamp) (x : O) → valid_at of ts i p x → IsWithin p
  within_at [] i p x h = absurd h
  within_at (t ∷ ts) zero p x h = (law t).valid_within p x h
  within_at (t ∷ ts) (suc i) p x h = within_at ts i p x h

  pub formed_valid : (ts : List T) (i : ℕ) (p : Stamp) (x : O) → valid_at of ts i p x → formed_at of ts i x
  formed_valid [] i p x h = absurd h
  formed_valid (t ∷ ts) zero p x h = (law t).valid_well_formed p x h
  formed_valid (t ∷ ts) (suc i) p x h = formed_valid ts i p x h

  low_at : (ts : List T) (i : ℕ) (x : O) → formed_at of ts i x → 1 ≤ level_at of ts i x
  low_at [] i x h = absurd h
  low_at (t ∷ ts) zero x h = (law t).level_low x h
  low_at (t ∷ ts) (suc i) x h = low_at ts i x h

  top_at : (ts : List T) (i : ℕ) (x : O) → formed_at of ts i x → level_at of ts i x ≤ top_of of ts
  top_at [] i x h = absurd h
  top_at (t ∷ ts) zero x h = omega (arith, (law t).level_top x h)
  top_at (t ∷ ts) (suc i) x h = omega (arith, top_at ts i x h)

  level_act_at : (ts : List T) (i : ℕ) (y x : O) → formed_at of ts i y → formed_at of ts i x → level_at of ts i (act_at of ts i y x) ≡ level_at of ts i x
  level_act_at [] i y x h k = refl
  level_act_at (t ∷ ts) zero y x h k = (law t).level-act y x h k
  level_act_at (t ∷ ts) (suc i) y x h k = level_act_at ts i y x h k

  act_below_at : (ts : List T) (i : ℕ) (y x : O) → formed_at of ts i y → formed_at of ts i x → level_at of ts i y ≤ level_at of ts i x → act_at of ts i y x ≡ x
  act_below_at [] i y x h k below = refl
  act_below_at (t ∷ ts) zero y x h k below = (law t).act_below y x h k below
  act_below_at (t ∷ ts) (suc i) y x h k below = act_below_at ts i y x h k below

  formed_act_at : (ts : List T) (i : ℕ) (y x : O) → formed_at of ts i y → formed_at of ts i x → formed_at of ts i (act_at of ts i y x)
  formed_act_at [] i y x h k = h
  formed_act_at (t ∷ ts) zero y x h k = (law t).well_formed-act y x h k
  formed_act_at (t ∷ ts) (suc i) y x h k = formed_act_at ts i y x h k

  valid_act_at : (ts : List T) (i : ℕ) (p q : Stamp) (y x : O) → IsStamp p → IsStampOf p.clock.n q → valid_at of ts i q y → valid_at of ts i p x → valid_at of ts i p (act_at of ts i y x)
  valid_act_at [] i p q y x stamp other h k = k
  valid_act_at (t ∷ ts) zero p q y x stamp other h k = (law t).valid-act p y x stamp (record { at = q; issued = record { stamp = other; valid = h } }) k
  valid_act_at (t ∷ ts) (suc i) p q y x stamp other h k = valid_act_at ts i p q y x stamp other h k

  commute_at : (n : ℕ) (ts : List T) (ss : List S) (i : ℕ) (p q : Stamp) (x y : O) → IsTrue (are_concurrent p q) → MayApply of n ts ss p → MayApply of n ts ss q
      → valid_at of ts i p x → valid_at of ts i q y → level_at of ts i x ≡ level_at of ts i y
      → apply_at of ts (apply_at of ts ss i p x) i q y ≡ apply_at of ts (apply_at of ts ss i q y) i p x
  commute_at n [] ss i p q x y concurrent a b h k same = refl
  commute_at n (t ∷ ts) [] i p q x y concurrent a b h k same = refl
  commute_at n (t ∷ ts) (s ∷ ss) zero p q x y concurrent a b h k same =
      ap (λ z. z ∷ ss) ((law t).commute n s p q x y (head_swap of n t ts s ss p q concurrent a b)
      (record { stamp = a.stamp; valid = h }) (record { stamp = b.stamp; valid = k }) same)
  commute_at n (t ∷ ts) (s ∷ ss) (suc i) p q x y concurrent a b h k same =
      ap (λ z. s ∷ z) (commute_at n ts ss i p q x y concurrent (tail_may of n t ts s ss p a) (tail_may of n t ts s ss q b) h k same)

  exchange_at : (n : ℕ) (ts : List T) (ss : List S) (i : ℕ) (p q : Stamp) (x y : O) → IsTrue (are_concurrent p q) → MayApply of n ts ss p → MayApply of n ts ss q
      → valid_at of ts i p x → valid_at of ts i q y → level_at of ts i x < level_at of ts i y
      → apply_at of ts (apply_at of ts ss i p x) i q y ≡ apply_at of ts (apply_at of ts ss i q y) i p (act_at of ts i y x)
  exchange_at n [] ss i p q x y concurrent a b h k below = refl
  exchange_at n (t ∷ ts) [] i p q x y concurrent a b h k below = refl
  exchange_at n (t ∷ ts) (s ∷ ss) zero p q x y concurrent a b h k below =
      ap (λ z. z ∷ ss) ((law t).exchange n s p q x y (head_swap of n t ts s ss p q concurrent a b)
      (record { stamp = a.stamp; valid = h }) (record { stamp = b.stamp; valid = k }) below)
  exchange_at n (t ∷ ts) (s ∷ ss) (suc i) p q x y concurrent a b h k below =
      ap (λ z. s ∷ z) (exchange_at n ts ss i p q x y concurrent (tail_may of n t ts s ss p a) (tail_may of n t ts s ss q b) h k below)

  act_act_at : (ts : List T) (i : ℕ) (y v x : O) → formed_at of ts i y → formed_at of ts i v → formed_at of ts i x → level_at of ts i y ≡ level_at of ts i v
      → act_at of ts i y (act_at of ts i v x) ≡ act_at of ts i v (act_at of ts i y x)
  act_act_at [] i y v x h j k same = refl
  act_act_at (t ∷ ts) zero y v x h j k same = (law t).act-act y v x h j k same
  act_act_at (t ∷ ts) (suc i) y v x h j k same = act_act_at ts i y v x h j k same

  distribute_at : (ts : List T) (i : ℕ) (z y x : O) → formed_at of ts i z → formed_at of ts i y → formed_at of ts i x
      → level_at of ts i x < level_at of ts i y → level_at of ts i y < level_at of ts i z
      → act_at of ts i z (act_at of ts i y x) ≡ act_at of ts i (act_at of ts i z y) (act_at of ts i z x)
  distribute_at [] i z y x h j k one two = absurd h
  distribute_at (t ∷ ts) zero z y x h j k one two = (law t).distribute z y x h j k one two
  distribute_at (t ∷ ts) (suc i) z y x h j k one two = distribute_at ts i z y x h j k one two

  settle_apply_at : (n : ℕ) (ts : List T) (ss : List S) (i : ℕ) (k : Clock) (p : Stamp) (x : O) → MayApply of n ts ss p
      → ((r : Stamp) → holds_any of ts ss r → IsTrue (covers k (id_of r)) → IsAtMost r.clock k) → valid_at of ts i p x → IsAfter k p
      → settle_all of ts (apply_at of ts ss i p x) k ≡ apply_at of ts (settle_all of ts ss k) i p x
  settle_apply_at n [] ss i k p x a agree h after = refl
  settle_apply_at n (t ∷ ts) [] i k p x a agree h after = refl
  settle_apply_at n (t ∷ ts) (s ∷ ss) zero k p x a agree h after =
      ap (λ z. z ∷ settle_all of ts ss k) ((law t).settle-apply n s k p x a.good.0 (record { each = λ r held. agree r (inl held) })
      (record { stamp = a.stamp; valid = h }) (head_fresh of n t ts s ss p a) after)
  settle_apply_at n (t ∷ ts) (s ∷ ss) (suc i) k p x a agree h after =
      ap (λ z. (of t).settle s k ∷ z) (settle_apply_at n ts ss i k p x (tail_may of n t ts s ss p a) (λ r held. agree r (inr held)) h after)

  settle_twice : (n : ℕ) (ts : List T) (ss : List S) (k l : Clock) → good_all of n ts ss
      → ((r : Stamp) → holds_any of ts ss r → IsTrue (covers k (id_of r)) → IsAtMost r.clock k)
      → ((r : Stamp) → holds_any of ts ss r → IsTrue (covers l (id_of r)) → IsAtMost r.clock l)
      → IsAtMost k l → settle_all of ts (settle_all of ts ss k) l ≡ settle_all of ts ss l
  settle_twice n [] ss k l good first second below = refl
  settle_twice n (t ∷ ts) [] k l good first second below = refl
  settle_twice n (t ∷ ts) (s ∷ ss) k l good first second below =
      let head : (of t).settle ((of t).settle s k) l ≡ (of t).settle s l =
      (law t).settle-settle n s k l good.0 (record { each = λ r held. first r (inl held) }) (record { each = λ r held. second r (inl held) }) below in
      let tail : settle_all of ts (settle_all of ts ss k) l ≡ settle_all of ts ss l =
      settle_twice n ts ss k l good.1 (λ r held. first r (inr held)) (λ r held. second r (inr held)) below in
      cc

  settle_init : (ts : List T) (k : Clock) → settle_all of ts (init_all of ts) k ≡ init_all of ts
  settle_init [] k = refl
  settle_init (t ∷ ts) k =
      let head : (of t).settle (of t).init k ≡ (of t).init = (law t).settle-init k in
      let tail : settle_all of ts (init_all of ts) k ≡ init_all of ts = settle_init ts k in
      cc

  show_settle : (n : ℕ) (ts : List T) (ss : List S) (k : Clock) → good_all of n ts ss → show_all of ts (settle_all of ts ss k) ≡ show_all of ts ss
  show_settle n [] ss k good = refl
  show_settle n (t ∷ ts) [] k good = refl
  show_settle n (t ∷ ts) (s ∷ ss) k good =
      let head : (of t).show ((of t).settle s k) ≡ (of t).show s = (law t).show-settle n s k good.0 in
      let tail : show_all of ts (settle_all of ts ss k) ≡ show_all of ts ss = show_settle n ts ss k good.1 in
      cc

  good_init : (n : ℕ) (ts : List T) → good_all of n ts (init_all of ts)
  good_init n [] = tt
  good_init n (t ∷ ts) = ((law t).good-init n, good_init n ts)

  good_apply : (n : ℕ) (ts : List T) (ss : List S) (i : ℕ) (p : Stamp) (x : O) → MayApply of n ts ss p → valid_at of ts i p x → good_all of n ts (apply_at of ts ss i p x)
  good_apply n [] ss i p x a h = a.good
  good_apply n (t ∷ ts) [] i p x a h = a.good
  good_apply n (t ∷ ts) (s ∷ ss) zero p x a h =
      ((law t).good-apply n s p x a.good.0 (record { stamp = a.stamp; valid = h }) (head_fresh of n t ts s ss p a), a.good.1)
  good_apply n (t ∷ ts) (s ∷ ss) (suc i) p x a h = (a.good.0, good_apply n ts ss i p x (tail_may of n t ts s ss p a) h)

  good_settle : (n : ℕ) (ts : List T) (ss : List S) (k : Clock) → good_all of n ts ss → good_all of n ts (settle_all of ts ss k)
  good_settle n [] ss k good = good
  good_settle n (t ∷ ts) [] k good = good
  good_settle n (t ∷ ts) (s ∷ ss) k good = ((law t).good-settle n s k good.0, good_settle n ts ss k good.1)

  good_from_at : (d : Clock) (ts : List T) (ss : List S) → good_at_all of d ts ss → good_all of d.n ts ss
  good_from_at d [] [] h = tt
  good_from_at d [] (s ∷ ss) h = h
  good_from_at d (t ∷ ts) [] h = h
  good_from_at d (t ∷ ts) (s ∷ ss) h = ((law t).good_at_good d s h.0, good_from_at d ts ss h.1)

  good_at_init : (d : Clock) (ts : List T) → good_at_all of d ts (init_all of ts)
  good_at_init d [] = tt
  good_at_init d (t ∷ ts) = ((law t).good_at-init d, good_at_init d ts)

  good_at_later : (d e : Clock) (ts : List T) (ss : List S) → d.n ≡ e.n → IsAtMost d e → good_at_all of d ts ss → good_at_all of e ts ss
  good_at_later d e [] [] one below h = tt
  good_at_later d e [] (s ∷ ss) one below h = h
  good_at_later d e (t ∷ ts) [] one below h = h
  good_at_later d e (t ∷ ts) (s ∷ ss) one below h = ((law t).good_at_later d e s one below h.0, good_at_later d e ts ss one below h.1)

  good_at_apply : (d : Clock) (ts : List T) (ss : List S) (i : ℕ) (p : Stamp) (x : O) → good_at_all of d ts ss → MayApply of d.n ts ss p → valid_at of ts i p x
      → IsAtMost p.clock d → IsTrue (covers d (id_of p)) → good_at_all of d ts (apply_at of ts ss i p x)
  good_at_apply d [] ss i p x good a h below covered = good
  good_at_apply d (t ∷ ts) [] i p x good a h below covered = good
  good_at_apply d (t ∷ ts) (s ∷ ss) zero p x good a h below covered =
      ((law t).good_at-apply d s p x good.0 (record { stamp = a.stamp; valid = h }) (head_fresh of d.n t ts s ss p a) below covered, good.1)
  good_at_apply d (t ∷ ts) (s ∷ ss) (suc i) p x good a h below covered =
      (good.0, good_at_apply d ts ss i p x good.1 (tail_may of d.n t ts s ss p a) h below covered)

  good_at_settle : (d : Clock) (ts : List T) (ss : List S) (k : Clock) → good_at_all of d ts ss → good_at_all of d ts (settle_all of ts ss k)
  good_at_settle d [] ss k good = good
  good_at_settle d (t ∷ ts) [] k good = good
  good_at_settle d (t ∷ ts) (s ∷ ss) k good = ((law t).good_at-settle d s k good.0, good_at_settle d ts ss k good.1)

  good_at_holds : (d : Clock) (ts : List T) (ss : List S) (p : Stamp) → good_at_all of d ts ss → holds_any of ts ss p → IsKnownTo d p
  good_at_holds d [] ss p good h = absurd h
  good_at_holds d (t ∷ ts) [] p good h = absurd h
  good_at_holds d (t ∷ ts) (s ∷ ss) p good (inl h) = (law t).good_at-holds d s p good.0 h
  good_at_holds d (t ∷ ts) (s ∷ ss) p good (inr h) = good_at_holds d ts ss p good.1 h

  holds_init : (ts : List T) (p : Stamp) → holds_any of ts (init_all of ts) p → ⊥
  holds_init [] p h = h
  holds_init (t ∷ ts) p (inl h) = (law t).holds-init p h
  holds_init (t ∷ ts) p (inr h) = holds_init ts p h

  holds_apply : (ts : List T) (ss : List S) (i : ℕ) (p : Stamp) (x : O) (q : Stamp) → holds_any of ts (apply_at of ts ss i p x) q → (q ≡ p) ⊎ holds_any of ts ss q
  holds_apply [] ss i p x q h = absurd h
  holds_apply (t ∷ ts) [] i p x q h = absurd h
  holds_apply (t ∷ ts) (s ∷ ss) zero p x q (inl h) = elim ((law t).holds-apply s p x q h) [ inl e ↦ inl e | inr held ↦ inr (inl held) ]
  holds_apply (t ∷ ts) (s ∷ ss) zero p x q (inr h) = inr (inr h)
  holds_apply (t ∷ ts) (s ∷ ss) (suc i) p x q (inl h) = inr (inl h)
  holds_apply (t ∷ ts) (s ∷ ss) (suc i) p x q (inr h) = elim (holds_apply ts ss i p x q h) [ inl e ↦ inl e | inr held ↦ inr (inr held) ]

  holds_settle : (ts : List T) (ss : List S) (k : Clock) (q : Stamp) → holds_any of ts (settle_all of ts ss k) q → holds_any of ts ss q
  holds_settle [] ss k q h = absurd h
  holds_settle (t ∷ ts) [] k q h = absurd h
  holds_settle (t ∷ ts) (s ∷ ss) k q (inl h) = inl ((law t).holds-settle s k q h)
  holds_settle (t ∷ ts) (s ∷ ss) k q (inr h) = inr (holds_settle ts ss k q h)

  plain_settle : (ts : List T) (ss : List S) (k : Clock) → IsTrue (plain_all of ts) → settle_all of ts ss k ≡ ss
  plain_settle [] ss k plain = refl
  plain_settle (t ∷ ts) [] k plain = refl
  plain_settle (t ∷ ts) (s ∷ ss) k plain =
      let head : (of t).settle s k ≡ s = (law t).plain_settle s k (and_parts (of t).plain (plain_all of ts) plain).0 in
      let tail : settle_all of ts ss k ≡ ss = plain_settle ts ss k (and_parts (of t).plain (plain_all of ts) plain).1 in
      cc

  plain_holds : (ts : List T) (ss : List S) (p : Stamp) → IsTrue (plain_all of ts) → holds_any of ts ss p → ⊥
  plain_holds [] ss p plain h = h
  plain_holds (t ∷ ts) [] p plain h = h
  plain_holds (t ∷ ts) (s ∷ ss) p plain (inl h) = (law t).plain_holds s p (and_parts (of t).plain (plain_all of ts) plain).0 h
  plain_holds (t ∷ ts) (s ∷ ss) p plain (inr h) = plain_holds ts ss p (and_parts (of t).plain (plain_all of ts) plain).1 h

module _ {T S O : Type 0} (of : T → Meaning S O) (law : (t : T) → IsLawful (of t)) (ts : List T) where
  may_apply : (n : ℕ) (s : List S) (p : Stamp) → IsStampOf n p → good_all of n ts s → Lacks (row_meaning of ts) s (id_of p) → MayApply of n ts s p
  may_apply n s p stamp good fresh = record { stamp = stamp; good = good; fresh = fresh.none }

  level-act : (y x : RowOp O) → formed_at of ts y.part y.op → formed_at of ts x.part x.op
      → level_at of ts (row_act of ts y x).part (row_act of ts y x).op ≡ level_at of ts x.part x.op
  level-act y x h k = elim (cases_eq y.part x.part) [
    | inl same ↦ rw (row_act-same of ts y x same) (level_act_at of law ts x.part y.op x.op (rw same at h) k)
    | inr differ ↦ rw (row_act-other of ts y x differ) refl
  ]

  act_below : (y x : RowOp O) → formed_at of ts y.part y.op → formed_at of ts x.part x.op → level_at of ts y.part y.op ≤ level_at of ts x.part x.op → row_act of ts y x ≡ x
  act_below y x h k below = elim (cases_eq y.part x.part) [
    | inl same ↦ row_act-same of ts y x same ∙ ap (at_part x.part) (act_below_at of law ts x.part y.op x.op (rw same at h) k (rw same at below))
    | inr differ ↦ row_act-other of ts y x differ
  ]

  well_formed-act : (y x : RowOp O) → formed_at of ts y.part y.op → formed_at of ts x.part x.op → formed_at of ts (row_act of ts y x).part (row_act of ts y x).op
  well_formed-act y x h k = elim (cases_eq y.part x.part) [
    | inl same ↦ rw (row_act-same of ts y x same) (formed_act_at of law ts x.part y.op x.op (rw same at h) k)
    | inr differ ↦ rw (row_act-other of ts y x differ) k
  ]

  valid-act : (p : Stamp) (y x : RowOp O) → IsStamp p → WasIssued (row_meaning of ts) p.clock.n y → valid_at of ts x.part p x.op → valid_at of ts (row_act of ts y x).part p (row_act of ts y x).op
  valid-act p y x stamp h k = elim (cases_eq y.part x.part) [
    | inl same ↦ rw (row_act-same of ts y x same) (valid_act_at of law ts x.part p h.at y.op x.op stamp h.issued.stamp (rw same at h.issued.valid) k)
    | inr differ ↦ rw (row_act-other of ts y x differ) k
  ]

  commute : (n : ℕ) (s : List S) (p q : Stamp) (x y : RowOp O) → MaySwap (row_meaning of ts) n s p q → IsIssued (row_meaning of ts) n p x → IsIssued (row_meaning of ts) n q y
      → level_at of ts x.part x.op ≡ level_at of ts y.part y.op
      → apply_at of ts (apply_at of ts s x.part p x.op) y.part q y.op ≡ apply_at of ts (apply_at of ts s y.part q y.op) x.part p x.op
  commute n s p q x y swap h k same = elim (cases_eq x.part y.part) [
    | inl e ↦ rw e (commute_at of law n ts s y.part p q x.op y.op swap.concurrent (may_apply n s p h.stamp swap.good swap.first_fresh)
        (may_apply n s q k.stamp swap.good swap.second_fresh) (rw e at h.valid) k.valid (rw e at same))
    | inr differ ↦ other_part of ts s x.part y.part p q x.op y.op differ
  ]

  exchange : (n : ℕ) (s : List S) (p q : Stamp) (x y : RowOp O) → MaySwap (row_meaning of ts) n s p q → IsIssued (row_meaning of ts) n p x → IsIssued (row_meaning of ts) n q y
      → level_at of ts x.part x.op < level_at of ts y.part y.op
      → apply_at of ts (apply_at of ts s x.part p x.op) y.part q y.op
      ≡ apply_at of ts (apply_at of ts s y.part q y.op) (row_act of ts y x).part p (row_act of ts y x).op
  exchange n s p q x y swap h k below = elim (cases_eq y.part x.part) [
    | inl e ↦ rw (row_act-same of ts y x e, e) (exchange_at of law n ts s x.part p q x.op y.op swap.concurrent (may_apply n s p h.stamp swap.good swap.first_fresh)
        (may_apply n s q k.stamp swap.good swap.second_fresh) h.valid (rw e at k.valid) (rw e at below))
    | inr differ ↦ rw (row_act-other of ts y x differ) (other_part of ts s x.part y.part p q x.op y.op (λ e. differ (sym e)))
  ]

  -- y acts on what v made of x, in x's part
  twice : (y v x : RowOp O) → y.part ≡ x.part → v.part ≡ x.part
      → row_act of ts y (row_act of ts v x) ≡ at_part x.part (act_at of ts x.part y.op (act_at of ts x.part v.op x.op))
  twice y v x e f = ap (row_act of ts y) (row_act-same of ts v x f) ∙ row_act-same of ts y (at_part x.part (act_at of ts x.part v.op x.op)) e

  once_first : (y v x : RowOp O) → y.part ≢ x.part → v.part ≡ x.part → row_act of ts y (row_act of ts v x) ≡ row_act of ts v x
  once_first y v x d f =
      ap (row_act of ts y) (row_act-same of ts v x f) ∙ row_act-other of ts y (at_part x.part (act_at of ts x.part v.op x.op)) d ∙ sym (row_act-same of ts v x f)

  act-act : (y v x : RowOp O) → formed_at of ts y.part y.op → formed_at of ts v.part v.op → formed_at of ts x.part x.op
      → level_at of ts y.part y.op ≡ level_at of ts v.part v.op → row_act of ts y (row_act of ts v x) ≡ row_act of ts v (row_act of ts y x)
  act-act y v x h j k same = elim (cases_eq y.part x.part) [
    | inl e ↦ elim (cases_eq v.part x.part) [
      | inl f ↦ twice y v x e f ∙ ap (at_part x.part) (act_act_at of law ts x.part y.op v.op x.op (rw e at h) (rw f at j) k (rw (e, f) at same)) ∙ sym (twice v y x f e)
      | inr d ↦ ap (row_act of ts y) (row_act-other of ts v x d) ∙ sym (once_first v y x d e)
    ]
    | inr d ↦ elim (cases_eq v.part x.part) [
      | inl f ↦ once_first y v x d f ∙ sym (ap (row_act of ts v) (row_act-other of ts y x d))
      | inr g ↦ ap (row_act of ts y) (row_act-other of ts v x g) ∙ row_act-other of ts y x d
          ∙ sym (ap (row_act of ts v) (row_act-other of ts y x d) ∙ row_act-other of ts v x g)
    ]
  ]

  part-row_act : (y x : RowOp O) → (row_act of ts y x).part ≡ x.part
  part-row_act y x = elim (cases_eq y.part x.part) [
    | inl e ↦ rw (row_act-same of ts y x e) refl
    | inr d ↦ rw (row_act-other of ts y x d) refl
  ]

  all_same : (z y x : RowOp O) → y.part ≡ x.part → z.part ≡ x.part
      → row_act of ts (row_act of ts z y) (row_act of ts z x) ≡ at_part x.part (act_at of ts x.part (act_at of ts x.part z.op y.op) (act_at of ts x.part z.op x.op))
  all_same z y x e f =
      let left : row_act of ts z y ≡ at_part y.part (act_at of ts x.part z.op y.op) = row_act-same of ts z y (f ∙ sym e) ∙ ap (λ i. at_part y.part (act_at of ts i z.op y.op)) e in
      rw (left, row_act-same of ts z x f) (row_act-same of ts (at_part y.part (act_at of ts x.part z.op y.op)) (at_part x.part (act_at of ts x.part z.op x.op)) e)

  distribute : (z y x : RowOp O) → formed_at of ts z.part z.op → formed_at of ts y.part y.op → formed_at of ts x.part x.op
      → level_at of ts x.part x.op < level_at of ts y.part y.op → level_at of ts y.part y.op < level_at of ts z.part z.op
      → row_act of ts z (row_act of ts y x) ≡ row_act of ts (row_act of ts z y) (row_act of ts z x)
  distribute z y x h j k one two = elim (cases_eq y.part x.part) [
    | inl e ↦ elim (cases_eq z.part x.part) [
      | inl f ↦ twice z y x f e ∙ ap (at_part x.part) (distribute_at of law ts x.part z.op y.op x.op (rw f at h) (rw e at j) k (rw e at one) (rw (e, f) at two))
          ∙ sym (all_same z y x e f)
      | inr d ↦ once_first z y x d e
          ∙ sym (ap (λ w. row_act of ts w (row_act of ts z x)) (row_act-other of ts z y (λ g. d (g ∙ e))) ∙ ap (row_act of ts y) (row_act-other of ts z x d))
    ]
    | inr d ↦ ap (row_act of ts z) (row_act-other of ts y x d)
        ∙ sym (row_act-other of ts (row_act of ts z y) (row_act of ts z x) (λ e. d (sym (part-row_act z y) ∙ e ∙ part-row_act z x)))
  ]

  pub row_lawful : IsLawful (row_meaning of ts)
  row_lawful = record {
    valid_within = λ p x h. within_at of law ts x.part p x.op h;
    valid_well_formed = λ p x h. formed_valid of law ts x.part p x.op h;
    level_low = λ x h. low_at of law ts x.part x.op h;
    level_top = λ x h. top_at of law ts x.part x.op h;
    level-act = level-act;
    act_below = act_below;
    well_formed-act = well_formed-act;
    valid-act = valid-act;
    commute = commute;
    exchange = exchange;
    act-act = act-act;
    distribute = distribute;
    settle-apply = λ n s k p x good agree h fresh after.
        settle_apply_at of law n ts s x.part k p x.op (may_apply n s p h.stamp good fresh) agree.each h.valid after;
    settle-settle = λ n s k l good first second below. settle_twice of law n ts s k l good first.each second.each below;
    settle-init = settle_init of law ts;
    show-settle = λ n s k good. ap (λ ds. array (items_of ds)) (show_settle of law n ts s k good);
    good-init = λ n. good_init of law n ts;
    good-apply = λ n s p x good h fresh. good_apply of law n ts s x.part p x.op (may_apply n s p h.stamp good fresh) h.valid;
    good-settle = λ n s k good. good_settle of law n ts s k good;
    good_at_good = λ d s h. good_from_at of law d ts s h;
    good_at-init = λ d. good_at_init of law d ts;
    good_at_later = λ d e s one below h. good_at_later of law d e ts s one below h;
    good_at-apply = λ d s p x good h fresh below covered.
        good_at_apply of law d ts s x.part p x.op good (may_apply d.n s p h.stamp (good_from_at of law d ts s good) fresh) h.valid below covered;
    good_at-settle = λ d s k h. good_at_settle of law d ts s k h;
    good_at-holds = λ d s p good h. good_at_holds of law d ts s p good h;
    holds-init = holds_init of law ts;
    holds-apply = λ s p x q h. holds_apply of law ts s x.part p x.op q h;
    holds-settle = λ s k q h. holds_settle of law ts s k q h;
    plain_settle = λ s k plain. plain_settle of law ts s k plain;
    plain_holds = λ s p plain h. plain_holds of law ts s p plain h;
  }
