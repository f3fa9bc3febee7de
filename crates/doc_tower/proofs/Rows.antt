-- A row of towers means what a row of what they were made from means.
use Rattle.std.proofs.Common.{◌≡◌, ◌⊎◌, ◌==◌, ◌&&◌, ℕ, zero, suc, false, if◌then◌else◌, List, [], ◌∷◌, ap, map, max, refl}
use Rattle.serde_json.specs.Data.{array}
use Rattle.serde_json.specs.View.{items_of}
use Rattle.vector_clock.specs.declared.clock.Clock.{Clock}
use Rattle.vector_clock.specs.declared.stamp.Stamp.{Stamp}
use Rattle.crdt_laws.specs.Tower.{Meaning}
use Rattle.direct_product.specs.declared.row.RowOp.{RowOp}
use Rattle.direct_product.specs.Row.{act_at, apply_at, at_part, formed_at, good_all, good_at_all, holds_any, init_all, level_at, plain_all, row_act, row_meaning, settle_all, show_all, top_of, valid_at}

module _ {T D S O : Type 0} (of : D → Meaning S O) (d : T → D) where
  abbrev made : T → Meaning S O
  made t = of (d t)

  top_along : (ts : List T) → top_of made ts ≡ top_of of (map d ts)
  top_along [] = refl
  top_along (t ∷ ts) = ap (max (of (d t)).top) (top_along ts)

  level_along : (ts : List T) (i : ℕ) (x : O) → level_at made ts i x ≡ level_at of (map d ts) i x
  level_along [] i x = refl
  level_along (t ∷ ts) zero x = refl
  level_along (t ∷ ts) (suc i) x = level_along ts i x

  formed_along : (ts : List T) (i : ℕ) (x : O) → formed_at made ts i x ≡ formed_at of (map d ts) i x
  formed_along [] i x = refl
  formed_along (t ∷ ts) zero x = refl
  formed_along (t ∷ ts) (suc i) x = formed_along ts i x

  valid_along : (ts : List T) (i : ℕ) (p : Stamp) (x : O) → valid_at made ts i p x ≡ valid_at of (map d ts) i p x
  valid_along [] i p x = refl
  valid_along (t ∷ ts) zero p x = refl
  valid_along (t ∷ ts) (suc i) p x = valid_along ts i p x

  init_along : (ts : List T) → init_all made ts ≡ init_all of (map d ts)
  init_along [] = refl
  init_along (t ∷ ts) = ap (λ ss. (of (d t)).init ∷ ss) (init_along ts)

  apply_along : (ts : List T) (ss : List S) (i : ℕ) (p : Stamp) (x : O) → apply_at made ts ss i p x ≡ apply_at of (map d ts) ss i p x
  apply_along [] ss i p x = refl
  apply_along (t ∷ ts) [] i p x = refl
  apply_along (t ∷ ts) (s ∷ ss) zero p x = refl
  apply_along (t ∷ ts) (s ∷ ss) (suc i) p x = ap (λ rest. s ∷ rest) (apply_along ts ss i p x)

  act_along : (ts : List T) (i : ℕ) (y x : O) → act_at made ts i y x ≡ act_at of (map d ts) i y x
  act_along [] i y x = refl
  act_along (t ∷ ts) zero y x = refl
  act_along (t ∷ ts) (suc i) y x = act_along ts i y x

  settle_along : (ts : List T) (ss : List S) (k : Clock) → settle_all made ts ss k ≡ settle_all of (map d ts) ss k
  settle_along [] ss k = refl
  settle_along (t ∷ ts) [] k = refl
  settle_along (t ∷ ts) (s ∷ ss) k = ap (λ rest. (of (d t)).settle s k ∷ rest) (settle_along ts ss k)

  show_along : (ts : List T) (ss : List S) → show_all made ts ss ≡ show_all of (map d ts) ss
  show_along [] ss = refl
  show_along (t ∷ ts) [] = refl
  show_along (t ∷ ts) (s ∷ ss) = ap (λ rest. (of (d t)).show s ∷ rest) (show_along ts ss)

  good_along : (n : ℕ) (ts : List T) (ss : List S) → good_all made n ts ss ≡ good_all of n (map d ts) ss
  good_along n [] [] = refl
  good_along n [] (s ∷ ss) = refl
  good_along n (t ∷ ts) [] = refl
  good_along n (t ∷ ts) (s ∷ ss) = ap (λ rest. (of (d t)).good n s × rest) (good_along n ts ss)

  good_at_along : (c : Clock) (ts : List T) (ss : List S) → good_at_all made c ts ss ≡ good_at_all of c (map d ts) ss
  good_at_along c [] [] = refl
  good_at_along c [] (s ∷ ss) = refl
  good_at_along c (t ∷ ts) [] = refl
  good_at_along c (t ∷ ts) (s ∷ ss) = ap (λ rest. (of (d t)).good_at c s × rest) (good_at_along c ts ss)

  holds_along : (ts : List T) (ss : List S) (p : Stamp) → holds_any made ts ss p ≡ holds_any of (map d ts) ss p
  holds_along [] ss p = refl
  holds_along (t ∷ ts) [] p = refl
  holds_along (t ∷ ts) (s ∷ ss) p = ap (λ rest. (of (d t)).holds s p ⊎ rest) (holds_along ts ss p)

  plain_along : (ts : List T) → plain_all made ts ≡ plain_all of (map d ts)
  plain_along [] = refl
  plain_along (t ∷ ts) = ap (λ b. (of (d t)).plain && b) (plain_along ts)

  row_act_along : (ts : List T) (y x : RowOp O) → row_act made ts y x ≡ row_act of (map d ts) y x
  row_act_along ts y x = ap (λ o. if y.part == x.part then at_part x.part o else x) (act_along ts x.part y.op x.op)

  pub row_along : (ts : List T) → row_meaning made ts ≡ row_meaning of (map d ts)
  row_along ts = λ i. record {
    top = top_along ts i;
    level = λ x. level_along ts x.part x.op i;
    well_formed = λ x. formed_along ts x.part x.op i;
    valid = λ p x. valid_along ts x.part p x.op i;
    init = init_along ts i;
    apply = λ s p x. apply_along ts s x.part p x.op i;
    act = λ y x. row_act_along ts y x i;
    settle = λ s k. settle_along ts s k i;
    show = λ s. array (items_of (show_along ts s i));
    good = λ n s. good_along n ts s i;
    good_at = λ c s. good_at_along c ts s i;
    holds = λ s p. holds_along ts s p i;
    sparing = false;
    plain = plain_along ts i;
  }
