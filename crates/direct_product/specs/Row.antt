-- What towers of one kind in a row mean. The parts are counted from 0.
use Rattle.std.specs.Prelude.{◌≡◌, ℕ, zero, suc, ◌⊎◌, Bool, true, false, ◌&&◌, ◌==◌, if◌then◌else◌, max, List, [], ◌∷◌}
use Rattle.serde_json.specs.Data.{Data, array}
use Rattle.serde_json.specs.View.{items_of}
use Rattle.vector_clock.specs.declared.clock.Clock.{Clock}
use Rattle.vector_clock.specs.declared.stamp.Stamp.{Stamp}
use Rattle.vector_clock.specs.Stamp.{id_of}
use Rattle.crdt_laws.specs.Tower.{Meaning, IsStampOf}
use Rattle.direct_product.specs.declared.row.RowOp.{RowOp}

-- the operation x of the part i
abbrev pub at_part : {O : Type 0} → ℕ → O → RowOp O
at_part i x = record { part = i; op = x }

module _ {T S O : Type 0} (of : T → Meaning S O) where
  -- the greatest top of a part
  abbrev pub top_of : List T → ℕ
  top_of [] = 0
  top_of (t ∷ ts) = max (of t).top (top_of ts)

  -- the level of x in the part i
  abbrev pub level_at : List T → ℕ → O → ℕ
  level_at [] i x = 0
  level_at (t ∷ ts) zero x = (of t).level x
  level_at (t ∷ ts) (suc i) x = level_at ts i x

  -- there is such a part, and x is one of its operations
  abbrev pub formed_at : List T → ℕ → O → Type 0
  formed_at [] i x = ⊥
  formed_at (t ∷ ts) zero x = (of t).well_formed x
  formed_at (t ∷ ts) (suc i) x = formed_at ts i x

  -- x may stand at this stamp in the part i
  abbrev pub valid_at : List T → ℕ → Stamp → O → Type 0
  valid_at [] i p x = ⊥
  valid_at (t ∷ ts) zero p x = (of t).valid p x
  valid_at (t ∷ ts) (suc i) p x = valid_at ts i p x

  -- what x becomes in the part i when y acts on it there
  abbrev pub act_at : List T → ℕ → O → O → O
  act_at [] i y x = x
  act_at (t ∷ ts) zero y x = (of t).act y x
  act_at (t ∷ ts) (suc i) y x = act_at ts i y x

  -- the first state of each part
  abbrev pub init_all : List T → List S
  init_all [] = []
  init_all (t ∷ ts) = (of t).init ∷ init_all ts

  -- the operation x changes the state of the part i alone
  abbrev pub apply_at : List T → List S → ℕ → Stamp → O → List S
  apply_at [] ss i p x = ss
  apply_at (t ∷ ts) [] i p x = []
  apply_at (t ∷ ts) (s ∷ ss) zero p x = (of t).apply s p x ∷ ss
  apply_at (t ∷ ts) (s ∷ ss) (suc i) p x = s ∷ apply_at ts ss i p x

  -- each part settled
  abbrev pub settle_all : List T → List S → Clock → List S
  settle_all [] ss k = ss
  settle_all (t ∷ ts) [] k = []
  settle_all (t ∷ ts) (s ∷ ss) k = (of t).settle s k ∷ settle_all ts ss k

  -- each part as it is shown
  abbrev pub show_all : List T → List S → List Data
  show_all [] ss = []
  show_all (t ∷ ts) [] = []
  show_all (t ∷ ts) (s ∷ ss) = (of t).show s ∷ show_all ts ss

  -- there is a state for each part, and each is good
  abbrev pub good_all : ℕ → List T → List S → Type 0
  good_all n [] [] = Unit {0}
  good_all n [] (s ∷ ss) = ⊥
  good_all n (t ∷ ts) [] = ⊥
  good_all n (t ∷ ts) (s ∷ ss) = (of t).good n s × good_all n ts ss

  -- and each is good at the clock d
  abbrev pub good_at_all : Clock → List T → List S → Type 0
  good_at_all d [] [] = Unit {0}
  good_at_all d [] (s ∷ ss) = ⊥
  good_at_all d (t ∷ ts) [] = ⊥
  good_at_all d (t ∷ ts) (s ∷ ss) = (of t).good_at d s × good_at_all d ts ss

  -- the stamps that any part holds
  abbrev pub holds_any : List T → List S → Stamp → Type 0
  holds_any [] ss p = ⊥
  holds_any (t ∷ ts) [] p = ⊥
  holds_any (t ∷ ts) (s ∷ ss) p = (of t).holds s p ⊎ holds_any ts ss p

  -- each part is plain
  abbrev pub plain_all : List T → Bool
  plain_all [] = true
  plain_all (t ∷ ts) = (of t).plain && plain_all ts

  -- operations of different parts do not act on each other
  abbrev pub row_act : List T → RowOp O → RowOp O → RowOp O
  row_act ts y x = if y.part == x.part then at_part x.part (act_at ts x.part y.op x.op) else x

  -- a row shows the array of its parts
  abbrev pub row_meaning : List T → Meaning (List S) (RowOp O)
  row_meaning ts = record {
    top = top_of ts;
    level = λ x. level_at ts x.part x.op;
    well_formed = λ x. formed_at ts x.part x.op;
    valid = λ p x. valid_at ts x.part p x.op;
    init = init_all ts;
    apply = λ s p x. apply_at ts s x.part p x.op;
    act = row_act ts;
    settle = settle_all ts;
    show = λ s. array (items_of (show_all ts s));
    good = λ n s. good_all n ts s;
    good_at = λ d s. good_at_all d ts s;
    holds = holds_any ts;
    sparing = false;
    plain = plain_all ts;
  }

  -- an operation that was issued at this stamp may be applied to a part
  pub record MayApply (n : ℕ) (ts : List T) (ss : List S) (p : Stamp) : Type 0 where
    pub stamp : IsStampOf n p
    pub good : good_all n ts ss
    pub fresh : (r : Stamp) → holds_any ts ss r → id_of r ≡ id_of p → ⊥
