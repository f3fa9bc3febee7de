-- A table that keeps the five laws is a lawful tower, and the laws hold exactly where no case is broken.
use Rattle.std.specs.Prelude.{◌≡◌, ℕ, ◌+◌, ◌*◌, ◌<◌, ◌≤◌}
use Rattle.std.proofs.Common.{refl, arith, inl, inr}
use Rattle.std.proofs.lemmas.Bool.{cases_lt}
use Rattle.std.proofs.lemmas.Nat.{mul-add-lt}
use Rattle.std.proofs.lemmas.List.Recursion.{max_bounds}
use Rattle.crdt_laws.specs.Tower.{IsLawful}
use Rattle.crdt_laws.proofs.Plain.{plain_lawful}
use Rattle.action_tables.specs.Table.{ActionTable, op_count, level_of, next_of, act_of, IsTable, KeepsLaws, greatest, table_meaning}

module _ (t : ActionTable) (table : IsTable t) where
  -- an operation leads from a state to a state
  pub next_low : (s o : ℕ) → s < t.states → o < op_count t → next_of t s o < t.states
  next_low s o low op =
      table.entries.next (o * t.states + s)
      (omega (arith, table.sizes.next_length, mul-add-lt o t.states s (op_count t) op low))

  -- and becomes an operation where another one acts on it
  pub act_low : (y x : ℕ) → y < op_count t → x < op_count t → act_of t y x < op_count t
  act_low y x acting acted =
      table.entries.act (y * op_count t + x)
      (omega (arith, table.sizes.act_length, mul-add-lt y (op_count t) x (op_count t) acting acted))

  -- no level is above the greatest
  level_top : (o : ℕ) → o < op_count t → level_of t o ≤ greatest t.level
  level_top o op = max_bounds greatest (λ x. x) refl (λ x xs. refl) t.level o 0 op

module _ (t : ActionTable) (table : IsTable t) (keeps : KeepsLaws t) where
  -- operations of one level act on any operation in either order: on one that is not lower they do nothing
  act_alike : (y v x : ℕ) → y < op_count t → v < op_count t → x < op_count t → level_of t y ≡ level_of t v
      → act_of t y (act_of t v x) ≡ act_of t v (act_of t y x)
  act_alike y v x acting other acted same =
      elim (cases_lt (level_of t x) (level_of t y)) [
        | inl lower ↦ keeps.act_alike y v x acting other acted same lower
        | inr not_lower ↦
            let by_v : act_of t v x ≡ x = (keeps.upward v x other acted).below (omega arith) in
            let by_y : act_of t y x ≡ x = (keeps.upward y x acting acted).below (omega arith) in
            cc
      ]

  pub table_lawful : IsLawful (table_meaning t)
  table_lawful = plain_lawful (table_meaning t) (record {
    settle = λ s k. refl;
    holds = λ s p h. h;
    valid_within = λ p x h. h.within;
    valid_well_formed = λ p x h. h.op;
    level_low = λ x h. table.levels.low x h;
    level_top = λ x h. level_top t table x h;
    level-act = λ y x h k. (keeps.upward y x h k).level;
    act_below = λ y x h k below. (keeps.upward y x h k).below below;
    well_formed-act = λ y x h k. act_low t table y x h k;
    valid-act = λ p y x _ h k. record { within = k.within; op = act_low t table y x h.issued.valid.op k.op };
    commute = λ n s p q x y w h k same. keeps.commute x y s h.valid.op k.valid.op w.good same;
    exchange = λ n s p q x y w h k below. keeps.exchange y x s k.valid.op h.valid.op w.good below;
    act-act = λ y v x h j k same. act_alike y v x h j k same;
    distribute = λ z y x h j k one two. keeps.distribute z y x h j k one two;
    good-init = λ n. table.sizes.starts;
    good-apply = λ n s p x h k. next_low t table s x h k.valid.op;
    good_at_good = λ d s h. h;
    good_at-init = λ d. table.sizes.starts;
    good_at_later = λ d e s _ _ h. h;
    good_at-apply = λ d s p x h k _ _. next_low t table s x h k.valid.op;
  })
