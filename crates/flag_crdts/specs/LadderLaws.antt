-- A ladder of however many values is a lawful tower.
use Rattle.std.specs.Prelude.{◌≡◌, ℕ, ◌*◌, ◌<◌, ◌≤◌}
use Rattle.std.proofs.Common.{refl, arith}
use Rattle.std.proofs.lemmas.Bool.Decides.{nat_tests}
use Rattle.crdt_laws.specs.Tower.{IsLawful}
use Rattle.crdt_laws.proofs.Plain.{plain_lawful}
use Rattle.flag_crdts.specs.Ladder.{IsLadderSize, ladder_act, ladder_level, ladder_meaning, ladder_next}

module _ (n : ℕ) where
  pub level_top : (x : ℕ) → x < 2 * n → ladder_level n x ≤ n
  level_top x h = grind (arith, nat_tests)

  pub act_low : (y x : ℕ) → x < 2 * n → ladder_act n y x < 2 * n
  act_low y x h = grind (arith, nat_tests)

  pub level-act : (y x : ℕ) → x < 2 * n → ladder_level n (ladder_act n y x) ≡ ladder_level n x
  level-act y x h = grind (arith, nat_tests)

  pub act_below : (y x : ℕ) → ladder_level n y ≤ ladder_level n x → ladder_act n y x ≡ x
  act_below y x below = grind (arith, nat_tests)

  -- operations of one level set one value, or nothing
  pub commute : (s x y : ℕ) → x < 2 * n → y < 2 * n → ladder_level n x ≡ ladder_level n y
      → ladder_next n (ladder_next n s x) y ≡ ladder_next n (ladder_next n s y) x
  commute s x y h k same = grind (arith, nat_tests)

  pub exchange : (s x y : ℕ) → x < 2 * n → y < 2 * n → ladder_level n x < ladder_level n y
      → ladder_next n (ladder_next n s x) y ≡ ladder_next n (ladder_next n s y) (ladder_act n y x)
  exchange s x y h k below = grind (arith, nat_tests)

  pub act-act : (y v x : ℕ) → y < 2 * n → v < 2 * n → x < 2 * n → ladder_level n y ≡ ladder_level n v
      → ladder_act n y (ladder_act n v x) ≡ ladder_act n v (ladder_act n y x)
  act-act y v x h j k same = grind (arith, nat_tests)

  pub distribute : (z y x : ℕ) → z < 2 * n → y < 2 * n → x < 2 * n → ladder_level n x < ladder_level n y → ladder_level n y < ladder_level n z
      → ladder_act n z (ladder_act n y x) ≡ ladder_act n (ladder_act n z y) (ladder_act n z x)
  distribute z y x h j k one two = grind (arith, nat_tests)

  pub next_low : (s o : ℕ) → s < n → ladder_next n s o < n
  next_low s o h = grind (arith, nat_tests)

  pub ladder_lawful : IsLadderSize n → IsLawful (ladder_meaning n)
  ladder_lawful size = plain_lawful (ladder_meaning n) (record {
    settle = λ s k. refl;
    holds = λ s p h. h;
    valid_within = λ p x h. h.within;
    valid_well_formed = λ p x h. h.op;
    level_low = λ x h. omega arith;
    level_top = level_top;
    level-act = λ y x _ h. level-act y x h;
    act_below = λ y x _ _ below. act_below y x below;
    well_formed-act = λ y x _ h. act_low y x h;
    valid-act = λ p y x _ _ h. record { within = h.within; op = act_low y x h.op };
    commute = λ n s p q x y w h k same. commute s x y h.valid.op k.valid.op same;
    exchange = λ n s p q x y w h k below. exchange s x y h.valid.op k.valid.op below;
    act-act = act-act;
    distribute = distribute;
    good-init = λ _. omega (arith, size.some);
    good-apply = λ n s p x h _. next_low s x h;
    good_at_good = λ d s h. h;
    good_at-init = λ _. omega (arith, size.some);
    good_at_later = λ d e s _ _ h. h;
    good_at-apply = λ d s p x h _ _ _. next_low s x h;
  })
