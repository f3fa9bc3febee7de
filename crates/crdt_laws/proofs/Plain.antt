-- The laws of plain towers, from those that differ from one to the next.
use Rattle.std.proofs.Common.{◌≡◌, ℕ, ◌<◌, ◌≤◌, ap, subst, sym, ◌∙◌, arith}
use Rattle.std.specs.Prelude.{IsTrue}
use Rattle.vector_clock.specs.declared.clock.Clock.{Clock}
use Rattle.vector_clock.specs.declared.stamp.Stamp.{Stamp}
use Rattle.vector_clock.specs.Clock.{IsAtMost, covers}
use Rattle.vector_clock.specs.Stamp.{IsStamp, id_of}
use Rattle.crdt_laws.specs.Tower.{IsIssued, IsLawful, IsWithin, MaySwap, Meaning, WasIssued}

-- what is left to show of a tower whose states hold no stamp and whose settling changes nothing
pub record PlainLaws {State Op : Type 0} (m : Meaning State Op) : Type 0 where
  pub settle : (s : State) (k : Clock) → m.settle s k ≡ s
  pub holds : (s : State) (p : Stamp) → m.holds s p → ⊥
  pub valid_within : (p : Stamp) (x : Op) → m.valid p x → IsWithin p
  pub valid_well_formed : (p : Stamp) (x : Op) → m.valid p x → m.well_formed x
  pub level_low : (x : Op) → m.well_formed x → 1 ≤ m.level x
  pub level_top : (x : Op) → m.well_formed x → m.level x ≤ m.top
  pub level-act : (y x : Op) → m.well_formed y → m.well_formed x → m.level (m.act y x) ≡ m.level x
  pub act_below : (y x : Op) → m.well_formed y → m.well_formed x → m.level y ≤ m.level x → m.act y x ≡ x
  pub well_formed-act : (y x : Op) → m.well_formed y → m.well_formed x → m.well_formed (m.act y x)
  pub valid-act : (p : Stamp) (y x : Op) → IsStamp p → WasIssued m p.clock.n y → m.valid p x → m.valid p (m.act y x)
  pub commute : (n : ℕ) (s : State) (p q : Stamp) (x y : Op) → MaySwap m n s p q → IsIssued m n p x → IsIssued m n q y
      → m.level x ≡ m.level y → m.apply (m.apply s p x) q y ≡ m.apply (m.apply s q y) p x
  pub exchange : (n : ℕ) (s : State) (p q : Stamp) (x y : Op) → MaySwap m n s p q → IsIssued m n p x → IsIssued m n q y
      → m.level x < m.level y → m.apply (m.apply s p x) q y ≡ m.apply (m.apply s q y) p (m.act y x)
  pub act-act : (y v x : Op) → m.well_formed y → m.well_formed v → m.well_formed x → m.level y ≡ m.level v
      → m.act y (m.act v x) ≡ m.act v (m.act y x)
  pub distribute : (z y x : Op) → m.well_formed z → m.well_formed y → m.well_formed x → m.level x < m.level y → m.level y < m.level z
      → m.act z (m.act y x) ≡ m.act (m.act z y) (m.act z x)
  pub good-init : (n : ℕ) → m.good n m.init
  pub good-apply : (n : ℕ) (s : State) (p : Stamp) (x : Op) → m.good n s → IsIssued m n p x → m.good n (m.apply s p x)
  pub good_at_good : (d : Clock) (s : State) → m.good_at d s → m.good d.n s
  pub good_at-init : (d : Clock) → m.good_at d m.init
  pub good_at_later : (d e : Clock) (s : State) → d.n ≡ e.n → IsAtMost d e → m.good_at d s → m.good_at e s
  pub good_at-apply : (d : Clock) (s : State) (p : Stamp) (x : Op) → m.good_at d s → IsIssued m d.n p x
      → IsAtMost p.clock d → IsTrue (covers d (id_of p)) → m.good_at d (m.apply s p x)

pub plain_lawful : {State Op : Type 0} (m : Meaning State Op) → PlainLaws m → IsLawful m
plain_lawful m l = record {
  valid_within = l.valid_within;
  valid_well_formed = l.valid_well_formed;
  level_low = l.level_low;
  level_top = l.level_top;
  level-act = l.level-act;
  act_below = l.act_below;
  well_formed-act = l.well_formed-act;
  valid-act = l.valid-act;
  commute = l.commute;
  exchange = l.exchange;
  act-act = l.act-act;
  distribute = l.distribute;
  settle-apply = λ n s k p x _ _ _ _ _. l.settle (m.apply s p x) k ∙ ap (λ t. m.apply t p x) (sym (l.settle s k));
  settle-settle = λ n s k j _ _ _ _. l.settle (m.settle s k) j ∙ l.settle s k ∙ sym (l.settle s j);
  settle-init = l.settle m.init;
  show-settle = λ n s k _. ap m.show (l.settle s k);
  good-init = l.good-init;
  good-apply = λ n s p x good issued _. l.good-apply n s p x good issued;
  good-settle = λ n s k h. subst (m.good n) (sym (l.settle s k)) h;
  good_at_good = l.good_at_good;
  good_at-init = l.good_at-init;
  good_at_later = l.good_at_later;
  good_at-apply = λ d s p x good issued _ below covered. l.good_at-apply d s p x good issued below covered;
  good_at-settle = λ d s k h. subst (m.good_at d) (sym (l.settle s k)) h;
  good_at-holds = λ d s p _ h. absurd (l.holds s p h);
  holds-init = l.holds m.init;
  holds-apply = λ s p x q h. absurd (l.holds (m.apply s p x) q h);
  holds-settle = λ s k q h. absurd (l.holds (m.settle s k) q h);
  plain_settle = λ s k _. l.settle s k;
  plain_holds = λ s p _ h. l.holds s p h;
}

-- what is left to show where there is moreover one level, so that no operation acts on another
pub record FlatLaws {State Op : Type 0} (m : Meaning State Op) : Type 0 where
  pub settle : (s : State) (k : Clock) → m.settle s k ≡ s
  pub holds : (s : State) (p : Stamp) → m.holds s p → ⊥
  pub top : 1 ≤ m.top
  pub level : (x : Op) → m.level x ≡ 1
  pub act : (y x : Op) → m.act y x ≡ x
  pub valid_within : (p : Stamp) (x : Op) → m.valid p x → IsWithin p
  pub valid_well_formed : (p : Stamp) (x : Op) → m.valid p x → m.well_formed x
  pub commute : (n : ℕ) (s : State) (p q : Stamp) (x y : Op) → MaySwap m n s p q → IsIssued m n p x → IsIssued m n q y
      → m.apply (m.apply s p x) q y ≡ m.apply (m.apply s q y) p x
  pub good-init : (n : ℕ) → m.good n m.init
  pub good-apply : (n : ℕ) (s : State) (p : Stamp) (x : Op) → m.good n s → IsIssued m n p x → m.good n (m.apply s p x)
  pub good_at_good : (d : Clock) (s : State) → m.good_at d s → m.good d.n s
  pub good_at-init : (d : Clock) → m.good_at d m.init
  pub good_at_later : (d e : Clock) (s : State) → d.n ≡ e.n → IsAtMost d e → m.good_at d s → m.good_at e s
  pub good_at-apply : (d : Clock) (s : State) (p : Stamp) (x : Op) → m.good_at d s → IsIssued m d.n p x
      → IsAtMost p.clock d → IsTrue (covers d (id_of p)) → m.good_at d (m.apply s p x)

pub flat_lawful : {State Op : Type 0} (m : Meaning State Op) → FlatLaws m → IsLawful m
flat_lawful m l = plain_lawful m (record {
  settle = l.settle;
  holds = l.holds;
  valid_within = l.valid_within;
  valid_well_formed = l.valid_well_formed;
  level_low = λ x _. omega (arith, l.level x);
  level_top = λ x _. omega (arith, l.level x, l.top);
  level-act = λ y x _ _. ap m.level (l.act y x);
  act_below = λ y x _ _ _. l.act y x;
  well_formed-act = λ y x _ h. subst m.well_formed (sym (l.act y x)) h;
  valid-act = λ p y x _ _ h. subst (m.valid p) (sym (l.act y x)) h;
  commute = λ n s p q x y may first second _. l.commute n s p q x y may first second;
  exchange = λ n s p q x y _ _ _ h. absurd (omega (arith, h, l.level x, l.level y));
  act-act = λ y v x _ _ _ _. l.act y (m.act v x) ∙ l.act v x ∙ sym (l.act v (m.act y x) ∙ l.act y x);
  distribute = λ z y x _ _ _ h _. absurd (omega (arith, h, l.level x, l.level y));
  good-init = l.good-init;
  good-apply = l.good-apply;
  good_at_good = l.good_at_good;
  good_at-init = l.good_at-init;
  good_at_later = l.good_at_later;
  good_at-apply = l.good_at-apply;
})
