-- Resets act lawfully on each lawful tower with operations that do nothing.
use Rattle.std.proofs.Common.{ap, refl}
use Rattle.crdt_laws.specs.Actor.{IsLawfulAction}
use Rattle.crdt_laws.specs.Tower.{Meaning, IsLawful}
use Rattle.semidirect_product.specs.declared.maybe.MaybeOp.TheVariants.{Nothing}
use Rattle.semidirect_product.specs.Maybe.{maybe_meaning}
use Rattle.semidirect_product.specs.MaybeLaws.{maybe_lawful}
use Rattle.semidirect_product.specs.Reset.{reset_action}

pub reset_lawful : {S O : Type 0} (m : Meaning S O) → IsLawful m → IsLawfulAction (maybe_meaning m) (reset_action m)
reset_lawful m law =
    let low = maybe_lawful m law in
    record {
      valid_within = λ p y h. h;
      valid_well_formed = λ p y h. tt;
      level-act = λ y x _ _. refl;
      well_formed-act = λ y x _ h. record { low = low.level_low x h; high = low.level_top x h };
      valid-act = λ p y x _ _ h.
          let formed = low.valid_well_formed p x h in
          (low.valid_within p x h, record { low = low.level_low x formed; high = low.level_top x formed });
      commute = λ n s p q x y _ _ _. refl;
      exchange = λ n s p q x y _ _ _. refl;
      act-act = λ y v x _ _ _. refl;
      distribute = λ z y x _ h j _. ap Nothing (low.level-act y x h j);
      settle-apply = λ n s k p y _ _ _ _ _. law.settle-init k;
      good-apply = λ n s p y _ _ _. law.good-init n;
      good_at-apply = λ d s p y _ _ _ _ _. law.good_at-init d;
      holds-apply = λ s p y q h. absurd (law.holds-init q h);
    }
