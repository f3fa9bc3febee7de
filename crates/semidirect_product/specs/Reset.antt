-- A reset, which wins over all that it does not know of.
use Rattle.crdt_laws.specs.Actor.{Action}
use Rattle.crdt_laws.specs.Tower.{Meaning, IsWithin}
use Rattle.semidirect_product.specs.declared.maybe.MaybeOp.{MaybeOp}
use Rattle.semidirect_product.specs.declared.maybe.MaybeOp.TheVariants.{Nothing}
use Rattle.semidirect_product.specs.Maybe.{maybe_level}

-- A reset gives the first state, and what it acts on becomes nothing, of the level that it had.
abbrev pub reset_action : {S O : Type 0} → Meaning S O → Action S (MaybeOp O) (Unit {0})
reset_action m = record {
  well_formed = λ _. Unit {0};
  valid = λ p _. IsWithin p;
  apply = λ _ _ _. m.init;
  act = λ _ x. Nothing (maybe_level m x);
  sparing = m.sparing;
}
