-- Which operations are left once resets have forgotten what they knew of.
use Rattle.std.specs.Prelude.{List, [], ◌∷◌, Bool, true, false, not, ◌&&◌}
use Rattle.std.specs.List.{filter, list_any}
use Rattle.vector_clock.specs.declared.stamp.Stamp.{Stamp}
use Rattle.vector_clock.specs.Clock.{covers}
use Rattle.vector_clock.specs.Stamp.{id_of}
use Rattle.crdt_laws.specs.declared.small.Entry.{Entry}
use Rattle.crdt_laws.specs.Entry.{entry}
use Rattle.reset_products.specs.declared.observed.ObservedOp.{ObservedOp}
use Rattle.reset_products.specs.declared.observed.ObservedOp.TheVariants.{Do, Reset}

module _ {O : Type 0} where
  abbrev pub is_reset : ObservedOp O → Bool
  is_reset (Do x) = false
  is_reset Reset = true

  -- whether r is a reset that knew of the operation at p
  abbrev pub forgets : Stamp → Entry (ObservedOp O) → Bool
  forgets p r = is_reset r.op && covers r.stamp.clock (id_of p)

  abbrev pub operation_and : Stamp → ObservedOp O → List (Entry O) → List (Entry O)
  operation_and p (Do x) xs = entry p x ∷ xs
  operation_and p Reset xs = xs

  -- the operations of the tower, without the resets
  abbrev pub operations_of : List (Entry (ObservedOp O)) → List (Entry O)
  operations_of [] = []
  operations_of (x ∷ xs) = operation_and x.stamp x.op (operations_of xs)

  -- the operations of the tower among xs that no reset of xs knew of
  abbrev pub unforgotten : List (Entry (ObservedOp O)) → List (Entry O)
  unforgotten xs = operations_of (filter (λ x. not (list_any (forgets x.stamp) xs)) xs)
