-- Which operations are left once winning resets have turned what they did not know of into nothing.
use Rattle.std.specs.Prelude.{List, [], ◌∷◌, Bool, true, false, not, ◌&&◌}
use Rattle.std.specs.List.{filter, list_any}
use Rattle.vector_clock.specs.declared.stamp.Stamp.{Stamp}
use Rattle.vector_clock.specs.Stamp.{is_before}
use Rattle.crdt_laws.specs.declared.small.Entry.{Entry}
use Rattle.crdt_laws.specs.Entry.{entry}
use Rattle.crdt_laws.specs.Tower.{Meaning}
use Rattle.semidirect_product.specs.declared.maybe.MaybeOp.{MaybeOp}
use Rattle.semidirect_product.specs.declared.maybe.MaybeOp.TheVariants.{Nothing, Real}
use Rattle.semidirect_product.specs.declared.stack.StackOp.{StackOp}
use Rattle.semidirect_product.specs.declared.stack.StackOp.TheVariants.{High, Low}
use Rattle.semidirect_product.specs.Maybe.{maybe_meaning}
use Rattle.semidirect_product.specs.Reset.{reset_action}
use Rattle.semidirect_product.specs.Stack.{stack_meaning}

-- an operation of a tower with winning resets
abbrev pub WinningOp : Type 0 → Type 0
WinningOp O = StackOp (MaybeOp O) (Unit {0})

-- what a tower with winning resets means
abbrev pub winning_meaning : {S O : Type 0} → Meaning S O → Meaning S (WinningOp O)
winning_meaning m = stack_meaning (maybe_meaning m) (reset_action m)

module _ {O : Type 0} where
  abbrev pub is_win : WinningOp O → Bool
  is_win (Low x) = false
  is_win (High y) = true

  -- whether r is a reset that is not before the operation at p
  abbrev pub touches : Stamp → Entry (WinningOp O) → Bool
  touches p r = is_win r.op && not (is_before r.stamp p)

  abbrev pub real_and : Stamp → WinningOp O → List (Entry O) → List (Entry O)
  real_and p (Low (Real x)) xs = entry p x ∷ xs
  real_and p (Low (Nothing l)) xs = xs
  real_and p (High y) xs = xs

  -- the operations of the tower, without the resets and without nothing
  abbrev pub reals_of : List (Entry (WinningOp O)) → List (Entry O)
  reals_of [] = []
  reals_of (x ∷ xs) = real_and x.stamp x.op (reals_of xs)

  -- the operations of the tower among xs that come after each reset of xs
  abbrev pub untouched : List (Entry (WinningOp O)) → List (Entry O)
  untouched xs = reals_of (filter (λ x. not (list_any (touches x.stamp) xs)) xs)
