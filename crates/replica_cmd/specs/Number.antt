-- The operations of a document, which is a number.
use Rattle.std.specs.Prelude.{ℕ}
use Rattle.semidirect_product.specs.declared.stack.StackOp.TheVariants.{Low, High}
use Rattle.number_crdts.specs.Number.{NumberOp}
use Rattle.lab_model.specs.declared.command.Verb.{Verb}
use Rattle.lab_model.specs.declared.command.Verb.TheVariants.{Add, Mul}

-- the operation of a verb
abbrev pub number_op : Verb → ℕ → NumberOp
number_op Add amount = Low amount
number_op Mul amount = High amount
