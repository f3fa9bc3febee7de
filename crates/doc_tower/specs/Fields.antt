-- What the fields of a document mean as towers: each is a kind, without a reset, with a winning one, or with an observed one.
use Rattle.crdt_laws.specs.Tower.{Meaning}
use Rattle.reset_products.specs.declared.observed.ObservedOp.{ObservedOp}
use Rattle.reset_products.specs.Observed.{Logged, observed_meaning}
use Rattle.reset_products.specs.Untouched.{WinningOp, winning_meaning}
use Rattle.doc_schema.specs.declared.kind.Field.{Field}
use Rattle.doc_schema.specs.declared.kind.Reset.{Reset}
use Rattle.doc_schema.specs.declared.kind.Reset.TheVariants.{Never, Winning, Observed}
use Rattle.doc_tower.specs.declared.either.Either.{Either}
use Rattle.doc_tower.specs.Either.{left_meaning, right_meaning}
use Rattle.doc_tower.specs.declared.kinds.KindOp.{KindOp}
use Rattle.doc_tower.specs.declared.kinds.KindState.{KindState}
use Rattle.doc_tower.specs.Kinds.{kind_meaning}

abbrev pub FieldState : Type 0
FieldState = Either KindState (Either KindState (Logged KindState KindOp))

abbrev pub FieldOp : Type 0
FieldOp = Either KindOp (Either (WinningOp KindOp) (ObservedOp KindOp))

-- a tower with this reset
abbrev pub reset_meaning : Reset → Meaning KindState KindOp → Meaning FieldState FieldOp
reset_meaning Never m = left_meaning m
reset_meaning Winning m = right_meaning (left_meaning (winning_meaning m))
reset_meaning Observed m = right_meaning (right_meaning (observed_meaning m))

abbrev pub field_meaning : Field → Meaning FieldState FieldOp
field_meaning f = reset_meaning f.reset (kind_meaning f.kind)
