-- Each field is a lawful tower, whatever its reset, since its kind is lawful and plain.
use Rattle.std.specs.Prelude.{IsTrue}
use Rattle.crdt_laws.specs.Tower.{Meaning, IsLawful}
use Rattle.semidirect_product.specs.Maybe.{maybe_meaning}
use Rattle.semidirect_product.specs.MaybeLaws.{maybe_lawful}
use Rattle.semidirect_product.specs.Reset.{reset_action}
use Rattle.semidirect_product.specs.ResetLaws.{reset_lawful}
use Rattle.semidirect_product.specs.StackLaws.{stack_lawful}
use Rattle.reset_products.specs.ObservedLaws.{observed_lawful}
use Rattle.reset_products.specs.Untouched.{winning_meaning}
use Rattle.doc_schema.specs.declared.kind.Field.{Field}
use Rattle.doc_schema.specs.declared.kind.Reset.{Reset}
use Rattle.doc_schema.specs.declared.kind.Reset.TheVariants.{Never, Winning, Observed}
use Rattle.doc_tower.specs.EitherLaws.{left_lawful, right_lawful}
use Rattle.doc_tower.specs.Fields.{field_meaning, reset_meaning}
use Rattle.doc_tower.specs.KindLaws.{kind_lawful, kind_plain}
use Rattle.doc_tower.specs.declared.kinds.KindOp.{KindOp}
use Rattle.doc_tower.specs.declared.kinds.KindState.{KindState}
use Rattle.doc_tower.specs.Kinds.{kind_meaning}

pub winning_lawful : {S O : Type 0} (m : Meaning S O) → IsLawful m → IsLawful (winning_meaning m)
winning_lawful m law = stack_lawful (maybe_meaning m) (maybe_lawful m law) (reset_action m) (reset_lawful m law)

under_reset : (r : Reset) (m : Meaning KindState KindOp) → IsLawful m → IsTrue m.plain → IsLawful (reset_meaning r m)
under_reset Never m law plain = left_lawful m law
under_reset Winning m law plain = right_lawful _ (left_lawful _ (winning_lawful m law))
under_reset Observed m law plain = right_lawful _ (right_lawful _ (observed_lawful m law plain))

pub field_lawful : (f : Field) → IsLawful (field_meaning f)
field_lawful f = under_reset f.reset (kind_meaning f.kind) (kind_lawful f.kind) (kind_plain f.kind)
