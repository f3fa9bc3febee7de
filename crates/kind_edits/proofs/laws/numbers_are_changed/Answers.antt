use Rattle.std.proofs.Common.{codes, refl, ap, sym}
use Rattle.std.specs.Fmt.{signed_decimal}
use Rattle.serde_json.specs.Data.{number}
use Rattle.number_crdts.specs.Number.{modulus_of, shown_mod}
use Rattle.kind_edits.specs.NumberEdit.{number_edit, number_op}
use Rattle.kind_edits.specs.Spelled.{residue}
use Rattle.kind_edits.specs.declared.number.NumberVerb.TheVariants.{Add, Mul}
use Rattle.kind_edits.proofs.Numbers.{number_read, ok_and}
use Rattle.kind_edits.proofs.Residues.{positive, rem-add, rem-mul}
use Rattle.kind_edits.proofs.laws.numbers_are_changed.Goals as goal

pub returns-clause-add : goal.returns-clause-add
returns-clause-add c m s z p fits =
    ok_and (number_edit m (codes "add") (signed_decimal z)) (number_op Add (residue m z)) _ (number_read m (codes "add") Add z refl fits)
    (ap (λ n. number (shown_mod m n)) (sym (rem-add (modulus_of m) (positive m) s z)))

pub returns-clause-mul : goal.returns-clause-mul
returns-clause-mul c m s z p fits =
    ok_and (number_edit m (codes "mul") (signed_decimal z)) (number_op Mul (residue m z)) _ (number_read m (codes "mul") Mul z refl fits)
    (ap (λ n. number (shown_mod m n)) (sym (rem-mul (modulus_of m) (positive m) s z)))
