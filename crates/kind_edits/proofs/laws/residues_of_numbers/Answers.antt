use Rattle.std.proofs.Common.{◌∙◌, ap}
use Rattle.std.proofs.Math.Nat.{add-mod_left}
use Rattle.serde_json.specs.Find.{of_integer}
use Rattle.number_crdts.specs.Number.{modulus_of}
use Rattle.kind_edits.specs.Spelled.{residue}
use Rattle.kind_edits.proofs.Residues.{positive, rem-add, rem-again, rem-product, rem-sum, signed_back}
use Rattle.kind_edits.proofs.laws.residues_of_numbers.Goals as goal

pub returns-clause-round : goal.returns-clause-round
returns-clause-round c m z =
    rem-add (modulus_of m) (positive m) (modulus_of m) z ∙ add-mod_left (modulus_of m) (residue m z) ∙ rem-again (modulus_of m) (positive m) z

pub returns-clause-shown : goal.returns-clause-shown
returns-clause-shown c z fits = ap of_integer (signed_back z fits)

pub returns-clause-sum : goal.returns-clause-sum
returns-clause-sum c m y z = rem-sum (modulus_of m) (positive m) y z

pub returns-clause-product : goal.returns-clause-product
returns-clause-product c m y z = rem-product (modulus_of m) (positive m) y z
