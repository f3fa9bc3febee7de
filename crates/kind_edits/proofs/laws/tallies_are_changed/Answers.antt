use Rattle.std.proofs.Common.{◌++◌, ◌∷◌, Some, codes, refl, ap, sym, ◌∙◌}
use Rattle.std.specs.Fmt.{signed_decimal}
use Rattle.serde_json.specs.Data.{number}
use Rattle.map_crdt.specs.Keyed.{at_key, state_at}
use Rattle.number_crdts.specs.Number.{modulus_of, number_meaning, shown_mod}
use Rattle.kind_edits.specs.KeyEdit.{tally_edit}
use Rattle.kind_edits.specs.NumberEdit.{number_op}
use Rattle.kind_edits.specs.Spelled.{residue}
use Rattle.kind_edits.specs.declared.number.NumberVerb.TheVariants.{Add, Mul}
use Rattle.kind_edits.proofs.Numbers.{ok_and}
use Rattle.kind_edits.proofs.Residues.{positive, rem-add, rem-mul}
use Rattle.kind_edits.proofs.Tallies.{others_shown, shown_here, tally_key, tally_read}
use Rattle.kind_edits.proofs.laws.tallies_are_changed.Goals as goal

pub returns-clause-add : goal.returns-clause-add
returns-clause-add c m es key z p word short fits =
    ok_and (tally_edit m (codes "add") (key ++ 32 ∷ signed_decimal z)) (at_key key (number_op Add (residue m z))) _
    (tally_read m (codes "add") key Add z refl word short fits)
    (shown_here (number_meaning m) es key p (number_op Add (residue m z))
    ∙ ap (λ n. Some (number (shown_mod m n))) (sym (rem-add (modulus_of m) (positive m) (state_at (number_meaning m) es key) z)))

pub returns-clause-mul : goal.returns-clause-mul
returns-clause-mul c m es key z p word short fits =
    ok_and (tally_edit m (codes "mul") (key ++ 32 ∷ signed_decimal z)) (at_key key (number_op Mul (residue m z))) _
    (tally_read m (codes "mul") key Mul z refl word short fits)
    (shown_here (number_meaning m) es key p (number_op Mul (residue m z))
    ∙ ap (λ n. Some (number (shown_mod m n))) (sym (rem-mul (modulus_of m) (positive m) (state_at (number_meaning m) es key) z)))

pub returns-clause-others : goal.returns-clause-others
returns-clause-others c m es verb rest key after k p cut differ =
    others_shown (number_meaning m) es key k p differ (tally_edit m verb rest) (tally_key m verb rest key after cut)
