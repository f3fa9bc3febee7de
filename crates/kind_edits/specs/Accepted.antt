-- Which operation an addition or a multiplication of a signed number is, and what the words of an edit of a text are.
use Rattle.std.specs.Prelude.{◌≡◌, ◌⊎◌, ◌<◌, ◌≤◌, ◌^◌, ℕ, ℤ, List, ◌∷◌, ◌++◌, length, slice_get, Some, codes}
use Rattle.std.specs.Fmt.{decimal}
use Rattle.list_crdt.specs.Position.{max_steps}
use Rattle.register_crdts.specs.Text.{max_text}
use Rattle.kind_edits.specs.declared.fault.EditError.{EditError}
use Rattle.kind_edits.specs.declared.fault.EditError.TheVariants.{PositionFull}
use Rattle.kind_edits.specs.declared.forms.MarkWords.{MarkWords}
use Rattle.kind_edits.specs.Words.{IsWord}
use Rattle.semidirect_product.specs.declared.stack.StackOp.TheVariants.{Low, High}
use Rattle.number_crdts.specs.Number.{NumberOp}
use Rattle.kind_edits.specs.Spelled.{residue}

-- `add` adds the residue of the number, and `mul` multiplies by it
abbrev pub IsNumberEdit : ℕ → List ℕ → ℤ → NumberOp → Type 0
IsNumberEdit m verb z op = ((verb ≡ codes "add") × (op ≡ Low (residue m z))) ⊎ ((verb ≡ codes "mul") × (op ≡ High (residue m z)))

-- an index and a text that is not empty, as an insert has them
pub record IsInsertWords (words : List ℕ) (index : ℕ) (text : List ℕ) : Type 0 where
  pub counted : index < 2 ^ 32
  pub some : 1 ≤ length text
  pub most : length text ≤ max_text
  pub spelled : words ≡ decimal index ++ 32 ∷ text

-- two indexes and the name of a mark, as an edit of marks has them
pub record AreMarkWords (names : List (List ℕ)) (words : List ℕ) (m : MarkWords) : Type 0 where
  pub from : m.from < 2 ^ 32
  pub to : m.to < 2 ^ 32
  pub name : List ℕ
  pub word : IsWord name
  pub named : slice_get names m.mark ≡ Some name
  pub spelled : words ≡ decimal m.from ++ 32 ∷ (decimal m.to ++ 32 ∷ name)

-- a position would have too many steps
pub record IsFull (fault : EditError) : Type 0 where
  pub steps : ℕ
  pub more : max_steps < steps
  pub is : fault ≡ PositionFull steps
