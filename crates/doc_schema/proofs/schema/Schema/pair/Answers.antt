use Rattle.std.proofs.Common.{◌≡◌}
use Rattle.std.proofs.lemmas.Result.{IfOk-weaker}
use Rattle.doc_schema.specs.BuiltIn.{pair}
use Rattle.doc_schema.specs.Schema.{Spells}
use Rattle.doc_schema.proofs.Bytes.{pair_spelled, pair_text}
use Rattle.doc_schema.proofs.Whole.{one_schema}
use Rattle.doc_schema.proofs.schema.Schema.pair.Goals as goal

pub built_in-requires : goal.built_in-requires
built_in-requires c = (pair, pair_spelled)

pub returns : goal.returns
returns c =
    IfOk-weaker c.built_in.result (Spells pair_text) (λ s. s ≡ pair) (λ s h. one_schema pair_text s pair h pair_spelled) c.built_in.ensures
