use Rattle.std.proofs.Common.{◌≡◌}
use Rattle.std.proofs.lemmas.Result.{IfOk-weaker}
use Rattle.doc_schema.specs.BuiltIn.{trio}
use Rattle.doc_schema.specs.Schema.{Spells}
use Rattle.doc_schema.proofs.Bytes.{trio_spelled, trio_text}
use Rattle.doc_schema.proofs.Whole.{one_schema}
use Rattle.doc_schema.proofs.schema.Schema.trio.Goals as goal

pub built_in-requires : goal.built_in-requires
built_in-requires c = (trio, trio_spelled)

pub returns : goal.returns
returns c =
    IfOk-weaker c.built_in.result (Spells trio_text) (λ s. s ≡ trio) (λ s h. one_schema trio_text s trio h trio_spelled) c.built_in.ensures
