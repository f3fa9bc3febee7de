use Rattle.std.proofs.Common.{arith}
use Rattle.doc_schema.proofs.Whole.{short_text}
use Rattle.doc_schema.proofs.schema.Schema.built_in.Goals as goal

pub from_json-requires : goal.from_json-requires
from_json-requires c = omega (arith, short_text c.args.text.now c.requires.0 c.requires.1)
