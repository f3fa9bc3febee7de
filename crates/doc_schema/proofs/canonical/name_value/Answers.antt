use Rattle.doc_schema.proofs.Names.{utf8_name}
use Rattle.doc_schema.proofs.canonical.name_value.Goals as goal

pub to_string-requires : goal.to_string-requires
to_string-requires c = utf8_name c.args.name.now c.requires
