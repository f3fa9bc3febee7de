use Rattle.doc_schema.proofs.Making.{sound_table}
use Rattle.doc_schema.proofs.field.make_table.Goals as goal

pub returns-in-Ok-of-clause-sound : goal.returns-in-Ok-of-clause-sound
returns-in-Ok-of-clause-sound c =
    sound_table c.args.written c.in-Ok.named.table c.in-Ok-of.table c.in-Ok.named.states c.in-Ok.named.ops
    c.in-Ok.ensures.accepted c.in-Ok.ensures.table c.in-Ok.ensures.states c.in-Ok.ensures.ops c.in-Ok-of.ensures.lawful.0
