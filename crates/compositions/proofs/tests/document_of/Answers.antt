use Rattle.std.proofs.Common.{inl}
use Rattle.compositions.proofs.tests.document_of.Goals as goal

pub document-requires : goal.document-requires
document-requires g c = record { members = 3; issued = c.requires.issued; apart = inl c.requires.plain }
