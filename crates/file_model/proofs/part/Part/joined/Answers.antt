use Rattle.std.proofs.Common.{◌∙◌}
use Rattle.file_model.proofs.Words.{join_by-byte}
use Rattle.file_model.proofs.part.Part.joined.Goals as goal

pub returns : goal.returns
returns c = c.in_ok-join.ensures.ok ∙ join_by-byte (λ w. w.now) 32 c.args.words.now
