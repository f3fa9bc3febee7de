use Rattle.std.proofs.Common.{◌^◌, ◌∙◌, ap, arith}
use Rattle.kind_edits.specs.Spelled.{count_of, signed_of}
use Rattle.kind_edits.proofs.Spellings.{below_printed, below_read, signed_printed, signed_read}
use Rattle.kind_edits.proofs.laws.spelled_numbers.Goals as goal

pub returns-clause-count : goal.returns-clause-count
returns-clause-count c text n =
    (λ h. below_read (2 ^ 32) n text (omega arith) h, λ h. ap count_of h.1 ∙ below_printed (2 ^ 32) n (omega arith) h.0)

pub returns-clause-signed : goal.returns-clause-signed
returns-clause-signed c text z = (λ h. signed_read text z h, λ h. ap signed_of h.1 ∙ signed_printed z h.0)
