-- Operations that were issued may each stand at some stamp.
use Rattle.std.proofs.Common.{ℕ, List}
use Rattle.std.proofs.lemmas.List.Elements.{All-weaker}
use Rattle.crdt_laws.specs.declared.small.Entry.{Entry}
use Rattle.crdt_laws.specs.Tower.{Meaning, IsIssued, IsLawful}
use Rattle.crdt_laws.specs.Sets.{AreFormed, AreIssued}

pub all_formed : {State Op : Type 0} (t : Meaning State Op) (n : ℕ) → IsLawful t → (es : List (Entry Op)) → AreIssued t n es → AreFormed t es
all_formed t n law es h = All-weaker (λ e. IsIssued t n e.stamp e.op) (λ e. t.well_formed e.op) (λ e i. law.valid_well_formed e.stamp e.op i.valid) es h
