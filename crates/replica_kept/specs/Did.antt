-- What a merge does, in numbers.
use Rattle.std.specs.Prelude.{length}
use Rattle.replica_model.specs.Replica.{Batch}
use Rattle.forgetting_model.specs.Ledger.{Ledger}
use Rattle.forgetting_model.specs.Turns.{ledger_absorbed, taken}
use Rattle.replica_kept.specs.declared.merging.Merged.{Merged}

-- how many operations come in, and how many wait then
abbrev pub merged_of : {Op : Type 0} → Ledger Op → Batch Op → Merged
merged_of l b = record { delivered = length (taken l b); waiting = length (ledger_absorbed l b).waiting }
