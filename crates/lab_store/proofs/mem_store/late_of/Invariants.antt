use Rattle.std.proofs.Common.{◌≡◌, drop}
use Rattle.lab_store.specs.Calls.{late_of}
use Rattle.lab_store.proofs.mem_store.late_of.Given as goal

abbrev pub invariant-loop-fail : goal.invariant-loop-fail
invariant-loop-fail l = late_of l.failing l.call ≡ late_of (drop l.fail-index l.failing) l.call
