use Rattle.std.proofs.Common.{◌≡◌, drop}
use Rattle.lab_store.specs.Calls.{kept_of}
use Rattle.lab_store.proofs.mem_sink.kept_of.Given as goal

abbrev pub invariant-loop-keep : goal.invariant-loop-keep
invariant-loop-keep l = kept_of l.failing l.call ≡ kept_of (drop l.keep-index l.failing) l.call
