use Rattle.std.proofs.Common.{◌≡◌, drop}
use Rattle.lab_store.specs.Files.{pairs}
use Rattle.lab_store.specs.Store.{file_at}
use Rattle.lab_store.proofs.mem_store.bytes_of.Given as goal

abbrev pub invariant-loop-file : goal.invariant-loop-file
invariant-loop-file l = file_at (pairs l.files) l.name ≡ file_at (pairs (drop l.file-index l.files)) l.name
