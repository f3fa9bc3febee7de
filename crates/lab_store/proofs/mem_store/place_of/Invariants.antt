use Rattle.std.proofs.Common.{◌≡◌, ◌+◌, drop}
use Rattle.lab_store.specs.Files.{pairs, place_of}
use Rattle.lab_store.proofs.mem_store.place_of.Given as goal

abbrev pub invariant-loop-i : goal.invariant-loop-i
invariant-loop-i l = place_of (pairs l.files) l.name ≡ l.i + place_of (pairs (drop l.i l.files)) l.name
