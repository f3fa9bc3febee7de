use Rattle.std.proofs.Common.{◌≡◌, map, take}
use Rattle.std.specs.Prelude.{string_bytes}
use Rattle.replica_cmd.proofs.call.bytes_of.Given as goal

abbrev pub invariant-loop-word : goal.invariant-loop-word
invariant-loop-word l = map (λ piece. piece.now) l.pieces.items ≡ map string_bytes (take l.word-index l.words)
