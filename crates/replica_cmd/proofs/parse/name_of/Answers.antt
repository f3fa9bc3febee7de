-- The bytes of a file's name are ASCII, so they are UTF-8.
use Rattle.std.proofs.Common.{sym}
use Rattle.replica_cmd.proofs.Words.{IsUtf8-from_file_name}
use Rattle.replica_cmd.proofs.parse.name_of.Goals as goal

pub unreachable-requires : goal.unreachable-requires
unreachable-requires c = c.in_default.ensures.cases.0 (IsUtf8-from_file_name c.args.word.now (sym c.if-not-is_file_name.ensures))
