use Rattle.std.proofs.Common.{◌≡◌, ◌<◌, length, rules, arith}
use Rattle.wire_core.specs.Calls.{rules_of}
use Rattle.kind_codec.specs.Marks.{byte_fits}
use Rattle.kind_codec.proofs.marks.put_marks.Goals as goal

pub overflow_cast-len : goal.overflow_cast-len
overflow_cast-len c =
    let few : length c.args.entries.now < 256 = byte_fits c.args.marks (rules_of c.args.out.now) (length c.args.entries.now) (omega arith) c.requires.0 in
    let same : c.len.result ≡ length c.args.entries.now = search rules in
    omega (arith, few, same)
