use Rattle.std.proofs.Common.{rules, sym}
use Rattle.std.proofs.lemmas.Bool.{ltb-true}
use Rattle.wire_core.proofs.Last.{last_is}
use Rattle.wire_core.proofs.stamps.comes_next.Goals as goal

pub returns-in-Some : goal.returns-in-Some
returns-in-Some g c =
    let k = c.in-Some.ensures.item in
    rw (last_is c.args.before.now c.in-Some.last.now (ltb-true _ _ (sym k.0)) k.1) (search rules)
