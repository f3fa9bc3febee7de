use Rattle.std.proofs.Common.{false, subst, sym}
use Rattle.replica_cmd.specs.Run.{IsSaid}
use Rattle.replica_cmd.proofs.Looping.{no_texts, one_more}
use Rattle.replica_cmd.proofs.check.check.Goals as goal

pub returns-clause-puts : goal.returns-clause-puts
returns-clause-puts g c =
    let told = g.W.Sink.told c.args.sink.now in
    let bad = c.in_ok-reply.reply.refused in
    let said = subst (λ t. IsSaid t bad) (sym c.as_str.ensures.value) c.in_ok-reply.ensures.said in
    let put = one_more 0 told told (g.W.Sink.told c.put_text.new.sink) false bad c.as_str.result.now (no_texts told) c.in_ok-put_text.ensures.put said.ended said.told in
    put.puts
