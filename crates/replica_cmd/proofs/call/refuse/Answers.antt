use Rattle.std.proofs.Common.{◌++◌, ◌∙◌, ap, true, false}
use Rattle.std.specs.Prelude.{codes}
use Rattle.lab_model.specs.Text.{refusal_text}
use Rattle.replica_cmd.specs.Run.{is_bad}
use Rattle.replica_cmd.proofs.Looping.{no_texts, one_more}
use Rattle.replica_cmd.proofs.Stepping.{refused_is}
use Rattle.replica_cmd.proofs.call.refuse.Goals as goal

pub returns-clause-puts : goal.returns-clause-puts
returns-clause-puts g c =
    let told = g.W.Sink.told c.args.sink.now in
    let said = c.as_str.ensures.value ∙ c.in_ok-text.ensures in
    let put = one_more 0 told told (g.W.Sink.told c.put_text.new.sink) false true c.as_str.result.now (no_texts told) c.in_ok-put_text.ensures.put
    (codes "refused " ++ refusal_text c.args.cause.now, said) (ap is_bad said ∙ refused_is c.args.cause.now) in
    put.puts
