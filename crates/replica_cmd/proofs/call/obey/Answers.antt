use Rattle.std.proofs.Common.{◌≡◌, ◌⊎◌, inl, inr, None, Some, ap, sym, ◌∙◌, rules, map}
use Rattle.std.specs.Prelude.{IsErrOf, string_bytes}
use Rattle.lab_model.specs.Line.{command_of_words}
use Rattle.lab_model.specs.declared.command.Command.TheVariants.{Play, Check}
use Rattle.replica_cmd.specs.declared.stop.Stop.TheVariants as stop
use Rattle.replica_cmd.proofs.Endings.{check_ends, others_refused, play_ends, refusal_ends, refusal_same, run_of, runs_without_memory}
use Rattle.replica_cmd.specs.Status.{status_of}
use Rattle.replica_cmd.proofs.call.obey.Goals as goal

pub returns-in_err-words-clause-runs : goal.returns-in_err-words-clause-runs
returns-in_err-words-clause-runs g c =
    runs_without_memory (map string_bytes c.args.words.now) (g.S.Source.left c.args.source.now) (g.K.Store.files c.args.store.now) (g.W.Sink.told c.args.sink.now)
    c.from_residual.result (search rules)

pub returns-in_err-command-clause-runs : goal.returns-in_err-command-clause-runs
returns-in_err-command-clause-runs g c =
    runs_without_memory (map string_bytes c.args.words.now) (g.S.Source.left c.args.source.now) (g.K.Store.files c.args.store.now) (g.W.Sink.told c.args.sink.now)
    c.from_residual-in_err-command.result (search rules)

pub returns-in-Play-clause-runs : goal.returns-in-Play-clause-runs
returns-in-Play-clause-runs g c =
    let words = map string_bytes c.args.words.now in
    let left = g.S.Source.left c.args.source.now in
    let files = g.K.Store.files c.args.store.now in
    let before = g.W.Sink.told c.args.sink.now in
    let after = g.W.Sink.told c.play.new.sink in
    let r = c.play.result in
    let read = ap (λ ws. command_of_words (map (λ w. w.now) ws)) c.as_slice.ensures.value ∙ ap command_of_words c.in_ok-words.ensures in
    let command : Some Play ≡ command_of_words words =
    sym (ap Some c.in-Play.is) ∙ (sym c.in-Some.is ∙ (c.in_ok-command.ensures ∙ read)) in
    let e = c.play.ensures in
    let same : (IsErrOf r stop.Source ⊎ (IsErrOf r stop.Store ⊎ IsErrOf r stop.Long) → after ≡ before) =
    λ h. elim h [ inl source ↦ e.nothing (inl source) | inr k ↦ elim k [ inl store ↦ absurd (e.not_the_store store) | inr long ↦ e.nothing (inr long) ] ] in
    run_of words left files before after (Some Play) command r (play_ends left before after r e.played e.each e.part e.short e.long) same e.puts

pub returns-in-Check-clause-runs : goal.returns-in-Check-clause-runs
returns-in-Check-clause-runs g c =
    let words = map string_bytes c.args.words.now in
    let left = g.S.Source.left c.args.source.now in
    let files = g.K.Store.files c.args.store.now in
    let before = g.W.Sink.told c.args.sink.now in
    let after = g.W.Sink.told c.check.new.sink in
    let r = c.check.result in
    let table = c.in-Check.table in
    let read = ap (λ ws. command_of_words (map (λ w. w.now) ws)) c.as_slice.ensures.value ∙ ap command_of_words c.in_ok-words.ensures in
    let command : Some (Check table) ≡ command_of_words words =
    sym (ap Some c.in-Check.is) ∙ (sym c.in-Some.is ∙ (c.in_ok-command.ensures ∙ read)) in
    let e = c.check.ensures in
    let same : (IsErrOf r stop.Source ⊎ (IsErrOf r stop.Store ⊎ IsErrOf r stop.Long) → after ≡ before) =
    λ h. elim h [ inl source ↦ absurd (e.not_the_source source) | inr k ↦ e.nothing (inr k) ] in
    run_of words left files before after (Some (Check table)) command r (check_ends files table before after r e.found e.part e.short e.long e.nothing) same
    e.puts

pub returns-in_default-clause-runs : goal.returns-in_default-clause-runs
returns-in_default-clause-runs g c =
    let words = map string_bytes c.args.words.now in
    let left = g.S.Source.left c.args.source.now in
    let files = g.K.Store.files c.args.store.now in
    let before = g.W.Sink.told c.args.sink.now in
    let after = g.W.Sink.told c.refuse.new.sink in
    let r = c.refuse.result in
    let e = c.refuse.ensures in
    let read = ap (λ ws. command_of_words (map (λ w. w.now) ws)) c.as_slice.ensures.value ∙ ap command_of_words c.in_ok-words.ensures in
    let command : None ≡ command_of_words words = sym c.in_default.is ∙ (c.in_ok-command.ensures ∙ read) in
    run_of words left files before after None command r (refusal_ends before after r e.put e.refused e.no_others) (refusal_same before after r e.no_others) e.puts

pub returns-clause-runs : goal.returns-clause-runs
returns-clause-runs g c =
    let words = map string_bytes c.args.words.now in
    let left = g.S.Source.left c.args.source.now in
    let files = g.K.Store.files c.args.store.now in
    let before = g.W.Sink.told c.args.sink.now in
    let after = g.W.Sink.told c.refuse-in_default-command.new.sink in
    let r = c.refuse-in_default-command.result in
    let e = c.refuse-in_default-command.ensures in
    let asked = c.in-Some.command in
    let read = ap (λ ws. command_of_words (map (λ w. w.now) ws)) c.as_slice.ensures.value ∙ ap command_of_words c.in_ok-words.ensures in
    let command : Some asked ≡ command_of_words words = sym c.in-Some.is ∙ (c.in_ok-command.ensures ∙ read) in
    let done = others_refused asked c.in_default-command.not-Play c.in_default-command.not-Check left files before after (status_of r)
    (refusal_ends before after r e.put e.refused e.no_others) in
    run_of words left files before after (Some asked) command r done (refusal_same before after r e.no_others) e.puts
