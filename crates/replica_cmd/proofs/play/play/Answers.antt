use Rattle.std.proofs.Common.{◌≡◌, ◌≤◌, ◌∙◌, List, ℕ, Some, length, map, ap, sym, subst, arith}
use Rattle.std.proofs.lemmas.Result.{IfOk-weaker}
use Rattle.std.proofs.lemmas.List.{length-map}
use Rattle.lab_model.specs.Line.{lines_of}
use Rattle.replica_cmd.specs.Reading.{IsScript, most_bytes}
use Rattle.replica_cmd.specs.Run.{PutsTexts}
use Rattle.replica_cmd.proofs.Bounds.{length-lines_of}
use Rattle.replica_cmd.proofs.play.play.Goals as goal

pub run_lines-requires : goal.run_lines-requires
run_lines-requires g c =
    let script = c.in_ok-script.script.items in
    let lines = c.in_ok-lines.lines.items in
    let text : c.as_slice.result.now ≡ script = c.as_slice.ensures.value in
    let some : length (map (λ l. l.now) lines) ≡ length (lines_of c.as_slice.result.now) = ap length c.in_ok-lines.ensures in
    let short : length c.as_slice.result.now ≤ most_bytes = omega (arith, ap length text, c.in_ok-script.ensures.short) in
    omega (arith, some, short, length-lines_of c.as_slice.result.now, length-map lines (λ l. l.now), c.as_slice-2.ensures.len, ap length c.as_slice-2.ensures.value)

pub returns-clause-each : goal.returns-clause-each
returns-clause-each g c =
    let script = c.in_ok-script.script.items in
    let lines = c.in_ok-lines.lines.items in
    let before = g.W.Sink.told c.args.sink.now in
    let after = g.W.Sink.told c.run_lines.new.sink in
    let many : length c.as_slice-2.result.now ≡ length (lines_of script) =
    ap length c.as_slice-2.ensures.value ∙ (sym (length-map lines (λ l. l.now)) ∙ (ap length c.in_ok-lines.ensures ∙ ap (λ text. length (lines_of text)) c.as_slice.ensures.value)) in
    IfOk-weaker c.run_lines.result (λ refused. PutsTexts (length c.as_slice-2.result.now) before after refused)
    (λ refused. (told : List ℕ) → g.S.Source.left c.args.source.now ≡ Some told → PutsTexts (length (lines_of told)) before after refused)
    (λ refused puts told e.
    let same : script ≡ told = subst (λ left. IsScript left script) e c.in_ok-script.ensures.whole in
    subst (λ count. PutsTexts count before after refused) (many ∙ ap (λ text. length (lines_of text)) same) puts)
    c.run_lines.ensures.each
