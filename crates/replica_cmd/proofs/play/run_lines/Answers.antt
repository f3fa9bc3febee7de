use Rattle.std.proofs.Common.{◌≡◌, ◌∙◌, false, ◌+◌, drop, length, map, sym, subst, refl, inl, inr, arith}
use Rattle.replica_cmd.specs.Run.{PutsTexts}
use Rattle.replica_cmd.specs.Things.{contents, most_made, IsKeptLab, IsLabUpTo}
use Rattle.replica_cmd.proofs.KeptLab.{lab_up_to_more}
use Rattle.replica_cmd.proofs.Looping.{Follows, follows_start, follows_next, follows_part, follows_none, next_line, no_texts, on_err, one_more}
use Rattle.replica_cmd.proofs.play.run_lines.Goals as goal

pub loop-line-init : goal.loop-line-init
loop-line-init g c =
    let lines = map (λ x. x.now) c.args.lines.now in
    let told = g.W.Sink.told c.args.sink.now in
    record {
      kept = subst IsKeptLab (sym c.new-lab.ensures) (λ k d l. absurd (omega arith));
      up_to = subst (IsLabUpTo 0) (sym c.new-lab.ensures) (λ k d l. absurd (omega arith));
      puts = no_texts told;
      follows = λ fair. subst (λ lab. Follows lines lines 0 lab told told false) (sym c.new-lab.ensures) (follows_start lines told fair);
      calm = refl;
    }

pub run_line-requires-clause-room : goal.run_line-requires-clause-room
run_line-requires-clause-room g c = lab_up_to_more c.loop-line.line-index most_made (omega arith) (contents c.loop-line.lab) c.loop-line.invariant.up_to

pub returns-in_err-is_refused-clause-part : goal.returns-in_err-is_refused-clause-part
returns-in_err-is_refused-clause-part g c = on_err c.from_residual.result _ (λ fair.
    let lines = map (λ x. x.now) c.args.lines.now in
    let i = c.loop-line.line-index in
    let start = g.W.Sink.told c.args.sink.now in
    let told = g.W.Sink.told c.loop-line.sink in
    let after = g.W.Sink.told c.run_line.new.sink in
    let old = c.loop-line.invariant.follows fair in
    elim c.in_err-is_refused.ensures.no_others [
      | inl e ↦
          follows_part lines _ (drop (i + 1) lines) i (contents c.loop-line.lab) start told after c.loop-line.refused
          (subst (λ rest. Follows lines rest i (contents c.loop-line.lab) start told c.loop-line.refused) (next_line c.args.lines.now i _ c.loop-line-test.true) old)
          (c.in_err-is_refused.ensures.part e)
      | inr e ↦ follows_none lines (drop i lines) i (contents c.loop-line.lab) start told after c.loop-line.refused old (c.in_err-is_refused.ensures.nothing e)
    ])

pub loop-line-preserved : goal.loop-line-preserved
loop-line-preserved g c =
    let lines = map (λ x. x.now) c.args.lines.now in
    let i = c.loop-line.line-index in
    let start = g.W.Sink.told c.args.sink.now in
    let told = g.W.Sink.told c.loop-line.sink in
    let after = g.W.Sink.told c.run_line.new.sink in
    let s = c.in_ok-is_refused.ensures.steps in
    record {
      kept = s.steps.kept;
      up_to = s.steps.up_to i c.loop-line.invariant.up_to;
      puts = one_more i start told after c.loop-line.refused c.in_ok-is_refused.is_refused s.text c.loop-line.invariant.puts s.put s.steps.ended s.steps.bad;
      follows = λ fair.
          follows_next lines _ (drop (i + 1) lines) i (contents c.loop-line.lab) (contents c.run_line.new.lab) start told after c.loop-line.refused c.in_ok-is_refused.is_refused s.text
          (omega arith)
          (subst (λ rest. Follows lines rest i (contents c.loop-line.lab) start told c.loop-line.refused) (next_line c.args.lines.now i _ c.loop-line-test.true) (c.loop-line.invariant.follows fair))
          s.steps s.put;
      calm = c.in_ok-is_refused.ensures.calm ∙ c.loop-line.invariant.calm;
    }

pub returns-clause-each : goal.returns-clause-each
returns-clause-each g c =
    let all : c.loop-line.line-index ≡ length c.args.lines.now = omega (arith, c.loop-line-test.false, c.loop-line.auto.line-index-end) in
    subst (λ count. PutsTexts count (g.W.Sink.told c.args.sink.now) (g.W.Sink.told c.loop-line.sink) c.loop-line.refused) all c.loop-line.invariant.puts
