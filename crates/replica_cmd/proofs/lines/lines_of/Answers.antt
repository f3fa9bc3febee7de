use Rattle.std.proofs.Common.{ℕ, Ok, ◌==◌, rules, tests}
use Rattle.std.specs.Str.Lines.{strip_carriage_return}
use Rattle.std.proofs.lemmas.Iterator.{YieldsList-from_map_by}
use Rattle.std.proofs.lemmas.Iterator.Consumers.{YieldsList-from_filter, map_from_collect}
use Rattle.std.proofs.lemmas.Iterator.Splits.{YieldsList-from_slice_split}
use Rattle.lab_model.specs.Line.{is_run}
use Rattle.replica_cmd.proofs.lines.lines_of.Goals as goal

-- the pieces, then each without its carriage return, then those that are run
pub returns : goal.returns
returns c =
    map_from_collect {E = ℕ} (Ok c.in_ok-lines.lines) c.in_ok-lines.ensures.ran
    (YieldsList-from_filter _ is_run
    (YieldsList-from_map_by _ (λ line. line.now) strip_carriage_return
    (YieldsList-from_slice_split _ (λ b. b == 10) c.args.script.now (cc) (cc) (cc) (λ x b q k. search (rules, tests)))
    (cc)
    (λ x r q k. search (rules, tests)))
    c.filter.ensures.closure
    (λ x b q k. search (rules, tests)))
