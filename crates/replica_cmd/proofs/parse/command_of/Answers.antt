-- The words that are collected are the pieces between spaces.
use Rattle.std.proofs.Common.{◌≡◌, ℕ, List, Ok, IfOk, ◌==◌, map, subst, ap, ◌∙◌, rules, tests}
use Rattle.std.specs.List.{slice_split}
use Rattle.std.proofs.lemmas.Iterator.Consumers.{map_from_collect}
use Rattle.std.proofs.lemmas.Iterator.Splits.{YieldsList-from_slice_split}
use Rattle.lab_model.specs.Line.{command_of, command_of_words}
use Rattle.replica_cmd.proofs.parse.command_of.Goals as goal

pub returns : goal.returns
unfolding command_of
returns c =
    let line = c.args.line.now in
    let words : map (λ w. w.now) c.in_ok-words.words.items ≡ slice_split (λ b. b == 32) line =
    map_from_collect {E = ℕ} (Ok c.in_ok-words.words) c.in_ok-words.ensures.ran
    (YieldsList-from_slice_split _ (λ b. b == 32) line (cc) (cc) (cc) (λ x b q k. search (rules, tests))) in
    let read = ap (λ ws. map (λ w. w.now) ws) c.as_slice.ensures.value ∙ words in
    subst (λ (ws : List (List ℕ)). IfOk c.command_of_words.result (λ command. command ≡ command_of_words ws)) read c.command_of_words.ensures
