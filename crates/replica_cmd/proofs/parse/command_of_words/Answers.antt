-- No word, or more than five.
use Rattle.std.proofs.Common.{sym, arith, map, inl, inr, tests}
use Rattle.std.proofs.lemmas.List.{length-map}
use Rattle.replica_cmd.proofs.Words.{no_command}
use Rattle.replica_cmd.proofs.parse.command_of_words.Goals as goal
use Rattle.replica_cmd.proofs.parse.command_of_words.Goals.{in_default-via-then-words-lt1, in_default-via-else-words-lt1+else-words-lt2+else-words-lt3+else-words-lt4+else-words-lt5+else-words-lt6}

pub returns-in_default : goal.returns-in_default
returns-in_default c =
    let words = map (λ w. w.now) c.args.words.now in
    elim c.in_default.branch [
      | in_default-via-then-words-lt1 w ↦ sym (no_command words (inl (simp length-map (grind (arith, tests)))))
      | in_default-via-else-words-lt1+else-words-lt2+else-words-lt3+else-words-lt4+else-words-lt5+else-words-lt6 w ↦ sym (no_command words (inr (simp length-map (grind (arith, tests)))))
    ]
