use Rattle.std.proofs.Common.{length}
use Rattle.std.specs.Option.{option_copied}
use Rattle.std.specs.Str.{chars}
use Rattle.kind_edits.proofs.Typing.{IsTyped}
use Rattle.kind_edits.proofs.letters.letters_between.Given as goal

abbrev pub invariant-loop-ch : goal.invariant-loop-ch
invariant-loop-ch l =
    IsTyped l.first.member (option_copied l.high) l.first.seq (option_copied l.low) (chars l.text) l.letters l.seq (length l.yielded)
