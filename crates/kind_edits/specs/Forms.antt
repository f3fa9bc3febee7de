-- What the words after the verb of an edit of a text say.
use Rattle.std.specs.Prelude.{ℕ, List, length, not, ◌==◌, position, Result, Ok}
use Rattle.std.specs.Str.{bytes_eq}
use Rattle.kind_edits.specs.declared.fault.EditError.{EditError}
use Rattle.kind_edits.specs.declared.fault.EditError.TheVariants.{NoVerb, BadNumber}
use Rattle.kind_edits.specs.declared.forms.MarkWords.{MarkWords}
use Rattle.kind_edits.specs.Rules.{demands, reads}
use Rattle.kind_edits.specs.Spelled.{count_of}
use Rattle.kind_edits.specs.TextEdit.{within_text}
use Rattle.kind_edits.specs.Words.{first_word, only_word}

-- an insert: a word, which is the index, and all that follows, which is the text and is not empty
abbrev pub insert_words : List ℕ → Result (ℕ × List ℕ) EditError
insert_words rest =
    reads (first_word rest) NoVerb (λ parts.
    demands (not (length parts.1 == 0)) NoVerb (
    reads (count_of parts.0) BadNumber (λ index.
    within_text parts.1 (
    Ok (index, parts.1)))))

-- a delete: one word, which is the index
abbrev pub delete_words : List ℕ → Result ℕ EditError
delete_words rest =
    reads (only_word rest) NoVerb (λ word.
    reads (count_of word) BadNumber Ok)

-- a mark: two words, which are the indexes, and one word more, the name of a mark, which stands for its number
abbrev pub mark_words : List (List ℕ) → List ℕ → Result MarkWords EditError
mark_words names rest =
    reads (first_word rest) NoVerb (λ low.
    reads (first_word low.1) NoVerb (λ high.
    reads (only_word high.1) NoVerb (λ word.
    reads (position (λ name. bytes_eq name word) names) NoVerb (λ mark.
    reads (count_of low.0) BadNumber (λ from.
    reads (count_of high.0) BadNumber (λ to.
    Ok (record { from = from; to = to; mark = mark })))))))
