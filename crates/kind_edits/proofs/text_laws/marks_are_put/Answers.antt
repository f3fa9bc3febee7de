use Rattle.kind_edits.proofs.Marked.{marks_accepted, marks_characters, marks_others, marks_shown}
use Rattle.kind_edits.proofs.text_laws.marks_are_put.Goals as goal

pub returns : goal.returns
returns c = record {
  accepted = λ p names s words m on apart h some within. marks_accepted p names s words m on apart h some within;
  shown = λ number n p names s words m on apart text lesser h. marks_shown p names s words m on apart h number n text lesser;
  others = λ number mark p names s words m on apart h differ. marks_others p names s words m on apart h number mark differ;
  characters = marks_characters;
}
