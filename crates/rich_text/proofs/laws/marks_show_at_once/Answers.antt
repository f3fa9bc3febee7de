use Rattle.rich_text.proofs.Runs.{others_show, same_characters, shows_run, shows_three}
use Rattle.rich_text.proofs.laws.marks_show_at_once.Goals as goal

pub returns : goal.returns
returns c = record {
  shown = λ number n from to p s r text over latest. shows_run number n from to s r text over latest;
  others = λ number mark p s r d. others_show mark r s d;
  characters = λ number p s r. same_characters r s;
  split = λ number n from to p s r text over latest off all. shows_three number n from to s r text over latest off all;
}
