use Rattle.kind_edits.proofs.Ranges.{edits_keep, entries_lesser}
use Rattle.kind_edits.proofs.text_laws.edits_keep_entries_of_ranges.Goals as goal

pub returns : goal.returns
returns c = record {
  lesser = λ number n xs p issued apart honest _ from after. entries_lesser number n xs issued apart honest from p after;
  kept = λ number n xs p names verb rest issued apart honest _ from. edits_keep number n xs issued apart honest from p names verb rest;
}
