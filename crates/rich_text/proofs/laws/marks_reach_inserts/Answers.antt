use Rattle.rich_text.specs.OverLaws.{edit_swap}
use Rattle.rich_text.specs.declared.marked.RichOp.TheVariants.{Insert}
use Rattle.rich_text.proofs.Reaches.{insert_seen, range_decides}
use Rattle.rich_text.proofs.laws.marks_reach_inserts.Goals as goal

pub returns : goal.returns
returns c = record {
  same = λ number ch p q s a ms r. edit_swap r (Insert a ch ms) s;
  shown = λ number ch p q s a ms r valid inside latest. insert_seen number ch p s a ms r valid inside latest;
  decided = range_decides;
}
