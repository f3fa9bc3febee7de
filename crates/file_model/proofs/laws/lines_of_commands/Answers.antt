use Rattle.file_model.proofs.OneLine.{read_again, read_bare, read_is}
use Rattle.file_model.proofs.laws.lines_of_commands.Goals as goal

pub returns : goal.returns
returns c = record {
  read = read_again;
  bare = read_bare;
  had = λ line command h. (read_is line command h).has;
  spelled = λ line command h. (read_is line command h).spelled;
}
