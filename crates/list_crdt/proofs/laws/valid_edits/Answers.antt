use Rattle.list_crdt.specs.Text.{at}
use Rattle.list_crdt.proofs.Neighbours.{delete_valid, insert_valid}
use Rattle.list_crdt.proofs.laws.valid_edits.Goals as goal

pub returns : goal.returns
returns c = record {
  insert = λ p i ch s stamp within scalar text. insert_valid at p i ch s stamp within scalar (λ k d h. (text.cells k d h).position);
  delete = λ p known i s a within same after text here.
      delete_valid at p known i s a within same after (λ k d h. (text.text.cells k d h).position) text.known here;
}
