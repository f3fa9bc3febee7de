use Rattle.list_crdt.specs.Between.{position_between}
use Rattle.list_crdt.specs.Text.{at, place, place_before}
use Rattle.list_crdt.proofs.Next.{is_between}
use Rattle.list_crdt.proofs.Neighbours.{in_order, inserted_between, removed_at}
use Rattle.list_crdt.proofs.laws.edits_by_index.Goals as goal

pub returns : goal.returns
returns c = record {
  neighbours = λ n i s text. in_order at n s (λ k d h. (text.cells k d h).position) text.rising i;
  insert = λ n i member seq ch s text within.
      let a = position_between member seq (place_before s i) (place s i) in
      inserted_between at s text.rising a i (record { at = a; ch = ch }) within
      (is_between member seq (place_before s i) (place s i) (in_order at n s (λ k d h. (text.cells k d h).position) text.rising i));
  delete = λ n i s a text _ h. removed_at at s text.rising a i h;
}
