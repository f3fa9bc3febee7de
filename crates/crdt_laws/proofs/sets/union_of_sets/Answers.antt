use Rattle.crdt_laws.proofs.Both.{union_associates, union_commutes, union_elements, union_from, union_rises, union_within}
use Rattle.crdt_laws.proofs.sets.union_of_sets.Goals as goal

pub returns : goal.returns
returns g c = record {
  elements = union_elements;
  from = union_from;
  rises = union_rises;
  commutes = union_commutes;
  associates = union_associates;
  within = union_within;
  again = λ xs h. union_within xs xs h h (λ e i. i);
}
