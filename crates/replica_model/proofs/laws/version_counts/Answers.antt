use Rattle.std.proofs.lemmas.List.Elements.{All-contains}
use Rattle.crdt_laws.specs.declared.small.Entry.{Entry}
use Rattle.crdt_laws.specs.Tower.{IsStampOf}
use Rattle.replica_model.proofs.Counted.{version_counts}
use Rattle.replica_model.proofs.laws.version_counts.Goals as goal

pub returns : goal.returns
returns g c = λ n xs stamped apart closed m. version_counts n xs (λ e i. All-contains (λ (e : Entry _). IsStampOf n e.stamp) xs e stamped i) closed apart m
