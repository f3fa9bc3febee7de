use Rattle.std.proofs.Common.{sym, subst}
use Rattle.std.specs.List.{All}
use Rattle.std.proofs.lemmas.List.Elements.{All-filter}
use Rattle.vector_clock.specs.Clock.{covers}
use Rattle.vector_clock.specs.Stamp.{IsStamp, id_of}
use Rattle.crdt_laws.specs.declared.small.Entry.{Entry}
use Rattle.crdt_laws.specs.Sets.{IsRising}
use Rattle.crdt_laws.proofs.Filters.{rising-filter}
use Rattle.replica_kept.proofs.merging.logged.Goals as goal

pub union-requires : goal.union-requires
union-requires g c =
    let in_k = λ (e : Entry _). covers c.args.k.now (id_of e.stamp) in
    record {
      left_rises = subst IsRising (sym c.within.ensures) (rising-filter in_k c.args.waiting c.requires.waiting);
      right_rises = subst IsRising (sym c.within-2.ensures) (rising-filter in_k c.args.new c.requires.new);
      left_stamps = subst (All (λ (e : Entry _). IsStamp e.stamp)) (sym c.within.ensures) (All-filter in_k (λ (e : Entry _). IsStamp e.stamp) c.args.waiting c.requires.waiting_stamps);
      right_stamps = subst (All (λ (e : Entry _). IsStamp e.stamp)) (sym c.within-2.ensures) (All-filter in_k (λ (e : Entry _). IsStamp e.stamp) c.args.new c.requires.new_stamps);
    }
