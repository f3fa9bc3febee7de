use Rattle.std.proofs.Common.{◌≡◌, ◌∙◌, ap, sym, arith, Some}
use Rattle.std.proofs.lemmas.Bool.{both_ways, not-false, not-true}
use Rattle.std.specs.BTreeMap.{get}
use Rattle.vector_clock.specs.Stamp.{id_of}
use Rattle.causal_buffer.specs.Buffer.{by_id}
use Rattle.replica_kept.proofs.OneId.{none_placed, place_short, placed_other, placed_same}
use Rattle.replica_kept.proofs.faults.is_forked_by_id.Goals as goal

pub returns-then-at-entries-clause-forked : goal.returns-then-at-entries-clause-forked
returns-then-at-entries-clause-forked g c = λ t.
    let m = c.args.places.now in
    let e = c.args.e.now in
    let at : get by_id m (id_of e.stamp) ≡ Some c.in-Some.at.now = ap (get by_id m) (sym c.id.ensures) ∙ sym c.in-Some.ensures.value in
    placed_other c.args.entries.now m c.requires.places e c.in-Some.at.now at c.index-entries-at.result c.index-entries-at.is (λ same. both_ways c.is_same.result (not-true c.is_same.result t) (c.is_same.ensures.1 same))

pub returns-then-at-entries-clause-same : goal.returns-then-at-entries-clause-same
returns-then-at-entries-clause-same g c = λ f.
    let m = c.args.places.now in
    let e = c.args.e.now in
    let at : get by_id m (id_of e.stamp) ≡ Some c.in-Some.at.now = ap (get by_id m) (sym c.id.ensures) ∙ sym c.in-Some.ensures.value in
    placed_same c.args.entries.now m c.requires.places e c.in-Some.at.now at c.index-entries-at.result c.index-entries-at.is (c.is_same.ensures.0 (not-false c.is_same.result f))

pub returns-else-at-entries-clause-same : goal.returns-else-at-entries-clause-same
returns-else-at-entries-clause-same g c =
    let m = c.args.places.now in
    let e = c.args.e.now in
    let at : get by_id m (id_of e.stamp) ≡ Some c.in-Some.at.now = ap (get by_id m) (sym c.id.ensures) ∙ sym c.in-Some.ensures.value in
    let short = place_short c.args.entries.now m c.requires.places e c.in-Some.at.now at in
    absurd (omega (arith, short, c.if-at-entries.false))

pub returns-in-None-clause-same : goal.returns-in-None-clause-same
returns-in-None-clause-same g c = λ _.
    let m = c.args.places.now in
    let e = c.args.e.now in
    none_placed c.args.entries.now m c.requires.places e (ap (get by_id m) (sym c.id.ensures) ∙ sym c.in-None.ensures.value)
