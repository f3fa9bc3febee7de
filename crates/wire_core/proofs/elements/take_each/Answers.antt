use Rattle.std.proofs.Common.{◌≡◌, [], refl, sym, subst, ◌∙◌}
use Rattle.std.proofs.lemmas.Result.{err_from_is_err_and}
use Rattle.wire_core.specs.Reading.{Got, allows_each, read_each}
use Rattle.wire_core.specs.Calls.{Fails, input_of}
use Rattle.wire_core.specs.Loop.{allows_more, begins_at, fails, goes_on, is_done}
use Rattle.wire_core.specs.Taken.{taken_allowed, taken_rules}
use Rattle.wire_core.proofs.elements.take_each.Goals as goal

pub loop-init : goal.loop-init
loop-init g c =
    let of = g.E.Elements.element c.args.elements.now in
    record {
      inside = c.requires.inside;
      rules = refl;
      allowed = rw c.new-items.ensures.items tt;
      so_far = rw c.new-items.ensures.items (begins_at of c.args.count (input_of c.args.from.now));
    }

pub take_next-requires : goal.take_next-requires
take_next-requires g c =
    let k = c.loop.invariant in
    let of = g.E.Elements.element c.args.elements.now in
    record {
      inside = k.inside;
      members = subst (λ r. g.E.Elements.reads c.args.elements.now r.members) (sym k.rules) c.requires.members;
      before = rw c.as_slice.ensures.value (subst (λ r. allows_each of r [] c.loop.items.items) (sym k.rules) k.allowed);
    }

pub loop-preserved : goal.loop-preserved
loop-preserved g c =
    let k = c.loop.invariant in
    let of = g.E.Elements.element c.args.elements.now in
    let exact = g.met.E.Elements.exact c.args.elements.now c.loop.items.items in
    let took : (of c.loop.items.items).read (input_of c.loop.from) ≡ Got c.in_ok-item.item (input_of c.take_next.new.from) =
    subst (λ items. (of items).read (input_of c.loop.from) ≡ Got c.in_ok-item.item (input_of c.take_next.new.from)) c.as_slice.ensures.value c.in_ok-item.ensures.0 in
    let allowed = taken_allowed (of c.loop.items.items) exact c.loop.from c.in_ok-item.item (input_of c.take_next.new.from) k.inside took in
    record {
      inside = c.in_ok-item.ensures.1;
      rules = taken_rules (of c.loop.items.items) exact c.loop.from c.in_ok-item.item (input_of c.take_next.new.from) k.inside took ∙ k.rules;
      allowed = rw c.in_ok-push.ensures.items (allows_more of (input_of c.args.from.now).rules c.loop.items.items [] c.in_ok-item.item k.allowed (subst (λ r. (of c.loop.items.items).allows r c.in_ok-item.item) k.rules allowed));
      so_far = rw c.in_ok-push.ensures.items (goes_on of c.loop.items.items c.args.count c.loop.counter (input_of c.loop.from) (input_of c.take_next.new.from) c.in_ok-item.item
          (read_each of c.args.count [] (input_of c.args.from.now)) c.loop-test.true took k.so_far);
    }

pub returns-in_err-item : goal.returns-in_err-item
returns-in_err-item g c =
    let p = err_from_is_err_and c.from_residual.result c.from_residual.ensures.1 in
    let k = c.loop.invariant in
    let of = g.E.Elements.element c.args.elements.now in
    rw (p.1, p.2) (fails of c.in_err-item.field-0.0 c.loop.items.items c.args.count c.loop.counter (input_of c.loop.from) (read_each of c.args.count [] (input_of c.args.from.now)) c.loop-test.true
    (subst (λ items. Fails c.in_err-item.field-0.0 ((of items).read (input_of c.loop.from))) c.as_slice.ensures.value c.in_err-item.ensures) k.so_far)

pub returns : goal.returns
returns g c =
    let k = c.loop.invariant in
    let of = g.E.Elements.element c.args.elements.now in
    (is_done of c.loop.items.items c.args.count c.loop.counter (input_of c.loop.from) (read_each of c.args.count [] (input_of c.args.from.now)) c.loop-test.false k.so_far, k.inside)
