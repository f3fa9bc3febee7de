use Rattle.std.proofs.Common.{◌≡◌, ◌++◌, [], ◌∷◌, refl, sym, ap, subst, ◌∙◌}
use Rattle.std.proofs.lemmas.Result.{err_from_is_err_and}
use Rattle.crdt_laws.specs.Sets.{has_id}
use Rattle.wire_core.specs.Reading.{Got, allows_each, read_each}
use Rattle.wire_core.specs.Calls.{Fails, input_of}
use Rattle.wire_core.specs.Ids.{has}
use Rattle.wire_core.specs.Loop.{allows_more, begins_at, fails, goes_on, is_done}
use Rattle.wire_core.specs.Taken.{taken_allowed, taken_rules}
use Rattle.tower_codec.specs.Observed.{logged_exact, logged_grammar}
use Rattle.tower_codec.proofs.observed.take_entries.Goals as goal

pub loop-init : goal.loop-init
loop-init g c =
    let of = logged_grammar (g.C.Coder.op_grammar c.args.coder.now c.args.tower.now) (g.C.Coder.may_stand c.args.coder.now c.args.tower.now) c.args.d.now in
    record {
      inside = c.requires.inside;
      rules = refl;
      allowed = rw c.new-entries.ensures.items tt;
      ids = λ i. rw c.new-entries.ensures.items (c.new-ids.ensures i);
      so_far = rw c.new-entries.ensures.items (begins_at of c.args.count (input_of c.args.from.now));
    }

pub take_entry-requires : goal.take_entry-requires
take_entry-requires g c =
    let k = c.loop.invariant in
    let of = logged_grammar (g.C.Coder.op_grammar c.args.coder.now c.args.tower.now) (g.C.Coder.may_stand c.args.coder.now c.args.tower.now) c.args.d.now in
    record {
      inside = k.inside;
      clock = c.requires.clock;
      members = c.requires.members ∙ sym (ap (λ r. r.members) k.rules);
      before = rw c.as_slice.ensures.value (subst (λ r. allows_each of r [] c.loop.entries.items) (sym k.rules) k.allowed);
      ids = λ i. rw c.as_slice.ensures.value (k.ids i);
    }

pub loop-preserved : goal.loop-preserved
loop-preserved g c =
    let k = c.loop.invariant in
    let part = g.C.Coder.op_grammar c.args.coder.now c.args.tower.now in
    let stands = g.C.Coder.may_stand c.args.coder.now c.args.tower.now in
    let of = logged_grammar part stands c.args.d.now in
    let es = c.loop.entries.items in
    let exact = logged_exact part stands (g.met.C.Coder.op_exact c.args.coder.now c.args.tower.now) c.args.d.now es in
    let after = input_of c.take_entry.new.from in
    let took : (of es).read (input_of c.loop.from) ≡ Got c.in_ok-entry.entry after =
    subst (λ items. (of items).read (input_of c.loop.from) ≡ Got c.in_ok-entry.entry after) c.as_slice.ensures.value c.in_ok-entry.ensures.entry.0 in
    let allowed = taken_allowed (of es) exact c.loop.from c.in_ok-entry.entry after k.inside took in
    record {
      inside = c.in_ok-entry.ensures.entry.1;
      rules = taken_rules (of es) exact c.loop.from c.in_ok-entry.entry after k.inside took ∙ k.rules;
      allowed = rw c.in_ok-push.ensures.items (allows_more of (input_of c.args.from.now).rules es [] c.in_ok-entry.entry k.allowed (subst (λ r. (of es).allows r c.in_ok-entry.entry) k.rules allowed));
      ids = λ i. rw c.in_ok-push.ensures.items (subst (λ items. has c.take_entry.new.ids.ids i ≡ has_id (items ++ c.in_ok-entry.entry ∷ []) i) c.as_slice.ensures.value (c.in_ok-entry.ensures.ids i));
      so_far = rw c.in_ok-push.ensures.items (goes_on of es c.args.count c.loop.counter (input_of c.loop.from) after c.in_ok-entry.entry
          (read_each of c.args.count [] (input_of c.args.from.now)) c.loop-test.true took k.so_far);
    }

pub returns-in_err-entry : goal.returns-in_err-entry
returns-in_err-entry g c =
    let p = err_from_is_err_and c.from_residual.result c.from_residual.ensures.1 in
    let k = c.loop.invariant in
    let of = logged_grammar (g.C.Coder.op_grammar c.args.coder.now c.args.tower.now) (g.C.Coder.may_stand c.args.coder.now c.args.tower.now) c.args.d.now in
    rw (p.1, p.2) (fails of c.in_err-entry.field-0.0 c.loop.entries.items c.args.count c.loop.counter (input_of c.loop.from) (read_each of c.args.count [] (input_of c.args.from.now)) c.loop-test.true
    (subst (λ items. Fails c.in_err-entry.field-0.0 ((of items).read (input_of c.loop.from))) c.as_slice.ensures.value c.in_err-entry.ensures.entry) k.so_far)

pub returns : goal.returns
returns g c =
    let k = c.loop.invariant in
    let of = logged_grammar (g.C.Coder.op_grammar c.args.coder.now c.args.tower.now) (g.C.Coder.may_stand c.args.coder.now c.args.tower.now) c.args.d.now in
    (is_done of c.loop.entries.items c.args.count c.loop.counter (input_of c.loop.from) (read_each of c.args.count [] (input_of c.args.from.now)) c.loop-test.false k.so_far, k.inside)
