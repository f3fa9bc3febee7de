use Rattle.std.proofs.Common.{◌≡◌, ℕ, Option, Some, sym, ap, subst, arith}
use Rattle.register_crdts.specs.Latest.{IsSetOf, latest_good}
use Rattle.register_crdts.specs.declared.latest.Set.{Set}
use Rattle.wire_core.specs.Reading.{Rules}
use Rattle.wire_core.specs.Calls.{rules_of}
use Rattle.wire_core.specs.Small.{set_key_grammar}
use Rattle.wire_core.specs.SmallExact.{set_key_allowed, text_allowed}
use Rattle.kind_codec.proofs.register.LatestCoderCoderLatest.put_state.Goals as goal

is_set : (n : ℕ) (o : Option Set) (s : Set) → o ≡ Some s → latest_good n o → IsSetOf n s
is_set n o s e h = subst (latest_good n) e h

pub put-requires : goal.put-requires
put-requires c =
    let set = is_set c.args.out.now.n c.args.state.now c.in-Some.set c.in-Some.is c.requires in
    subst (λ (r : Rules). set_key_grammar.allows r c.in-Some.set.key) (sym (ap rules_of c.in_ok-put_u8-in-Some.ensures)) (set_key_allowed (rules_of c.args.out.now) c.in-Some.set.key (omega arith) set.key)

pub put_text-requires : goal.put_text-requires
put_text-requires c =
    let set = is_set c.args.out.now.n c.args.state.now c.in-Some.set c.in-Some.is c.requires in
    text_allowed (rules_of c.put.new.out) c.in-Some.set.text set.text.short set.text.utf8
