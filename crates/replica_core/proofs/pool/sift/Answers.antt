use Rattle.std.proofs.Common.{◌++◌, ◌≡◌, ◌∙◌, Contains, ap, not, subst, sym}
use Rattle.std.specs.List.{All, filter}
use Rattle.std.proofs.lemmas.Result.{IfOk-weaker}
use Rattle.crdt_laws.specs.Sets.{IsHonest, union}
use Rattle.replica_model.specs.Replica.{ready, unready}
use Rattle.replica_core.specs.Frontier.{frontier, is_at_most}
use Rattle.replica_core.specs.Rows.{AreByKey, IsFrom}
use Rattle.replica_core.proofs.Gathered.{IsLess, by_key-filter, from_once, honest_less, less_filter, less_twice, ok_both, pooled_is, ready_is, stamps, unready_is}
use Rattle.replica_core.proofs.pool.sift.Goals as goal

pub union-requires-2-clause-left_stamps : goal.union-requires-2-clause-left_stamps
union-requires-2-clause-left_stamps g c =
    stamps c.args.n c.in_ok-own.own (from_once c.args.n c.args.delivered c.args.waiting c.in_ok-own.own c.in_ok-own.ensures.from c.requires.delivered.from c.requires.waiting.from)

pub frontier-front-requires-clause-ops : goal.frontier-front-requires-clause-ops
frontier-front-requires-clause-ops g c =
    let n = c.args.n in
    let own : All (IsFrom n) c.in_ok-own.own = from_once n c.args.delivered c.args.waiting c.in_ok-own.own c.in_ok-own.ensures.from c.requires.delivered.from c.requires.waiting.from in
    subst (All (IsFrom n)) (sym c.as_slice.ensures) (from_once n c.in_ok-own.own c.args.arrived c.in_ok-all.all c.in_ok-all.ensures.from own c.requires.arrived.from)

pub split-requires : goal.split-requires
split-requires g c =
    let n = c.args.n in
    let own : All (IsFrom n) c.in_ok-own.own = from_once n c.args.delivered c.args.waiting c.in_ok-own.own c.in_ok-own.ensures.from c.requires.delivered.from c.requires.waiting.from in
    let all : All (IsFrom n) c.in_ok-all.all = from_once n c.in_ok-own.own c.args.arrived c.in_ok-all.all c.in_ok-all.ensures.from own c.requires.arrived.from in
    record {
      ops = subst (λ k. All (IsFrom k) c.in_ok-all.all) (sym c.frontier-front.ensures.known.members) all;
      front = c.frontier-front.ensures.known.clock;
    }

pub returns : goal.returns
returns g c =
    let n = c.args.n in
    let d = c.args.delivered in
    let w = c.args.waiting in
    let a = c.args.arrived in
    let own = c.in_ok-own.own in
    let all = c.in_ok-all.all in
    let front = c.frontier-front.result in
    let total = (d ++ w) ++ a in
    let r = c.split.result in
    let less : IsLess all total = less_twice d w a own all c.in_ok-own.ensures.from c.in_ok-all.ensures.from in
    let is : front ≡ frontier n all = c.frontier-front.ensures.frontier ∙ ap (frontier n) c.as_slice.ensures in
    let both = ok_both r (λ x. x.0 ≡ filter (λ e. is_at_most e.stamp.clock front) all) (λ x. x.1 ≡ filter (λ e. not (is_at_most e.stamp.clock front)) all) c.split.ensures.ready c.split.ensures.unready in
    let key : AreByKey n all = record {
      from = from_once n own a all c.in_ok-all.ensures.from (from_once n d w own c.in_ok-own.ensures.from c.requires.delivered.from c.requires.waiting.from) c.requires.arrived.from;
      rising = c.in_ok-all.ensures.rises;
    } in
    record {
      sifted =
          IfOk-weaker r _ (λ x. IsHonest total → (x.0 ≡ ready (union (union d w) a)) × (x.1 ≡ unready (union (union d w) a)))
          (λ x h honest.
          (let fair : IsHonest all = honest_less all total less honest in
          let pooled = pooled_is d w a own all c.in_ok-own.ensures.from c.in_ok-own.ensures.joined c.in_ok-all.ensures.joined honest in (
            h.0 ∙ ready_is n all front c.requires.most key fair is ∙ ap ready pooled,
            h.1 ∙ unready_is n all front c.requires.most key fair is ∙ ap unready pooled,
          )))
          both;
      by_key =
          IfOk-weaker r _ (λ x. AreByKey n x.0 × AreByKey n x.1)
          (λ x h. (subst (AreByKey n) (sym h.0) (by_key-filter n _ all key), subst (AreByKey n) (sym h.1) (by_key-filter n _ all key))) both;
      ready_from = IfOk-weaker r _ (λ x. IsLess x.0 total) (λ x h e k. less e (less_filter _ all e (subst (λ z. Contains z e) h.0 k))) both;
      unready_from = IfOk-weaker r _ (λ x. IsLess x.1 total) (λ x h e k. less e (less_filter _ all e (subst (λ z. Contains z e) h.1 k))) both;
    }
