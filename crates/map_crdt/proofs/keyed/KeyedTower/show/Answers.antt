use Rattle.std.proofs.Common.{◌≡◌, ◌∙◌, suc, ◌+◌, take, sym, subst, ap, arith}
use Rattle.std.proofs.lemmas.List.{take_all}
use Rattle.serde_json.specs.Data.{object}
use Rattle.serde_json.specs.Data as json
use Rattle.serde_json.specs.View.{members_view, view}
use Rattle.serde_json.proofs.Views.{view-Object, members_view-insert_entry}
use Rattle.map_crdt.specs.Keyed.{AreRising, members}
use Rattle.map_crdt.proofs.Steps.{members_more}
use Rattle.map_crdt.proofs.keyed.KeyedTower.show.Goals as goal

pub loop-pair-preserved : goal.loop-pair-preserved
loop-pair-preserved g c =
    let m = g.T.Tower.meaning c.args.self.now.part in
    let items = c.deref-pair-items.result.now in
    let is = c.deref-pair-items.ensures.value ∙ ap (λ s. s.pairs) c.state-inside.view_is ∙ c.state.view_is in
    let old = members_view c.loop-pair.object.entries in
    let x = c.pair-item.result in
    let one : suc c.loop-pair.pair-index ≡ c.loop-pair.pair-index + 1 = omega arith in
    ap members_view c.in_ok-insert.ensures.entries
    ∙ members_view-insert_entry c.loop-pair.object.entries c.in_ok-name.name c.in_ok-value.value
    ∙ ap (λ k. json.put k (view c.in_ok-value.value) old) c.in_ok-name.ensures
    ∙ ap (λ d. json.put x.key d old) c.in_ok-value.ensures
    ∙ ap (json.put x.key (m.show x.state)) c.loop-pair.invariant
    ∙ members_more m items (subst AreRising (sym is) c.requires.good.rising) c.loop-pair.pair-index x c.loop-pair-test.true c.pair-item.is
    ∙ ap (λ n. members m (take n items)) one

pub returns : goal.returns
returns g c =
    let all : take c.loop-pair.pair-index c.deref-pair-items.result.now ≡ c.deref-pair-items.result.now = take_all c.loop-pair.pair-index c.deref-pair-items.result.now (omega arith) in
    view-Object c.loop-pair.object
    ∙ ap object (c.loop-pair.invariant ∙ ap (members (g.T.Tower.meaning c.args.self.now.part)) (all ∙ c.deref-pair-items.ensures.value ∙ ap (λ s. s.pairs) c.state-inside.view_is ∙ c.state.view_is))
