use Rattle.std.proofs.Common.{◌≡◌, ◌<◌, ◌≤◌, ◌∙◌, length, get_or, ap, subst}
use Rattle.std.specs.List.{HoldsAt, swap, swap_remove}
use Rattle.vector_clock.specs.Stamp.{id_of}
use Rattle.crdt_laws.specs.Tower.{Lacks}
use Rattle.map_crdt.specs.KeyedLaws.{lacks}
use Rattle.map_crdt.proofs.Places.{IsGap, absent_there, state_read, written_back, written_new}
use Rattle.map_crdt.proofs.keyed.KeyedTower.apply.Goals as goal
use Rattle.map_crdt.proofs.keyed.KeyedTower.apply.Goals.{in-Ok+in_ok-state-in-Ok+in_ok-push-in-Ok, in-Err+in_ok-first-in-Err+in_ok-state-in-Err+in_ok-key-in-Err+in_ok-insert-in-Err}

pub apply-requires-clause-fresh : goal.apply-requires-clause-fresh
apply-requires-clause-fresh g c =
    let m = g.T.Tower.meaning c.args.self.now.part in
    let es = c.args.state in
    let k = c.args.op.now.key in
    let items = c.pairs.view_is ∙ c.state.view_is in
    let slice = c.as_slice.ensures.value ∙ items in
    let x = c.swap_remove-key.result in
    let there = state_read m es c.requires.good.rising k c.in-Ok.at x (subst (λ l. c.in-Ok.at < length l) slice c.in-Ok.ensures.within)
    (subst (λ l. HoldsAt (λ e. e.key ≡ k) l c.in-Ok.at) slice c.in-Ok.ensures.found) (subst (λ l. x ≡ get_or l c.in-Ok.at x) items c.swap_remove-key.ensures.value) in
    subst (λ s. Lacks m s (id_of c.args.stamp.now)) there.state (lacks m (g.met.T.Tower.lawful c.args.self.now.part) es k (id_of c.args.stamp.now) c.requires.fresh)

pub returns-clause-ok : goal.returns-clause-ok
returns-clause-ok g c =
    let m = g.T.Tower.meaning c.args.self.now.part in
    let es = c.args.state in
    let k = c.args.op.now.key in
    let items = c.pairs.view_is ∙ c.state.view_is in
    let slice = c.as_slice.ensures.value ∙ items in
    elim c.match-place_of.branch [
      | in-Ok+in_ok-state-in-Ok+in_ok-push-in-Ok w ↦
          (let x = w.swap_remove-key.result in
          let at = w.in-Ok.at in
          let rest = w.swap_remove-key.new.self.items in
          let within = subst (λ l. at < length l) slice w.in-Ok.ensures.within in
          let here = subst (λ l. HoldsAt (λ e. e.key ≡ k) l at) slice w.in-Ok.ensures.found in
          let is = subst (λ l. x ≡ get_or l at x) items w.swap_remove-key.ensures.value in
          let there = state_read m es c.requires.good.rising k at x within here is in
          let pushed = w.in_ok-push-in-Ok.ensures.items in
          ap (λ v. v.items) w.items-is ∙ w.swap.ensures.items ∙ ap (λ l. swap l at w.len-last.result) pushed
          ∙ written_back m es k at x there (ap (λ e. e.key) is ∙ here x) within rest (w.swap_remove-key.ensures.items ∙ ap (λ l. swap_remove l at x) items)
          c.args.stamp.now c.args.op.now.op w.in_ok-state-in-Ok.state w.in_ok-state-in-Ok.ensures.ok w.len-last.result (w.len-last.ensures ∙ w.swap_remove-key.new.self.ok.0))
      | in-Err+in_ok-first-in-Err+in_ok-state-in-Err+in_ok-key-in-Err+in_ok-insert-in-Err w ↦
          (let at = w.in-Err.at in
          let absent = absent_there m es k at (subst (λ l. at ≤ length l) slice w.in-Err.ensures.within) (subst (λ l. IsGap l k at) slice w.in-Err.ensures.absent) in
          ap (λ v. v.items) w.items-is ∙ w.in_ok-insert-in-Err.ensures.items
          ∙ written_new m es k at absent c.pairs.inside.items.items items w.in_ok-key-in-Err.key w.in_ok-key-in-Err.ensures c.args.stamp.now c.args.op.now.op
          w.in_ok-first-in-Err.first w.in_ok-state-in-Err.state w.in_ok-first-in-Err.ensures.ok w.in_ok-state-in-Err.ensures.ok)
    ]
