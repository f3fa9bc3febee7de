use Rattle.std.proofs.Common.{◌≡◌, ◌-◌, ◌<◌, ◌≤◌, true, false, arith, length, subst, sym}
use Rattle.std.specs.List.{All}
use Rattle.vector_clock.specs.Clock.{covers, meet}
use Rattle.vector_clock.specs.Stamp.{id_of}
use Rattle.crdt_laws.specs.declared.small.Entry.{Entry}
use Rattle.crdt_laws.specs.Sets.{AreApart}
use Rattle.crdt_laws.specs.Tower.{IsStampOf}
use Rattle.crdt_laws.proofs.Loops.{item_of}
use Rattle.reset_products.specs.Cut.{clean_cut}
use Rattle.reset_products.proofs.Cutting.{IsCutting, cutting_first, cutting_last, cutting_off, cutting_on}
use Rattle.reset_products.proofs.cut.clean_cut.Goals as goal

pub loop-i-init : goal.loop-i-init
loop-i-init g c = cutting_first c.args.k.now c.as_slice-entries.result.now c.requires.clock

pub loop-i-preserved-then-not-covers : goal.loop-i-preserved-then-not-covers
loop-i-preserved-then-not-covers g c =
    let k = c.args.k.now in
    let log = c.as_slice-entries.result.now in
    let e = c.index-entries-i.result in
    let i = c.loop-i.i in
    let more : 0 < i = c.loop-i-test.true in
    let inside : i - 1 < length log = (let a : i ≤ length log = c.loop-i.auto.i in omega arith) in
    let stamps : All (λ (x : Entry _). IsStampOf k.n x.stamp) log = subst (λ l. All (λ (x : Entry _). IsStampOf k.n x.stamp) l) (sym c.as_slice-entries.ensures) c.requires.stamps in
    let met : c.meet-met.result ≡ meet c.loop-i.met e.stamp.clock = cc in
    let off : covers c.loop-i.known (id_of e.stamp) ≡ false = grind arith in
    subst (λ z. IsCutting k log (i - 1) (i - 1) z z) (sym met)
    (cutting_off k log i (i - 1) c.loop-i.cut c.loop-i.known c.loop-i.met e (omega arith) inside c.index-entries-i.is
    (item_of (λ (x : Entry _). IsStampOf k.n x.stamp) log (i - 1) e stamps inside c.index-entries-i.is) c.loop-i.invariant off)

pub loop-i-preserved : goal.loop-i-preserved
loop-i-preserved g c =
    let k = c.args.k.now in
    let log = c.as_slice-entries.result.now in
    let e = c.index-entries-i.result in
    let i = c.loop-i.i in
    let more : 0 < i = c.loop-i-test.true in
    let inside : i - 1 < length log = (let a : i ≤ length log = c.loop-i.auto.i in omega arith) in
    let stamps : All (λ (x : Entry _). IsStampOf k.n x.stamp) log = subst (λ l. All (λ (x : Entry _). IsStampOf k.n x.stamp) l) (sym c.as_slice-entries.ensures) c.requires.stamps in
    let met : c.meet-met.result ≡ meet c.loop-i.met e.stamp.clock = cc in
    let on : covers c.loop-i.known (id_of e.stamp) ≡ true = grind arith in
    subst (λ z. IsCutting k log (i - 1) c.loop-i.cut c.loop-i.known z) (sym met)
    (cutting_on k log i (i - 1) c.loop-i.cut c.loop-i.known c.loop-i.met e (omega arith) inside c.index-entries-i.is
    (item_of (λ (x : Entry _). IsStampOf k.n x.stamp) log (i - 1) e stamps inside c.index-entries-i.is) c.loop-i.invariant on)

pub returns : goal.returns
returns g c =
    let k = c.args.k.now in
    let log = c.as_slice-entries.result.now in
    let over : c.loop-i.i ≤ 0 = c.loop-i-test.false in
    subst (λ l. c.loop-i.cut ≡ clean_cut l k) c.as_slice-entries.ensures
    (cutting_last k log c.loop-i.i c.loop-i.cut c.loop-i.known c.loop-i.met (omega arith)
    (subst (λ l. All (λ (x : Entry _). IsStampOf k.n x.stamp) l) (sym c.as_slice-entries.ensures) c.requires.stamps)
    (subst AreApart (sym c.as_slice-entries.ensures) c.requires.apart) c.loop-i.invariant)
