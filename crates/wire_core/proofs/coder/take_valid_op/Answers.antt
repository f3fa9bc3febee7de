use Rattle.std.proofs.Common.{◌≡◌, ◌↔◌, Bool, true, false, IsTrue, refl, sym}
use Rattle.vector_clock.specs.declared.stamp.Stamp.{Stamp}
use Rattle.crdt_laws.specs.Tower.{Meaning, IsStampOf, IsWithin}
use Rattle.wire_core.specs.declared.byte_in.ByteIn.{ByteIn}
use Rattle.wire_core.specs.Reading.{Grammar, Input, BadAt, Got, IsExact, Stop, only}
use Rattle.wire_core.specs.Calls.{IsInside, input_of}
use Rattle.wire_core.specs.Stands.{Tells}
use Rattle.wire_core.specs.Taken.{taken_allowed}
use Rattle.wire_core.proofs.coder.take_valid_op.Goals as goal

same : (a b : Bool) → (a ≡ true → b ≡ true) → (b ≡ true → a ≡ true) → a ≡ b
same true b h k = sym (h refl)
same false true h k = k refl
same false false h k = refl

module _ {S O : Type 0} (m : Meaning S O) (gr : Grammar O) (exact : IsExact gr) (may_stand : Stamp → O → Bool) (tells : Tells m gr may_stand) (b : ByteIn) (p : Stamp) (x : O) (j : Input) (ok : Bool) where
  told : IsInside b → IsStampOf b.n p → IsWithin p → gr.read (input_of b) ≡ Got x j → IsTrue ok ↔ m.valid p x → may_stand p x ≡ ok
  told inside stamp within took valid =
      let t = tells.each (input_of b).rules p x stamp within (taken_allowed gr exact b x j inside took) in
      same (may_stand p x) ok (λ h. valid.1 (t.0 h)) (λ h. t.1 (valid.0 h))

  passes : gr.read (input_of b) ≡ Got x j → may_stand p x ≡ true → (only (λ _ y. may_stand p y) gr).read (input_of b) ≡ Got x j
  passes h t = rw (h, t) refl

  refuses : gr.read (input_of b) ≡ Got x j → may_stand p x ≡ false → (only (λ _ y. may_stand p y) gr).read (input_of b) ≡ Stop (BadAt b.at)
  refuses h t = rw (h, t) refl

pub returns-then-valid : goal.returns-then-valid
returns-then-valid g c =
    let m = g.T.Tower.meaning c.args.tower.now in
    let of = g.C.Coder.op_grammar c.args.coder.now c.args.tower.now in
    let exact = g.met.C.Coder.op_exact c.args.coder.now c.args.tower.now in
    let stands = g.C.Coder.may_stand c.args.coder.now c.args.tower.now in
    let tells = g.met.C.Coder.op_tells c.args.coder.now c.args.tower.now in
    let took = c.in_ok-op.ensures.0 in
    let b = c.args.from.now in
    let is = told m of exact stands tells b c.args.stamp.now c.in_ok-op.op (input_of c.take_op.new.from) true c.requires.inside c.requires.stamp c.requires.within took c.if-valid.ensures in
    (passes m of exact stands tells b c.args.stamp.now c.in_ok-op.op (input_of c.take_op.new.from) true took is, c.in_ok-op.ensures.1)

pub returns-else-valid : goal.returns-else-valid
returns-else-valid g c =
    let m = g.T.Tower.meaning c.args.tower.now in
    let of = g.C.Coder.op_grammar c.args.coder.now c.args.tower.now in
    let exact = g.met.C.Coder.op_exact c.args.coder.now c.args.tower.now in
    let stands = g.C.Coder.may_stand c.args.coder.now c.args.tower.now in
    let tells = g.met.C.Coder.op_tells c.args.coder.now c.args.tower.now in
    let took = c.in_ok-op.ensures.0 in
    let b = c.args.from.now in
    let is = told m of exact stands tells b c.args.stamp.now c.in_ok-op.op (input_of c.take_op.new.from) false c.requires.inside c.requires.stamp c.requires.within took c.if-valid.ensures in
    refuses m of exact stands tells b c.args.stamp.now c.in_ok-op.op (input_of c.take_op.new.from) false took is
