-- A text has one reading, or one fault.
use Rattle.std.specs.Prelude.{◌≡◌, ◌≢◌, ℕ, ◌-◌, List, length, Some, None}
use Rattle.std.proofs.Common.{refl, ap, sym, ◌∙◌, subst, arith, inl, inr}
use Rattle.std.proofs.lemmas.Bool.{cases_order}
use Rattle.serde_json.specs.Data.{Data}
use Rattle.action_tables.specs.declared.table.Shape.{Shape}
use Rattle.action_tables.specs.declared.table.Shape.TheVariants.{Size, Level, Entry}
use Rattle.action_tables.specs.declared.named.TableFault.{TableFault}
use Rattle.action_tables.specs.declared.named.TableFault.TheVariants.{NotJson, Form, Name, Twice, NoMemory, Shape as ShapeFault}
use Rattle.action_tables.specs.declared.written.WrittenTable.{WrittenTable}
use Rattle.action_tables.specs.Table.{ActionTable, IsTable, IsFirstOutside, op_count}
use Rattle.action_tables.specs.Verdict.{HasFault}
use Rattle.action_tables.specs.TableText.{IsJson, IsWritten, HasShapeFault, HasTextFault, HasWrittenFault, IsAccepted, Spells, written_of, parts_of}

-- a text is one value, and one table
pub value_alike : (text : List ℕ) (d e : Data) → IsJson text d → IsJson text e → d ≡ e
value_alike text d e h j = let same : Some d ≡ Some e = sym h.1 ∙ j.1 in cc

written_alike : (text : List ℕ) (w v : WrittenTable) → IsWritten text w → IsWritten text v → w ≡ v
written_alike text w v h j =
    let same : Some w ≡ Some v =
    sym h.form ∙ ap written_of (value_alike text h.value j.value h.json j.json) ∙ j.form in
    cc

formed : (text : List ℕ) (d : Data) (w : WrittenTable) → IsJson text d → written_of d ≡ None → IsWritten text w → ⊥
formed text d w h none j =
    let same : None ≡ Some w = sym none ∙ ap written_of (value_alike text d j.value h j.json) ∙ j.form in
    cc

-- parts that make a table have no fault
outside_none : (t : ActionTable) (at : ℕ) → IsTable t → IsFirstOutside t.states (op_count t) t.next t.act at → ⊥
outside_none t at table first = elim first.outside [
  | inl h ↦ omega (arith, h.1, table.entries.next at h.0)
  | inr h ↦ omega (arith, h.2, table.entries.act (at - length t.next) (omega (arith, h.0, h.1)))
]

pub faultless : (t : ActionTable) (f : Shape) → IsTable t → HasFault t f → ⊥
faultless t Size table h = h table.sizes
faultless t Level table h = h.1 table.levels
faultless t (Entry at) table h = outside_none t at table h.2

-- and others have one
first_at : (t : ActionTable) (i j : ℕ) → IsFirstOutside t.states (op_count t) t.next t.act i
    → IsFirstOutside t.states (op_count t) t.next t.act j → i ≡ j
first_at t i j h k = elim (cases_order i j) [
  | inl same ↦ same
  | inr (inl low) ↦ absurd (k.first i low h.outside)
  | inr (inr high) ↦ absurd (h.first j high k.outside)
]

pub fault_alike : (t : ActionTable) (f g : Shape) → HasFault t f → HasFault t g → f ≡ g
fault_alike t Size Size h k = refl
fault_alike t Size Level h k = absurd (h k.0)
fault_alike t Size (Entry j) h k = absurd (h k.0)
fault_alike t Level Size h k = absurd (k h.0)
fault_alike t Level Level h k = refl
fault_alike t Level (Entry j) h k = absurd (h.1 k.1)
fault_alike t (Entry i) Size h k = absurd (k h.0)
fault_alike t (Entry i) Level h k = absurd (k.1 h.1)
fault_alike t (Entry i) (Entry j) h k = ap Entry (first_at t i j h.2 k.2)

pub shape_alike : (w : WrittenTable) (f g : Shape) → HasShapeFault w f → HasShapeFault w g → f ≡ g
shape_alike w f g (inl h) (inl k) = h.1 ∙ sym k.1
shape_alike w f g (inl h) (inr k) = absurd (h.0 k.0)
shape_alike w f g (inr h) (inl k) = absurd (k.0 h.0)
shape_alike w f g (inr h) (inr k) = fault_alike (parts_of w) f g h.1 k.1

written_fault_alike : (w : WrittenTable) (f g : TableFault) → HasWrittenFault w f → HasWrittenFault w g → f ≢ NoMemory
    → g ≢ NoMemory → f ≡ g
written_fault_alike w NotJson g h k m n = absurd h
written_fault_alike w Form g h k m n = absurd h
written_fault_alike w NoMemory g h k m n = absurd (m refl)
written_fault_alike w Name NotJson h k m n = absurd k
written_fault_alike w Name Form h k m n = absurd k
written_fault_alike w Name Name h k m n = refl
written_fault_alike w Name Twice h k m n = absurd (h k.0)
written_fault_alike w Name (ShapeFault g) h k m n = absurd (h k.0)
written_fault_alike w Name NoMemory h k m n = absurd (n refl)
written_fault_alike w Twice NotJson h k m n = absurd k
written_fault_alike w Twice Form h k m n = absurd k
written_fault_alike w Twice Name h k m n = absurd (k h.0)
written_fault_alike w Twice Twice h k m n = refl
written_fault_alike w Twice (ShapeFault g) h k m n = absurd (h.1 k.1)
written_fault_alike w Twice NoMemory h k m n = absurd (n refl)
written_fault_alike w (ShapeFault f) NotJson h k m n = absurd k
written_fault_alike w (ShapeFault f) Form h k m n = absurd k
written_fault_alike w (ShapeFault f) Name h k m n = absurd (k h.0)
written_fault_alike w (ShapeFault f) Twice h k m n = absurd (k.1 h.1)
written_fault_alike w (ShapeFault f) (ShapeFault g) h k m n = ap ShapeFault (shape_alike w f g h.2 k.2)
written_fault_alike w (ShapeFault f) NoMemory h k m n = absurd (n refl)

-- two faults of texts of the form
both : (text : List ℕ) (w v : WrittenTable) (f g : TableFault) → IsWritten text w → IsWritten text v → HasWrittenFault w f
    → HasWrittenFault v g → f ≢ NoMemory → g ≢ NoMemory → f ≡ g
both text w v f g one two h k m n =
    written_fault_alike v f g (subst (λ w. HasWrittenFault w f) (written_alike text w v one two) h) k m n

pub one_fault_lem : (text : List ℕ) (f g : TableFault) → HasTextFault text f → HasTextFault text g → f ≢ NoMemory
    → g ≢ NoMemory → f ≡ g
one_fault_lem text NoMemory g h k m n = absurd (m refl)
one_fault_lem text NotJson NotJson h k m n = refl
one_fault_lem text NotJson Form h k m n = absurd (h k.0 k.1)
one_fault_lem text NotJson Name h k m n = absurd (h k.1.value k.1.json)
one_fault_lem text NotJson Twice h k m n = absurd (h k.1.value k.1.json)
one_fault_lem text NotJson (ShapeFault g) h k m n = absurd (h k.1.value k.1.json)
one_fault_lem text NotJson NoMemory h k m n = absurd (n refl)
one_fault_lem text Form NotJson h k m n = absurd (k h.0 h.1)
one_fault_lem text Form Form h k m n = refl
one_fault_lem text Form Name h k m n = absurd (formed text h.0 k.0 h.1 h.2 k.1)
one_fault_lem text Form Twice h k m n = absurd (formed text h.0 k.0 h.1 h.2 k.1)
one_fault_lem text Form (ShapeFault g) h k m n = absurd (formed text h.0 k.0 h.1 h.2 k.1)
one_fault_lem text Form NoMemory h k m n = absurd (n refl)
one_fault_lem text Name NotJson h k m n = absurd (k h.1.value h.1.json)
one_fault_lem text Name Form h k m n = absurd (formed text k.0 h.0 k.1 k.2 h.1)
one_fault_lem text Name Name h k m n = refl
one_fault_lem text Name Twice h k m n = both text h.0 k.0 Name Twice h.1 k.1 h.2 k.2 m n
one_fault_lem text Name (ShapeFault g) h k m n = both text h.0 k.0 Name (ShapeFault g) h.1 k.1 h.2 k.2 m n
one_fault_lem text Name NoMemory h k m n = absurd (n refl)
one_fault_lem text Twice NotJson h k m n = absurd (k h.1.value h.1.json)
one_fault_lem text Twice Form h k m n = absurd (formed text k.0 h.0 k.1 k.2 h.1)
one_fault_lem text Twice Name h k m n = both text h.0 k.0 Twice Name h.1 k.1 h.2 k.2 m n
one_fault_lem text Twice Twice h k m n = refl
one_fault_lem text Twice (ShapeFault g) h k m n = both text h.0 k.0 Twice (ShapeFault g) h.1 k.1 h.2 k.2 m n
one_fault_lem text Twice NoMemory h k m n = absurd (n refl)
one_fault_lem text (ShapeFault f) NotJson h k m n = absurd (k h.1.value h.1.json)
one_fault_lem text (ShapeFault f) Form h k m n = absurd (formed text k.0 h.0 k.1 k.2 h.1)
one_fault_lem text (ShapeFault f) Name h k m n = both text h.0 k.0 (ShapeFault f) Name h.1 k.1 h.2 k.2 m n
one_fault_lem text (ShapeFault f) Twice h k m n = both text h.0 k.0 (ShapeFault f) Twice h.1 k.1 h.2 k.2 m n
one_fault_lem text (ShapeFault f) (ShapeFault g) h k m n = both text h.0 k.0 (ShapeFault f) (ShapeFault g) h.1 k.1 h.2 k.2 m n
one_fault_lem text (ShapeFault f) NoMemory h k m n = absurd (n refl)

-- a text that is accepted has no fault
accepted_faultless : (w : WrittenTable) (f : TableFault) → IsAccepted w → HasWrittenFault w f → f ≡ NoMemory
accepted_faultless w NotJson a h = absurd h
accepted_faultless w Form a h = absurd h
accepted_faultless w Name a h = absurd (h a.names)
accepted_faultless w Twice a h = absurd (h.1 a.apart)
accepted_faultless w (ShapeFault f) a h = elim h.2 [
  | inl wrong ↦ absurd (wrong.0 a.rows)
  | inr wrong ↦ absurd (faultless (parts_of w) f a.table wrong.1)
]
accepted_faultless w NoMemory a h = refl

fault_where : (text : List ℕ) (w v : WrittenTable) (f : TableFault) → IsWritten text w → IsWritten text v → IsAccepted w
    → HasWrittenFault v f → f ≡ NoMemory
fault_where text w v f one two a h =
    accepted_faultless v f (subst (λ w. IsAccepted w) (written_alike text w v one two) a) h

pub no_fault_lem : (text : List ℕ) (t : ActionTable) (states ops : List (List ℕ)) (f : TableFault)
    → Spells text t states ops
    → HasTextFault text f → f ≡ NoMemory
no_fault_lem text t states ops NotJson s h = absurd (h s.reads.value s.reads.json)
no_fault_lem text t states ops Form s h = absurd (formed text h.0 s.written h.1 h.2 s.reads)
no_fault_lem text t states ops Name s h = fault_where text s.written h.0 Name s.reads h.1 s.accepted h.2
no_fault_lem text t states ops Twice s h = fault_where text s.written h.0 Twice s.reads h.1 s.accepted h.2
no_fault_lem text t states ops (ShapeFault f) s h = fault_where text s.written h.0 (ShapeFault f) s.reads h.1 s.accepted h.2
no_fault_lem text t states ops NoMemory s h = refl
