-- Things that are written one after the other.
use Rattle.std.proofs.Common.{◌≡◌, ℕ, zero, suc, ◌+◌, ◌<◌, get_or, min, take, Result, Ok, Err, OnOk, List, [], ◌∷◌, ◌++◌, length, ap, sym, subst, ◌∙◌, arith}
use Rattle.std.specs.List.{AllByRecursion}
use Rattle.vector_clock.specs.declared.clock.Clock.{Clock}
use Rattle.wire_core.specs.declared.byte_out.ByteOut.{ByteOut}
use Rattle.wire_core.specs.Reading.{Grammar, number, listed, max_listed, spell_each}
use Rattle.wire_core.specs.Calls.{rules_of, wrote}
use Rattle.wire_core.specs.Entries.{each_put, wrote_more}

-- a clock, where any will do
any_clock : Clock
any_clock = record { n = 0; at = [] }

-- what is written of something at each clock leaves the rules as they are
pub rules_stay : (mid end : ByteOut) (bytes : Clock → List ℕ) → ((d : Clock) → end ≡ wrote mid (bytes d)) → rules_of end ≡ rules_of mid
rules_stay mid end bytes h = ap rules_of (h any_clock)

-- an element of a list
pub element : {X : Type 0} (P : X → Type 0) (xs : List X) (i : ℕ) (x d : X) → AllByRecursion P xs → i < length xs → x ≡ get_or xs i d → P x
element P [] i x d h lt e = absurd (omega arith)
element P (y ∷ ys) zero x d h lt e = subst P (sym e) h.0
element P (y ∷ ys) (suc i) x d h lt e = element P ys i x d h.1 (omega (arith, lt)) e

-- a thing more, written behind those before it
pub one_more : {A : Type 0} (g : List A → Grammar A) (start mid end : ByteOut) (xs : List A) (i : ℕ) (x : A) → i < length xs → x ≡ get_or xs i x
    → mid ≡ wrote start (spell_each g (rules_of start) [] (take i xs)) → end ≡ wrote mid ((g (take i xs)).spell (rules_of mid) x)
    → end ≡ wrote start (spell_each g (rules_of start) [] (take (i + 1) xs))
one_more g start mid end xs i x lt is before now =
    each_put g start mid end xs i x lt before (now ∙ ap (λ (y : _). wrote mid ((g (take i xs)).spell (rules_of mid) y)) is)

-- a count, and what it counts
pub listed_put : {A : Type 0} (g : List A → Grammar A) (start mid end : ByteOut) (xs : List A) (count : ℕ) → count ≡ length xs
    → mid ≡ wrote start ((number 4).spell (rules_of start) (min count max_listed)) → end ≡ wrote mid (spell_each g (rules_of mid) [] xs) → end ≡ wrote start ((listed g).spell (rules_of start) xs)
listed_put g start mid end xs count same first now =
    let r = rules_of start in
    now ∙ ap (λ (m : ByteOut). wrote m (spell_each g (rules_of m) [] xs)) first ∙ wrote_more start ((number 4).spell r (min count max_listed)) (spell_each g r [] xs)
    ∙ ap (λ (n : ℕ). wrote start ((number 4).spell r (min n max_listed) ++ spell_each g r [] xs)) same

pub on_ok : {A E : Type 0} (r : Result A E) (P Q : Type 0) → (P → Q) → OnOk r P → OnOk r Q
on_ok (Ok x) P Q f h = f h
on_ok (Err e) P Q f h = h
