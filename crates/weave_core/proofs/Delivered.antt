-- Steps of an arrival.
use Rattle.std.proofs.Common.{◌≡◌, List, ap, ap₂, ◌∙◌, map}
use Rattle.vector_clock.specs.declared.stamp.Stamp.{Stamp}
use Rattle.crdt_laws.specs.declared.small.Entry.{Entry}
use Rattle.crdt_laws.specs.Entry.{entry}
use Rattle.crdt_laws.specs.Present.{acted, present}
use Rattle.crdt_laws.specs.Sets.{place}
use Rattle.crdt_laws.specs.Tower.{Meaning}
use Rattle.std.specs.Prelude.{if◌then◌else◌}
use Rattle.weave_core.specs.Deliver.{Weave, deliver, is_high, woven_with}

-- the parts of an arrival
pub arrived : {State Op : Type 0} (t : Meaning State Op) (w : Weave State Op) (s : Stamp) (op form : Op) (state : State) (h joined_h : List (Entry Op)) → h ≡ w.history → entry s form ≡ present t h (entry s op)
    → state ≡ t.apply w.state s form → joined_h ≡ (if is_high t (entry s form) then place (entry s form) (map (acted t (entry s form)) w.history) else map (acted t (entry s form)) w.history)
    → record { state = state; history = joined_h } ≡ deliver t w (entry s op)
unfolding woven_with
arrived {State} {Op} t w s op form state h joined_h eh ef es ej =
    ap₂ (λ (a : State) (l : List (Entry Op)). record { state = a; history = l }) es ej
    ∙ ap (woven_with t w) (ef ∙ ap (λ l. present t l (entry s op)) eh)
