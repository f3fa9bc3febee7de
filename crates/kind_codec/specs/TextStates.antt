-- The bytes of texts: a count, and each position with its character, the positions strictly rising.
use Rattle.std.specs.Prelude.{ℕ, ◌≤◌, List, length}
use Rattle.std.proofs.Common.{refl, subst, sym, arith}
use Rattle.vector_clock.specs.declared.clock.Clock.{Clock}
use Rattle.list_crdt.specs.declared.position.Step.{Step}
use Rattle.list_crdt.specs.declared.text.Cell.{Cell}
use Rattle.list_crdt.specs.Text.{IsText, at, text_meaning}
use Rattle.wire_core.specs.Reading.{Grammar, IsExact, max_listed}
use Rattle.wire_core.specs.Small.{char_grammar}
use Rattle.wire_core.specs.SmallExact.{char_exact, char_allowed, count_listed}
use Rattle.wire_core.specs.SmallInOrder.{char_in_order}
use Rattle.wire_core.specs.Steady.{IsSteady, in_order_steady}
use Rattle.wire_core.specs.Good.{AreGood}
use Rattle.kind_codec.specs.Placed.{placed_again, placed_exact, placed_grammar, placed_states, placed_states_exact, placed_states_steady, placed_taken}

abbrev pub cell_of : List Step × ℕ → Cell
cell_of p = record { at = p.0; ch = p.1 }

abbrev pub char_of : Cell → ℕ
char_of c = c.ch

-- a position and its character
abbrev pub cell_grammar : Clock → List Cell → Grammar Cell
cell_grammar d before = placed_grammar at cell_of char_of char_grammar d before

abbrev pub text_states : Clock → Grammar (List Cell)
text_states d = placed_states at cell_of char_of char_grammar d

-- four bytes can tell the number of characters
abbrev pub text_fits : List Cell → Type 0
text_fits s = length s ≤ max_listed

pub cell_exact : (d : Clock) (before : List Cell) → IsExact (cell_grammar d before)
cell_exact d before = placed_exact at cell_of char_of char_grammar (λ p. refl) char_exact (in_order_steady char_grammar char_in_order) d before

pub text_states_exact : (d : Clock) → IsExact (text_states d)
text_states_exact d = placed_states_exact at cell_of char_of char_grammar (λ p. refl) char_exact (in_order_steady char_grammar char_in_order) d

pub text_states_steady : (d : Clock) → IsSteady (text_states d)
text_states_steady d = placed_states_steady at cell_of char_of char_grammar (λ p. refl) char_exact (in_order_steady char_grammar char_in_order) d

-- the texts that are allowed are those that are good
pub text_good : AreGood text_meaning text_fits text_states
text_good = record {
  taken = λ r d s k n a.
      let t = placed_taken at cell_of char_of char_grammar r d s a.1 in
      record {
        text = subst (λ (m : ℕ). IsText m s) (sym n) (record { rising = t.rising; cells = λ i c lt. record { position = t.positions i c lt; char = (t.rests i c lt).1 } });
        known = t.known;
      };
  again = λ r d s k n a f.
      let text = subst (λ (m : ℕ). IsText m s) n a.text in
      let few = k.most in (
        count_listed r (length s) f,
        placed_again at cell_of char_of char_grammar (λ c. refl) r d s (omega (arith, n)) (record {
          rising = text.rising;
          positions = λ i c lt. (text.cells i c lt).position;
          known = a.known;
          rests = λ i c lt. char_allowed r _ (text.cells i c lt).char;
        }),
      );
}
