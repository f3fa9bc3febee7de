-- Rules that are looked at one after another. Each says of a result whether it is the right one.
use Rattle.std.specs.Prelude.{◌≡◌, ◌⊎◌, Option, None, Some, Result, Ok, Err}

module _ {A E : Type 0} where
  -- A rule, and what comes after it. Where the rule does not hold, its fault is the result.
  abbrev pub Demands : Type 0 → E → (Result A E → Type 0) → Result A E → Type 0
  Demands P fault next r = ((¬ P) × (r ≡ Err fault)) ⊎ (P × next r)

  module _ {X : Type 0} where
    -- What is read, and what comes after it. Where nothing is read, the fault is the result.
    abbrev pub Reads : Option X → E → (X → Result A E → Type 0) → Result A E → Type 0
    Reads read fault next r = ((read ≡ None) × (r ≡ Err fault)) ⊎ ((x : X) × (read ≡ Some x) × next x r)

    -- Other rules, and what comes after them. Their fault is the result, or what they give goes on.
    abbrev pub Follows : (Result X E → Type 0) → (X → Result A E → Type 0) → Result A E → Type 0
    Follows rules next r = ((fault : E) × rules (Err fault) × (r ≡ Err fault)) ⊎ ((x : X) × rules (Ok x) × next x r)
