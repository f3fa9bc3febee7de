-- The last of some things.
use Rattle.std.proofs.Common.{◌≡◌, ℕ, suc, ◌-◌, ◌<◌, Some, None, List, [], ◌∷◌, length, get_or, refl, sym, ap, ◌∙◌, arith}
use Rattle.std.specs.List.{last_or}

module _ {X : Type 0} where
  last_behind : (x : X) (xs : List X) (d : X) → last_or (Some x) xs ≡ Some (get_or (x ∷ xs) (length xs) d)
  last_behind x [] d = refl
  last_behind x (y ∷ ys) d = last_behind y ys d

  pub last_is : (xs : List X) (x : X) → 0 < length xs → x ≡ get_or xs (length xs - 1) x → last_or None xs ≡ Some x
  last_is [] x some e = absurd (omega arith)
  last_is (y ∷ ys) x some e =
      let at : suc (length ys) - 1 ≡ length ys = omega arith in
      last_behind y ys x ∙ ap (λ (k : ℕ). Some (get_or (y ∷ ys) k x)) (sym at) ∙ ap (λ (z : X). Some z) (sym e)
