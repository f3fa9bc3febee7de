-- A list in which the first ones were changed.
use Rattle.std.proofs.Common.{◌≡◌, ℕ, zero, suc, ◌≤◌, ◌<◌, List, [], ◌∷◌, refl, ap, sym, ◌∙◌, subst, arith, length, get_or, set, map}
use Rattle.std.specs.List.{AllByRecursion}

abbrev pub changed : {X : Type 0} → (X → X) → ℕ → List X → List X
changed f zero xs = xs
changed f (suc n) [] = []
changed f (suc n) (x ∷ xs) = f x ∷ changed f n xs

pub changed_item : {X : Type 0} (f : X → X) (P : X → Type 0) (i : ℕ) (xs : List X) (e : X) → AllByRecursion P xs → i < length xs → e ≡ get_or (changed f i xs) i e → P e
changed_item f P i [] e h m is = absurd (omega arith)
changed_item f P zero (x ∷ xs) e h m is = subst P (sym is) h.0
changed_item f P (suc i) (x ∷ xs) e h m is = changed_item f P i xs e h.1 (omega arith) is

pub changed_next : {X : Type 0} (f : X → X) (i : ℕ) (xs : List X) (e y : X) → i < length xs → e ≡ get_or (changed f i xs) i e → y ≡ f e → set (changed f i xs) i y ≡ changed f (suc i) xs
changed_next f i [] e y m is eq = absurd (omega arith)
changed_next f zero (x ∷ xs) e y m is eq = ap (λ z. z ∷ xs) (eq ∙ ap f is)
changed_next f (suc i) (x ∷ xs) e y m is eq = ap (λ z. f x ∷ z) (changed_next f i xs e y (omega arith) is eq)

pub changed_stays : {X : Type 0} (f : X → X) (i : ℕ) (xs : List X) (e : X) → i < length xs → e ≡ get_or (changed f i xs) i e → f e ≡ e → changed f i xs ≡ changed f (suc i) xs
changed_stays f i [] e m is eq = absurd (omega arith)
changed_stays f zero (x ∷ xs) e m is eq = ap (λ z. z ∷ xs) (sym is ∙ sym eq ∙ ap f is)
changed_stays f (suc i) (x ∷ xs) e m is eq = ap (λ z. f x ∷ z) (changed_stays f i xs e (omega arith) is eq)

pub changed_all : {X : Type 0} (f : X → X) (i : ℕ) (xs : List X) → length xs ≤ i → changed f i xs ≡ map f xs
changed_all f zero [] m = refl
changed_all f zero (x ∷ xs) m = absurd (omega arith)
changed_all f (suc i) [] m = refl
changed_all f (suc i) (x ∷ xs) m = ap (λ z. f x ∷ z) (changed_all f i xs (let q : suc (length xs) ≤ suc i = m in omega arith))

pub changed-length : {X : Type 0} (f : X → X) (i : ℕ) (xs : List X) → length (changed f i xs) ≡ length xs
changed-length f zero xs = refl
changed-length f (suc i) [] = refl
changed-length f (suc i) (x ∷ xs) = ap (λ (n : ℕ). suc n) (changed-length f i xs)

pub set_own : {X : Type 0} (xs : List X) (i : ℕ) (d : X) → set xs i (get_or xs i d) ≡ xs
set_own [] i d = refl
set_own (x ∷ xs) zero d = refl
set_own (x ∷ xs) (suc i) d = ap (λ z. x ∷ z) (set_own xs i d)
