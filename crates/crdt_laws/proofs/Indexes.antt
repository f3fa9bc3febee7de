-- The present forms by two indexes.
use Rattle.std.proofs.Common.{◌≡◌, ℕ, zero, suc, ◌+◌, ◌<◌, List, [], ◌∷◌, ◌++◌, refl, ap, sym, ◌∙◌, arith, map, fold, length, get_or, take, take-suc, length-append, length-take, Some, option_map, slice_get}
use Rattle.std.proofs.lemmas.Option.{slice_get_within}
use Rattle.crdt_laws.specs.declared.small.Entry.{Entry}
use Rattle.crdt_laws.specs.Tower.{Meaning}
use Rattle.crdt_laws.specs.Present.{acted, apply_all, document, form_at, forms, own_forms, present, with_next}

fold-append : {A B : Type 0} (f : B → A → B) (b : B) (xs ys : List A) → fold f b (xs ++ ys) ≡ fold f (fold f b xs) ys
fold-append f b [] ys = refl
fold-append f b (x ∷ xs) ys = fold-append f (f b x) xs ys

get_at_end : {A : Type 0} (l : List A) (a : A) → slice_get (l ++ a ∷ []) (length l) ≡ Some a
get_at_end [] a = refl
get_at_end (b ∷ l) a = get_at_end l a

get_before : {A : Type 0} (l m : List A) (k : ℕ) → k < length l → slice_get (l ++ m) k ≡ slice_get l k
get_before [] m k h = absurd (omega arith)
get_before (b ∷ l) m zero h = refl
get_before (b ∷ l) m (suc k) h = get_before l m k (let g : suc k < suc (length l) = h in omega arith)

get-map : {A : Type 0} (f : A → A) (l : List A) (k : ℕ) → slice_get (map f l) k ≡ option_map f (slice_get l k)
get-map f [] k = refl
get-map f (b ∷ l) zero = refl
get-map f (b ∷ l) (suc k) = get-map f l k

length-acted : {A : Type 0} (f : A → A) (l : List A) → length (map f l) ≡ length l
length-acted f [] = refl
length-acted f (b ∷ l) = ap (λ (n : ℕ). suc n) (length-acted f l)

-- one more operation
forms_next : {State Op : Type 0} (t : Meaning State Op) (xs : List (Entry Op)) (j : ℕ) (d : Entry Op) → j < length xs → forms t (take (suc j) xs) ≡ with_next t (forms t (take j xs)) (get_or xs j d)
forms_next {Op = Op} t xs j d h = ap (forms t) (take-suc xs j d h) ∙ fold-append (with_next t) [] (take j xs) (get_or xs j d ∷ [])

length-with_next : {State Op : Type 0} (t : Meaning State Op) (fs : List (Entry Op)) (x : Entry Op) → length (with_next t fs x) ≡ suc (length fs)
unfolding with_next
length-with_next t fs x = omega (arith, length-append (map (acted t (present t fs x)) fs) (present t fs x ∷ []), length-acted (acted t (present t fs x)) fs)

length-forms : {State Op : Type 0} (t : Meaning State Op) (c fs : List (Entry Op)) → length (fold (with_next t) fs c) ≡ length fs + length c
length-forms t [] fs = omega arith
length-forms t (x ∷ c) fs = (let ih : length (fold (with_next t) (with_next t fs x) c) ≡ length (with_next t fs x) + length c = length-forms t c (with_next t fs x) in omega (arith, length-with_next t fs x))

length_at : {State Op : Type 0} (t : Meaning State Op) (xs : List (Entry Op)) (j : ℕ) → j < length xs → length (forms t (take j xs)) ≡ j
length_at t xs j h = omega (arith, length-forms t (take j xs) [], length-take j xs)

-- each operation is acted on by the forms of those before it
pub form_own : {State Op : Type 0} (t : Meaning State Op) (xs : List (Entry Op)) (j : ℕ) (d : Entry Op) → j < length xs → form_at t xs j (suc j) ≡ Some (present t (forms t (take j xs)) (get_or xs j d))
unfolding with_next
form_own t xs j d h =
    let fs = forms t (take j xs) in
    let x' = present t fs (get_or xs j d) in
    let n : length (map (acted t x') fs) ≡ j = length-acted (acted t x') fs ∙ length_at t xs j h in
    ap (λ l. slice_get l j) (forms_next t xs j d h)
    ∙ ap (slice_get (map (acted t x') fs ++ x' ∷ [])) (sym n)
    ∙ get_at_end (map (acted t x') fs) x'

-- what comes later acts on it
form_before : {State Op : Type 0} (t : Meaning State Op) (xs : List (Entry Op)) (k j : ℕ) (d : Entry Op) → k < j → j < length xs → form_at t xs k (suc j) ≡ option_map (acted t (present t (forms t (take j xs)) (get_or xs j d))) (form_at t xs k j)
unfolding with_next
form_before t xs k j d m h =
    let fs = forms t (take j xs) in
    let x' = present t fs (get_or xs j d) in
    let n : k < length (map (acted t x') fs) = omega (arith, length-acted (acted t x') fs, length_at t xs j h) in
    ap (λ l. slice_get l k) (forms_next t xs j d h)
    ∙ get_before (map (acted t x') fs) (x' ∷ []) k n
    ∙ get-map (acted t x') fs k

pub form_later : {State Op : Type 0} (t : Meaning State Op) (xs : List (Entry Op)) (k j : ℕ) (y : Entry Op) → k < j → form_at t xs j (suc j) ≡ Some y → form_at t xs k (suc j) ≡ option_map (acted t y) (form_at t xs k j)
form_later t xs k j y m is =
    let inside : j < length (forms t (take (suc j) xs)) = slice_get_within (forms t (take (suc j) xs)) j y is in
    let h : j < length xs = omega (arith, length-forms t (take (suc j) xs) [], length-take (suc j) xs) in
    let own : Some (present t (forms t (take j xs)) (get_or xs j y)) ≡ Some y = sym (form_own t xs j y h) ∙ is in
    let same : present t (forms t (take j xs)) (get_or xs j y) ≡ y = cc in
    form_before t xs k j y m h ∙ ap (λ z. option_map (acted t z) (form_at t xs k j)) same

-- the forms that a document applies are the own ones
own_at : {State Op : Type 0} (t : Meaning State Op) (xs es : List (Entry Op)) (j : ℕ) (d : Entry Op) → j < length xs → slice_get (own_forms t es xs) j ≡ Some (present t (fold (with_next t) es (take j xs)) (get_or xs j d))
own_at t [] es j d h = absurd (omega arith)
own_at t (x ∷ xs) es zero d h = refl
own_at t (x ∷ xs) es (suc j) d h = own_at t xs (with_next t es x) j d (let g : suc j < suc (length xs) = h in omega arith)

length-own_forms : {State Op : Type 0} (t : Meaning State Op) (xs es : List (Entry Op)) → length (own_forms t es xs) ≡ length xs
length-own_forms t [] es = refl
length-own_forms t (x ∷ xs) es = ap (λ (n : ℕ). suc n) (length-own_forms t xs (with_next t es x))

same_elements : {A : Type 0} (l m : List A) → length l ≡ length m → ((k : ℕ) → k < length m → slice_get l k ≡ slice_get m k) → l ≡ m
same_elements [] [] e h = refl
same_elements [] (b ∷ m) e h = absurd (omega arith)
same_elements (a ∷ l) [] e h = absurd (omega arith)
same_elements (a ∷ l) (b ∷ m) e h =
    let first : Some a ≡ Some b = h 0 (omega arith) in
    let rest : l ≡ m = same_elements l m (let n : suc (length l) ≡ suc (length m) = e in omega arith) (λ k i. h (suc k) (omega arith)) in
    cc

pub folds_own : {State Op : Type 0} (t : Meaning State Op) (xs fs : List (Entry Op)) → length fs ≡ length xs → ((k : ℕ) → k < length xs → slice_get fs k ≡ form_at t xs k (suc k)) → document t xs ≡ apply_all t t.init fs
folds_own t [] fs e h = ap (apply_all t t.init) (same_elements [] fs (sym e) (λ k i. absurd (omega (arith, i, e))))
folds_own t (x ∷ xs) fs e h =
    ap (apply_all t t.init) (sym (same_elements fs (own_forms t [] (x ∷ xs)) (e ∙ sym (length-own_forms t (x ∷ xs) []))
    (λ k i. let inside : k < length (x ∷ xs) = omega (arith, i, length-own_forms t (x ∷ xs) []) in h k inside ∙ form_own t (x ∷ xs) k x inside ∙ sym (own_at t (x ∷ xs) [] k x inside))))
