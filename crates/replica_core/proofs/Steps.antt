-- Steps of the loops over rows and operations.
use Rattle.std.proofs.Common.{List, [], ◌∷◌, ◌≡◌, ℕ, suc, ◌+◌, ◌-◌, ◌<◌, length, get_or, set, ap, ◌∙◌, refl, sym, subst, arith, fold, take, take_all, drop}
use Rattle.std.specs.List.{All}
use Rattle.std.proofs.lemmas.List.Elements.{All-drop, All-get_or, All-set}
use Rattle.std.proofs.lemmas.List.Sums.{fold_more}
use Rattle.vector_clock.specs.declared.clock.Clock.{Clock}
use Rattle.vector_clock.specs.Clock.{join, meet, zero_clock}
use Rattle.crdt_laws.specs.declared.small.Entry.{Entry}
use Rattle.replica_model.specs.Replica.{row}
use Rattle.replica_core.specs.Kept.{IsKnown}
use Rattle.replica_core.specs.Rows.{IsFrom}
use Rattle.replica_core.proofs.Joins.{known-meet}

pub known_clock : {Op : Type 0} (n : ℕ) (e : Entry Op) → IsFrom n e → IsKnown n e.stamp.clock
known_clock n e h = record { clock = h.stamp.stamp.clock; members = h.stamp.members; within = h.within.each }

pub fold_item : {A B : Type 0} (f : B → A → B) (z : B) (xs : List A) (i : ℕ) (x : A) (old new : B) → i < length xs → x ≡ get_or xs i x → old ≡ fold f z (take i xs) → new ≡ f old x → new ≡ fold f z (take (i + 1) xs)
fold_item f z xs i x old new l is h step = step ∙ ap (λ b. f b x) h ∙ ap (f (fold f z (take i xs))) is ∙ sym (fold_more f z xs i x l)

pub with_row_known : (P : Clock → Type 0) → ((a b : Clock) → P a → P b → P (join a b)) → (rows : List Clock) (j : ℕ) (k : Clock) → All P rows → P k → j < length rows → All P (set rows j (join (row rows j) k))
with_row_known P more rows j k h l m = All-set P rows j (join (row rows j) k) (more (row rows j) k (All-get_or P rows j (zero_clock 1) m h) l) h

behind_first : {X : Type 0} (xs : List X) → take (length xs - 1) (drop 1 xs) ≡ drop 1 xs
behind_first [] = refl
behind_first (x ∷ xs) = take_all (suc (length xs) - 1) xs (omega arith)

pub floor_item : (n : ℕ) (z d old new : Clock) (xs cs : List Clock) (i : ℕ) → cs ≡ xs → i < length (take (length cs - 1) (drop 1 cs)) → All (IsKnown n) xs → old ≡ fold meet z (take i (drop 1 xs)) → IsKnown n old → new ≡ meet old (get_or (take (length cs - 1) (drop 1 cs)) i d) → (new ≡ fold meet z (take (i + 1) (drop 1 xs))) × IsKnown n new
floor_item n z d old new xs cs i e l all h known step =
    let same : take (length cs - 1) (drop 1 cs) ≡ drop 1 xs = behind_first cs ∙ ap (drop 1) e in
    let ys : List Clock = drop 1 xs in
    let m : i < length ys = subst (λ zs. i < length zs) same l in
    let is : new ≡ meet old (get_or ys i d) = step ∙ ap (λ zs. meet old (get_or zs i d)) same in (
      is ∙ ap (λ b. meet b (get_or ys i d)) h ∙ sym (fold_more meet z ys i d m),
      subst (IsKnown n) (sym is) (known-meet n old (get_or ys i d) known (All-drop (IsKnown n) 1 xs all i d m)),
    )
