-- Sets of operations that come from others.
use Rattle.std.proofs.Common.{List, ◌++◌, ◌≡◌, ℕ, ◌≤◌, ◌⊎◌, Bool, Contains, Err, IfOk, Ok, Result, get_or, ap, ◌∙◌, sym, inl, inr, not}
use Rattle.std.specs.List.{All, filter}
use Rattle.std.proofs.lemmas.List.Elements.{All-append, All-contains, All-contains_itself, All-filter, Contains-append_cases, Contains-append_left, Contains-append_right, filter_agree}
use Rattle.vector_clock.specs.declared.clock.Clock.{Clock}
use Rattle.vector_clock.specs.Stamp.{IsStamp}
use Rattle.crdt_laws.specs.declared.small.Entry.{Entry}
use Rattle.crdt_laws.specs.Sets.{IsHonest, has_all_of, union}
use Rattle.crdt_laws.proofs.Filters.{rising-filter}
use Rattle.replica_model.specs.Replica.{ready, unready}
use Rattle.replica_core.specs.Frontier.{frontier, is_at_most}
use Rattle.replica_core.specs.Rows.{AreByKey, IsFrom}
use Rattle.replica_core.proofs.Frontier.{frontier_exact}
use Rattle.vector_clock.specs.Clock.{max_members}

pub ok_both : {T E : Type 0} (r : Result T E) (P Q : T → Type 0) → IfOk r P → IfOk r Q → IfOk r (λ x. P x × Q x)
ok_both (Ok x) P Q h k = (h, k)
ok_both (Err e) P Q h k = tt

-- each element of the first is one of the second
abbrev pub IsLess : {X : Type 0} → List X → List X → Type 0
IsLess {X} xs ys = (e : X) → Contains xs e → Contains ys e

pub less_joined : {X : Type 0} (r xs ys : List X) → ((e : X) → Contains r e → Contains xs e ⊎ Contains ys e) → IsLess r (xs ++ ys)
less_joined r xs ys from e c = elim (from e c) [
  | inl h ↦ Contains-append_left xs ys e h
  | inr h ↦ Contains-append_right xs ys e h
]

pub less_left : {X : Type 0} (xs zs ys : List X) → IsLess xs zs → IsLess (xs ++ ys) (zs ++ ys)
less_left xs zs ys less e c = elim (Contains-append_cases xs ys e c) [
  | inl h ↦ Contains-append_left zs ys e (less e h)
  | inr h ↦ Contains-append_right zs ys e h
]

pub less_filter : {X : Type 0} (p : X → Bool) (xs : List X) → IsLess (filter p xs) xs
less_filter p xs e c = All-contains (Contains xs) (filter p xs) e (All-filter p (Contains xs) xs (All-contains_itself xs)) c

pub all_less : {X : Type 0} (P : X → Type 0) (xs ys : List X) → IsLess xs ys → All P ys → All P xs
all_less P xs ys less h = λ k d l. All-contains P ys (get_or xs k d) h (less (get_or xs k d) (All-contains_itself xs k d l))

pub honest_less : {Op : Type 0} (xs ys : List (Entry Op)) → IsLess xs ys → IsHonest ys → IsHonest xs
honest_less xs ys less h = record {
  same = λ a b c d. h.same a b (less a c) (less b d);
  known = λ a b c d. h.known a b (less a c) (less b d);
}

pub stamps : {Op : Type 0} (n : ℕ) (xs : List (Entry Op)) → All (IsFrom n) xs → All (λ e. IsStamp e.stamp) xs
stamps n xs h = λ k d l. (h k d l).stamp.stamp

pub by_key-filter : {Op : Type 0} (n : ℕ) (p : Entry Op → Bool) (xs : List (Entry Op)) → AreByKey n xs → AreByKey n (filter p xs)
by_key-filter n p xs h = record { from = All-filter p (IsFrom n) xs h.from; rising = rising-filter p xs h.rising }

-- what the frontier lets through is ready
pub ready_is : {Op : Type 0} (n : ℕ) (xs : List (Entry Op)) (front : Clock) → n ≤ max_members → AreByKey n xs → IsHonest xs → front ≡ frontier n xs → filter (λ e. is_at_most e.stamp.clock front) xs ≡ ready xs
ready_is {Op} n xs front most h honest is =
    ap (λ (k : Clock). filter (λ (e : Entry Op). is_at_most e.stamp.clock k) xs) is
    ∙ filter_agree (λ (e : Entry Op). is_at_most e.stamp.clock (frontier n xs)) (λ e. has_all_of xs e.stamp.clock) (λ e. sym (frontier_exact n xs most h.from honest h.rising e.stamp.clock)) xs

pub unready_is : {Op : Type 0} (n : ℕ) (xs : List (Entry Op)) (front : Clock) → n ≤ max_members → AreByKey n xs → IsHonest xs → front ≡ frontier n xs → filter (λ e. not (is_at_most e.stamp.clock front)) xs ≡ unready xs
unready_is {Op} n xs front most h honest is =
    ap (λ (k : Clock). filter (λ (e : Entry Op). not (is_at_most e.stamp.clock k)) xs) is
    ∙ filter_agree (λ (e : Entry Op). not (is_at_most e.stamp.clock (frontier n xs))) (λ e. not (has_all_of xs e.stamp.clock)) (λ e. ap not (sym (frontier_exact n xs most h.from honest h.rising e.stamp.clock))) xs

-- a list that was joined with one more

abbrev pub IsOfBoth : {X : Type 0} → List X → List X → List X → Type 0
IsOfBoth {X} r xs ys = (e : X) → Contains r e → Contains xs e ⊎ Contains ys e

pub less_twice : {X : Type 0} (d w a own all : List X) → IsOfBoth own d w → IsOfBoth all own a → IsLess all ((d ++ w) ++ a)
less_twice d w a own all f h e k = less_left own (d ++ w) a (less_joined own d w f) e (less_joined all own a h e k)

pub from_once : {Op : Type 0} (n : ℕ) (d w own : List (Entry Op)) → IsOfBoth own d w → All (IsFrom n) d → All (IsFrom n) w → All (IsFrom n) own
from_once n d w own f h k = all_less (IsFrom n) own (d ++ w) (less_joined own d w f) (All-append (IsFrom n) d w h k)

pub pooled_is : {Op : Type 0} (d w a own all : List (Entry Op)) → IsOfBoth own d w → (IsHonest (d ++ w) → own ≡ union d w) → (IsHonest (own ++ a) → all ≡ union own a) → IsHonest ((d ++ w) ++ a) → all ≡ union (union d w) a
pooled_is d w a own all f first second honest =
    second (honest_less (own ++ a) ((d ++ w) ++ a) (less_left own (d ++ w) a (less_joined own d w f)) honest)
    ∙ ap (λ t. union t a) (first (honest_less (d ++ w) ((d ++ w) ++ a) (λ e k. Contains-append_left (d ++ w) a e k) honest))
