-- A lawful tower stays lawful where it is shown in another way that settling does not change.
use Rattle.std.specs.Prelude.{◌≡◌, ℕ}
use Rattle.serde_json.specs.Data.{Data}
use Rattle.vector_clock.specs.declared.clock.Clock.{Clock}
use Rattle.vector_clock.specs.declared.clock.Id.{Id}
use Rattle.vector_clock.specs.declared.stamp.Stamp.{Stamp}
use Rattle.vector_clock.specs.Stamp.{id_of}
use Rattle.crdt_laws.specs.Tower.{Meaning, IsLawful, IsIssued, Lacks, Agrees, MaySwap, WasIssued}

-- the tower, shown as f says
abbrev pub shown_by : {S O : Type 0} → (S → Data) → Meaning S O → Meaning S O
shown_by f m = record m { show = f }

module _ {S O : Type 0} (m : Meaning S O) (f : S → Data) where
  lacks : (s : S) (i : Id) → Lacks (shown_by f m) s i → Lacks m s i
  lacks s i h = record { none = h.none }

  agrees : (s : S) (k : Clock) → Agrees (shown_by f m) s k → Agrees m s k
  agrees s k h = record { each = h.each }

  may_swap : (n : ℕ) (s : S) (p q : Stamp) → MaySwap (shown_by f m) n s p q → MaySwap m n s p q
  may_swap n s p q h = record {
    concurrent = h.concurrent;
    good = h.good;
    first_fresh = lacks s (id_of p) h.first_fresh;
    second_fresh = lacks s (id_of q) h.second_fresh;
  }

  issued : (n : ℕ) (p : Stamp) (x : O) → IsIssued (shown_by f m) n p x → IsIssued m n p x
  issued n p x h = record { stamp = h.stamp; valid = h.valid }

  was_issued : (n : ℕ) (x : O) → WasIssued (shown_by f m) n x → WasIssued m n x
  was_issued n x h = record { at = h.at; issued = issued n h.at x h.issued }

  pub reshown_lawful : IsLawful m → ((n : ℕ) (s : S) (k : Clock) → m.good n s → f (m.settle s k) ≡ f s) → IsLawful (shown_by f m)
  reshown_lawful law same = record {
    valid_within = law.valid_within;
    valid_well_formed = law.valid_well_formed;
    level_low = law.level_low;
    level_top = law.level_top;
    level-act = law.level-act;
    act_below = law.act_below;
    well_formed-act = law.well_formed-act;
    valid-act = λ p y x stamp h k. law.valid-act p y x stamp (was_issued p.clock.n y h) k;
    commute = λ n s p q x y w h k level. law.commute n s p q x y (may_swap n s p q w) (issued n p x h) (issued n q y k) level;
    exchange = λ n s p q x y w h k below. law.exchange n s p q x y (may_swap n s p q w) (issued n p x h) (issued n q y k) below;
    act-act = law.act-act;
    distribute = law.distribute;
    settle-apply = λ n s k p x good agree h fresh after.
        law.settle-apply n s k p x good (agrees s k agree) (issued n p x h) (lacks s (id_of p) fresh) after;
    settle-settle = λ n s k l good first second below. law.settle-settle n s k l good (agrees s k first) (agrees s l second) below;
    settle-init = law.settle-init;
    show-settle = same;
    good-init = law.good-init;
    good-apply = λ n s p x good h fresh. law.good-apply n s p x good (issued n p x h) (lacks s (id_of p) fresh);
    good-settle = law.good-settle;
    good_at_good = law.good_at_good;
    good_at-init = law.good_at-init;
    good_at_later = law.good_at_later;
    good_at-apply = λ d s p x good h fresh below covered.
        law.good_at-apply d s p x good (issued d.n p x h) (lacks s (id_of p) fresh) below covered;
    good_at-settle = law.good_at-settle;
    good_at-holds = law.good_at-holds;
    holds-init = law.holds-init;
    holds-apply = law.holds-apply;
    holds-settle = law.holds-settle;
    plain_settle = law.plain_settle;
    plain_holds = law.plain_holds;
  }
