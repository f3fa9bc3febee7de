-- What an observed tower means: a base, and a log of operations since. A reset forgets what it knew of, and nothing else.
use Rattle.std.specs.Prelude.{◌≡◌, ℕ, List, [], take, drop, false}
use Rattle.std.specs.List.{All, Contains}
use Rattle.vector_clock.specs.declared.clock.Clock.{Clock}
use Rattle.vector_clock.specs.declared.stamp.Stamp.{Stamp}
use Rattle.vector_clock.specs.Stamp.{IsKnownTo}
use Rattle.crdt_laws.specs.declared.small.Entry.{Entry}
use Rattle.crdt_laws.specs.Entry.{entry}
use Rattle.crdt_laws.specs.Present.{document_from}
use Rattle.crdt_laws.specs.Sets.{AreApart, AreIssued, IsRising, beyond, place}
use Rattle.crdt_laws.specs.Tower.{Meaning, IsWithin}
use Rattle.reset_products.specs.Cut.{clean_cut}
use Rattle.reset_products.specs.declared.observed.ObservedOp.{ObservedOp}
use Rattle.reset_products.specs.declared.observed.ObservedOp.TheVariants.{Do, Reset}

-- a base, and the operations since, by rising key
pub record Logged (State Op : Type 0) : Type 0 where
  pub base : State
  pub log : List (Entry Op)

-- an operation of the log has this stamp
pub record IsLoggedAs {Op : Type 0} (log : List (Entry Op)) (p : Stamp) : Type 0 where
  pub logged : Entry Op
  pub in_log : Contains log logged
  pub stamp : logged.stamp ≡ p

module _ {S O : Type 0} (m : Meaning S O) where
  -- what a state of a document with n members keeps
  pub record IsGoodLog (n : ℕ) (s : Logged S O) : Type 0 where
    pub base : m.good n s.base
    pub issued : AreIssued m n s.log
    pub rising : IsRising s.log
    pub apart : AreApart s.log

  -- what a state keeps that refers only to what the clock covers
  pub record IsGoodLogAt (d : Clock) (s : Logged S O) : Type 0 where
    pub base : m.good_at d s.base
    pub issued : AreIssued m d.n s.log
    pub rising : IsRising s.log
    pub apart : AreApart s.log
    pub known : All (λ e. IsKnownTo d e.stamp) s.log

  abbrev pub observed_well_formed : ObservedOp O → Type 0
  observed_well_formed (Do x) = m.well_formed x
  observed_well_formed Reset = Unit {0}

  -- a reset may stand at each stamp within the limits
  abbrev pub observed_valid : Stamp → ObservedOp O → Type 0
  observed_valid p (Do x) = m.valid p x
  observed_valid p Reset = IsWithin p

  -- An operation takes its place in the log. A reset takes all out of the log that its clock covers, and gives the first base.
  abbrev pub observed_apply : Logged S O → Stamp → ObservedOp O → Logged S O
  observed_apply s p (Do x) = record { base = s.base; log = place (entry p x) s.log }
  observed_apply s p Reset = record { base = m.init; log = beyond p.clock s.log }

  -- the document of the log, from the base
  abbrev pub value_of : Logged S O → S
  value_of s = document_from m s.base s.log

  -- the first c operations of the log become part of the base
  abbrev pub folded : Logged S O → ℕ → Logged S O
  folded s c = record { base = document_from m s.base (take c s.log); log = drop c s.log }

  -- settling folds the longest clean prefix of the log
  abbrev pub observed_settle : Logged S O → Clock → Logged S O
  observed_settle s k = folded s (clean_cut s.log k)

  abbrev pub observed_meaning : Meaning (Logged S O) (ObservedOp O)
  observed_meaning = record {
    top = 1;
    level = λ _. 1;
    well_formed = observed_well_formed;
    valid = observed_valid;
    init = record { base = m.init; log = [] };
    apply = observed_apply;
    act = λ _ x. x;
    settle = observed_settle;
    show = λ s. m.show (value_of s);
    good = IsGoodLog;
    good_at = IsGoodLogAt;
    holds = λ s p. IsLoggedAs s.log p;
    sparing = false;
    plain = false;
  }
