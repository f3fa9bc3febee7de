-- What the versions of two replicas of a family tell of their operations.
use Rattle.std.proofs.Common.{◌≡◌, ℕ, true, List, eqb, arith, subst, Contains, ◌↔◌}
use Rattle.std.specs.Prelude.{count_by}
use Rattle.std.proofs.lemmas.Bool.{le-leb}
use Rattle.std.proofs.lemmas.List.Elements.{Contains-append_left}
use Rattle.vector_clock.specs.Clock.{IsAtMost, count, covers}
use Rattle.vector_clock.specs.Stamp.{id_of}
use Rattle.crdt_laws.specs.declared.small.Entry.{Entry}
use Rattle.crdt_laws.specs.Sets.{AreApart, AreIssued, IsHonest}
use Rattle.crdt_laws.specs.Tower.{IsIssued, IsStampOf, Meaning}
use Rattle.crdt_laws.proofs.Both.{honest_part, rising_apart}
use Rattle.crdt_laws.proofs.Members.{rising_same}
use Rattle.replica_model.specs.Family.{IsHonestFamily, Thing, operations, replica}
use Rattle.replica_model.specs.Replica.{Replica, version}
use Rattle.replica_model.proofs.Counted.{version_counts}
use Rattle.replica_model.proofs.Families.{issued_at, replica_inside, sound_at}
use Rattle.replica_model.proofs.Names.{all_from_contains, same_id_from_ids}
use Rattle.replica_model.proofs.Ready.{covers_on}
use Rattle.replica_model.proofs.Versions.{version_below, version_has, version_knows}

module _ {State Op : Type 0} (m : Meaning State Op) (n : ℕ) (ts : List (Thing Op)) (family : IsHonestFamily m n ts) where
  module _ (r : Replica Op) (there : Contains ts (replica r)) where
    pub delivered_inside : (e : Entry Op) → Contains r.delivered e → Contains (operations ts) e
    delivered_inside e c = replica_inside m n ts family r there e (Contains-append_left r.delivered r.waiting e c)

    pub delivered_honest : IsHonest r.delivered
    delivered_honest = honest_part (operations ts) r.delivered family.honest delivered_inside

    pub delivered_issued : AreIssued m n r.delivered
    delivered_issued = all_from_contains (λ (e : Entry Op). IsIssued m n e.stamp e.op) r.delivered (λ e c. issued_at m n ts family e (delivered_inside e c))

    pub delivered_stamped : (e : Entry Op) → Contains r.delivered e → IsStampOf n e.stamp
    delivered_stamped e c = (issued_at m n ts family e (delivered_inside e c)).stamp

    pub delivered_apart : AreApart r.delivered
    delivered_apart = rising_apart r.delivered delivered_honest (sound_at m n ts family r there).delivered_by_key

    pub replica_counts : (i : ℕ) → count (version n r.delivered) i ≡ count_by (λ e. eqb e.stamp.member i) r.delivered
    replica_counts i = version_counts n r.delivered delivered_stamped (sound_at m n ts family r there).closed delivered_apart i

  module _ (r s : Replica Op) (here : Contains ts (replica r)) (there : Contains ts (replica s)) where
    -- a lesser version has less
    has_all : IsAtMost (version n r.delivered) (version n s.delivered) → (e : Entry Op) → Contains r.delivered e → Contains s.delivered e
    has_all below e c =
        let stamp = (delivered_stamped r here e c).stamp in
        let own : covers e.stamp.clock (id_of e.stamp) ≡ true = le-leb (count e.stamp.clock e.stamp.member) (count e.stamp.clock e.stamp.member) (omega arith) in
        let known = covers_on e.stamp.clock (version n r.delivered) (id_of e.stamp) (version_knows n r.delivered (delivered_stamped r here) e c) own in
        let f = version_has n s.delivered (delivered_stamped s there) (sound_at m n ts family s there).closed (id_of e.stamp) stamp.counted
        (covers_on (version n r.delivered) (version n s.delivered) (id_of e.stamp) below known) in
        let found : Contains s.delivered f.1 = (f.0, f.2, f.3) in
        let same : f.1 ≡ e = family.honest.same f.1 e (delivered_inside s there f.1 found) (delivered_inside r here e c) (same_id_from_ids f.1.stamp e.stamp f.4) in
        subst (λ (z : Entry Op). Contains s.delivered z) same found

    is_at_most : ((e : Entry Op) → Contains r.delivered e → Contains s.delivered e) → IsAtMost (version n r.delivered) (version n s.delivered)
    is_at_most part = record {
      each = λ i. version_below n r.delivered i (count (version n s.delivered) i) (λ e c. (version_knows n s.delivered (delivered_stamped s there) e (part e c)).each i);
    }

    pub version_tells : IsAtMost (version n r.delivered) (version n s.delivered) ↔ ((e : Entry Op) → Contains r.delivered e → Contains s.delivered e)
    version_tells = (has_all, is_at_most)

    pub delivered_alike : ((e : Entry Op) → Contains r.delivered e ↔ Contains s.delivered e) → r.delivered ≡ s.delivered
    delivered_alike h =
        rising_same r.delivered s.delivered (sound_at m n ts family r here).delivered_by_key (sound_at m n ts family s there).delivered_by_key h
