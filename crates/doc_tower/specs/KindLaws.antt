-- Each kind is a lawful tower, as one of eleven lawful ones, and a plain one.
use Rattle.std.specs.Prelude.{ℕ, ◌==◌, List, length, IsTrue}
use Rattle.std.proofs.Common.{ap, arith, refl}
use Rattle.std.proofs.lemmas.Bool.Decides.{nat_tests}
use Rattle.vector_clock.specs.declared.clock.Clock.{Clock}
use Rattle.vector_clock.specs.declared.clock.Id.{Id}
use Rattle.vector_clock.specs.declared.stamp.Stamp.{Stamp}
use Rattle.vector_clock.specs.Stamp.{id_of}
use Rattle.crdt_laws.specs.Tower.{Meaning, IsLawful, IsIssued, Lacks, Agrees, MaySwap, WasIssued}
use Rattle.number_crdts.specs.Number.{add_meaning, mul_action}
use Rattle.number_crdts.specs.NumberLaws.{add_lawful, mul_fits_lawful}
use Rattle.semidirect_product.specs.Stack.{stack_meaning}
use Rattle.semidirect_product.specs.StackLaws.{stack_lawful}
use Rattle.action_tables.specs.Table.{table_meaning}
use Rattle.action_tables.specs.TableLaws.{table_lawful}
use Rattle.flag_crdts.specs.Flags.{off_table, on_table}
use Rattle.flag_crdts.specs.Ladder.{ladder_meaning}
use Rattle.flag_crdts.specs.LadderLaws.{ladder_lawful}
use Rattle.flag_crdts.proofs.FlagTables.{off_is_table, off_keeps_laws, on_is_table, on_keeps_laws}
use Rattle.register_crdts.specs.LatestLaws.{latest_lawful}
use Rattle.register_crdts.specs.SeveralLaws.{several_lawful}
use Rattle.list_crdt.specs.TextLaws.{text_lawful}
use Rattle.map_crdt.specs.KeyedLaws.{keyed_lawful}
use Rattle.rich_text.specs.Marked.{marked_meaning}
use Rattle.rich_text.specs.MarkedLaws.{marked_lawful}
use Rattle.rich_text.specs.Over.{mark_action, stack_of}
use Rattle.rich_text.specs.OverLaws.{fitting_lawful}
use Rattle.doc_schema.specs.declared.kind.Kind.{Kind}
use Rattle.doc_schema.specs.declared.kind.Kind.TheVariants as kind
use Rattle.doc_tower.specs.EitherLaws.{left_lawful, right_lawful}
use Rattle.doc_tower.specs.declared.kinds.KindOp.{KindOp}
use Rattle.doc_tower.specs.declared.kinds.KindState.{KindState}
use Rattle.doc_tower.specs.Kinds.{AllOps, AllStates, arm_meaning, choice_size, kind_meaning, sealed}

-- ---- The parts of kinds

same : (m : ℕ) → IsTrue (m == m)
same m = grind (arith, nat_tests)

-- additions, and multiplications that fit them
pub number_lawful : (m n : ℕ) → IsTrue (n == m) → IsLawful (stack_meaning (add_meaning m) (mul_action n))
number_lawful m n fit = stack_lawful (add_meaning m) (add_lawful m) (mul_action n) (mul_fits_lawful n m fit)

-- texts with marks, and ranges that fit them
pub rich_lawful : (marks number : ℕ) → IsTrue (number == marks) → IsLawful (stack_of marks number)
rich_lawful marks number fit = stack_lawful (marked_meaning marks) (marked_lawful marks) (mark_action number) (fitting_lawful number marks fit)

on_lawful : IsLawful (table_meaning on_table)
on_lawful = table_lawful on_table on_is_table on_keeps_laws

off_lawful : IsLawful (table_meaning off_table)
off_lawful = table_lawful off_table off_is_table off_keeps_laws

choice_lawful : (values : List (List ℕ)) → IsLawful (ladder_meaning (choice_size values))
choice_lawful values = ladder_lawful (choice_size values) (record { some = omega arith; most = omega arith })

-- ---- Arms

arm_lawful : (k : Kind) → IsLawful (arm_meaning k)
arm_lawful (kind.Number m) = left_lawful _ (left_lawful _ (left_lawful _ (left_lawful _ (number_lawful m m (same m)))))
arm_lawful kind.OnFlag = left_lawful _ (left_lawful _ (left_lawful _ (right_lawful _ on_lawful)))
arm_lawful kind.OffFlag = left_lawful _ (left_lawful _ (right_lawful _ (left_lawful _ off_lawful)))
arm_lawful (kind.Choice values) = left_lawful _ (left_lawful _ (right_lawful _ (right_lawful _ (choice_lawful values))))
arm_lawful (kind.Table t states ops) = left_lawful _ (right_lawful _ (left_lawful _ (left_lawful _ (table_lawful t.table t.well_formed t.laws))))
arm_lawful kind.Latest = left_lawful _ (right_lawful _ (left_lawful _ (right_lawful _ latest_lawful)))
arm_lawful kind.Several = left_lawful _ (right_lawful _ (right_lawful _ (left_lawful _ several_lawful)))
arm_lawful kind.Text = left_lawful _ (right_lawful _ (right_lawful _ (right_lawful _ (left_lawful _ text_lawful))))
arm_lawful (kind.Tally m) = left_lawful _ (right_lawful _ (right_lawful _ (right_lawful _ (right_lawful _ (left_lawful _ (keyed_lawful _ (number_lawful m m (same m))))))))
arm_lawful kind.Entries = left_lawful _ (right_lawful _ (right_lawful _ (right_lawful _ (right_lawful _ (right_lawful _ (keyed_lawful _ latest_lawful))))))
arm_lawful (kind.Rich marks) = right_lawful _ (rich_lawful (length marks) (length marks) (same (length marks)))

arm_plain : (k : Kind) → IsTrue (arm_meaning k).plain
arm_plain (kind.Number m) = refl
arm_plain kind.OnFlag = refl
arm_plain kind.OffFlag = refl
arm_plain (kind.Choice values) = refl
arm_plain (kind.Table t states ops) = refl
arm_plain kind.Latest = refl
arm_plain kind.Several = refl
arm_plain kind.Text = refl
arm_plain (kind.Tally m) = refl
arm_plain kind.Entries = refl
arm_plain (kind.Rich marks) = refl

-- ---- Kinds

module _ (m : Meaning AllStates AllOps) where
  lacks : (s : KindState) (i : Id) → Lacks (sealed m) s i → Lacks m s.arm i
  lacks s i h = record { none = h.none }

  agrees : (s : KindState) (k : Clock) → Agrees (sealed m) s k → Agrees m s.arm k
  agrees s k h = record { each = h.each }

  may_swap : (n : ℕ) (s : KindState) (p q : Stamp) → MaySwap (sealed m) n s p q → MaySwap m n s.arm p q
  may_swap n s p q h = record {
    concurrent = h.concurrent;
    good = h.good;
    first_fresh = lacks s (id_of p) h.first_fresh;
    second_fresh = lacks s (id_of q) h.second_fresh;
  }

  issued : (n : ℕ) (p : Stamp) (x : KindOp) → IsIssued (sealed m) n p x → IsIssued m n p x.arm
  issued n p x h = record { stamp = h.stamp; valid = h.valid }

  was_issued : (n : ℕ) (x : KindOp) → WasIssued (sealed m) n x → WasIssued m n x.arm
  was_issued n x h = record { at = h.at; issued = issued n h.at x h.issued }

  state : AllStates → KindState
  state s = record { arm = s }

  op : AllOps → KindOp
  op x = record { arm = x }

  pub sealed_lawful : IsLawful m → IsLawful (sealed m)
  unfolding state op
  sealed_lawful law = record {
    valid_within = λ p x h. law.valid_within p x.arm h;
    valid_well_formed = λ p x h. law.valid_well_formed p x.arm h;
    level_low = λ x h. law.level_low x.arm h;
    level_top = λ x h. law.level_top x.arm h;
    level-act = λ y x h k. law.level-act y.arm x.arm h k;
    act_below = λ y x h k below. ap op (law.act_below y.arm x.arm h k below);
    well_formed-act = λ y x h k. law.well_formed-act y.arm x.arm h k;
    valid-act = λ p y x stamp h k. law.valid-act p y.arm x.arm stamp (was_issued p.clock.n y h) k;
    commute = λ n s p q x y w h k level. ap state (law.commute n s.arm p q x.arm y.arm (may_swap n s p q w) (issued n p x h) (issued n q y k) level);
    exchange = λ n s p q x y w h k below. ap state (law.exchange n s.arm p q x.arm y.arm (may_swap n s p q w) (issued n p x h) (issued n q y k) below);
    act-act = λ y v x h j k same. ap op (law.act-act y.arm v.arm x.arm h j k same);
    distribute = λ z y x h j k one two. ap op (law.distribute z.arm y.arm x.arm h j k one two);
    settle-apply = λ n s k p x good agree h fresh after.
        ap state (law.settle-apply n s.arm k p x.arm good (agrees s k agree) (issued n p x h) (lacks s (id_of p) fresh) after);
    settle-settle = λ n s k l good first second below.
        ap state (law.settle-settle n s.arm k l good (agrees s k first) (agrees s l second) below);
    settle-init = λ k. ap state (law.settle-init k);
    show-settle = λ n s k good. law.show-settle n s.arm k good;
    good-init = law.good-init;
    good-apply = λ n s p x good h fresh. law.good-apply n s.arm p x.arm good (issued n p x h) (lacks s (id_of p) fresh);
    good-settle = λ n s k good. law.good-settle n s.arm k good;
    good_at_good = λ d s good. law.good_at_good d s.arm good;
    good_at-init = law.good_at-init;
    good_at_later = λ d e s one below good. law.good_at_later d e s.arm one below good;
    good_at-apply = λ d s p x good h fresh below covered.
        law.good_at-apply d s.arm p x.arm good (issued d.n p x h) (lacks s (id_of p) fresh) below covered;
    good_at-settle = λ d s k good. law.good_at-settle d s.arm k good;
    good_at-holds = λ d s p good held. law.good_at-holds d s.arm p good held;
    holds-init = law.holds-init;
    holds-apply = λ s p x q held. law.holds-apply s.arm p x.arm q held;
    holds-settle = λ s k q held. law.holds-settle s.arm k q held;
    plain_settle = λ s k plain. ap state (law.plain_settle s.arm k plain);
    plain_holds = λ s p plain held. law.plain_holds s.arm p plain held;
  }

pub kind_lawful : (k : Kind) → IsLawful (kind_meaning k)
kind_lawful k = sealed_lawful (arm_meaning k) (arm_lawful k)

pub kind_plain : (k : Kind) → IsTrue (kind_meaning k).plain
kind_plain k = arm_plain k
