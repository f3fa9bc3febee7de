-- The schemas that need no file.
use Rattle.std.specs.Prelude.{◌≡◌, ℕ, zero, suc, ◌<◌, ◌≤◌, List, [], ◌∷◌, length, slice_index, codes}
use Rattle.std.specs.List.{AllByRecursion}
use Rattle.std.proofs.Common.{refl, ap, arith, inl, subst}
use Rattle.std.proofs.lemmas.Fmt.{decimal_digit}
use Rattle.std.proofs.lemmas.List.Elements.{All-cons, All-nil}
use Rattle.serde_json.proofs.OnLiterals.{serde_json_on_literals}
use Rattle.action_tables.specs.Name.{IsLetter, IsName, IsNameByte}
use Rattle.doc_schema.specs.BuiltIn.{one_number, pair, trio}
use Rattle.doc_schema.specs.Canonical.{canonical_text}
use Rattle.doc_schema.specs.Schema.{Spells}
use Rattle.doc_schema.specs.Sound.{IsSchema, IsSoundField}
use Rattle.doc_schema.specs.declared.kind.Kind.TheVariants as kind
use Rattle.doc_schema.specs.declared.kind.Reset.TheVariants.{Never}
use Rattle.doc_schema.proofs.Texts.{read_again}

-- ---- they keep what each schema keeps

letters : (xs : List ℕ) → AllByRecursion IsLetter xs → (i : ℕ) → i < length xs → IsNameByte (slice_index xs i)
letters [] h i low = absurd (omega arith)
letters (x ∷ xs) h zero low = inl h.0
letters (x ∷ xs) h (suc i) low = letters xs h.1 i (omega arith)

n_name : IsName (codes "n")
n_name = record {
  some = omega arith;
  most = omega arith;
  first = (omega arith, omega arith);
  each = letters (codes "n") ((omega arith, omega arith), tt);
}

pair_name : IsName (codes "pair")
pair_name = record {
  some = omega arith;
  most = omega arith;
  first = (omega arith, omega arith);
  each = letters (codes "pair") ((omega arith, omega arith), ((omega arith, omega arith), ((omega arith, omega arith), ((omega arith, omega arith), tt))));
}

trio_name : IsName (codes "trio")
trio_name = record {
  some = omega arith;
  most = omega arith;
  first = (omega arith, omega arith);
  each = letters (codes "trio") ((omega arith, omega arith), ((omega arith, omega arith), ((omega arith, omega arith), ((omega arith, omega arith), tt))));
}

sound_number : IsSoundField (record { name = codes "n"; kind = kind.Number 0; reset = Never })
sound_number = record { name = n_name; kind = record { some = λ e. absurd (omega (arith, e)); most = omega arith } }

one_number_kept : (doc : List ℕ) (members : ℕ) → IsName doc → 1 ≤ members → members ≤ 64 → IsSchema (one_number doc members)
one_number_kept doc members named some most = record {
  doc = named;
  members = record { some = some; most = most };
  some = omega arith;
  most = omega arith;
  each = All-cons IsSoundField (record { name = codes "n"; kind = kind.Number 0; reset = Never }) [] sound_number (All-nil IsSoundField);
  apart = λ i j d low high. absurd (omega (arith, low, high));
}

pub pair_kept : IsSchema pair
pair_kept = one_number_kept (codes "pair") 2 pair_name (omega arith) (omega arith)

pub trio_kept : IsSchema trio
trio_kept = one_number_kept (codes "trio") 3 trio_name (omega arith) (omega arith)

-- ---- their bytes

pub pair_bytes : canonical_text pair ≡ codes "{\"doc\":\"pair\",\"fields\":[{\"kind\":\"number\",\"name\":\"n\"}],\"members\":2}"
unfolding serde_json_on_literals
pair_bytes = rw (decimal_digit 2 (omega arith)) refl

pub trio_bytes : canonical_text trio ≡ codes "{\"doc\":\"trio\",\"fields\":[{\"kind\":\"number\",\"name\":\"n\"}],\"members\":3}"
unfolding serde_json_on_literals
trio_bytes = rw (decimal_digit 3 (omega arith)) refl

abbrev pub pair_text : List ℕ
pair_text = codes "{\"doc\":\"pair\",\"fields\":[{\"kind\":\"number\",\"name\":\"n\"}],\"members\":2}"

abbrev pub trio_text : List ℕ
trio_text = codes "{\"doc\":\"trio\",\"fields\":[{\"kind\":\"number\",\"name\":\"n\"}],\"members\":3}"

-- and what they spell
pub pair_spelled : Spells pair_text pair
pair_spelled = subst (λ text. Spells text pair) pair_bytes (read_again pair pair_kept (omega (arith, ap length pair_bytes)))

pub trio_spelled : Spells trio_text trio
trio_spelled = subst (λ text. Spells text trio) trio_bytes (read_again trio trio_kept (omega (arith, ap length trio_bytes)))
