-- The tower of each schema is lawful: its fields are, and settling changes nothing that is shown of them.
use Rattle.std.specs.Prelude.{◌≡◌, ℕ, List, [], ◌∷◌}
use Rattle.std.proofs.Common.{ap, refl, ◌∙◌}
use Rattle.serde_json.specs.Data.{Members, no_members, object, put}
use Rattle.vector_clock.specs.declared.clock.Clock.{Clock}
use Rattle.crdt_laws.specs.Tower.{IsLawful}
use Rattle.direct_product.specs.Row.{row_meaning, settle_all}
use Rattle.direct_product.specs.RowLaws.{row_lawful}
use Rattle.reset_products.specs.ObservedLaws.{value-settle}
use Rattle.doc_schema.specs.declared.kind.Field.{Field}
use Rattle.doc_schema.specs.declared.kind.Kind.{Kind}
use Rattle.doc_schema.specs.declared.kind.Reset.{Reset}
use Rattle.doc_schema.specs.declared.kind.Reset.TheVariants.{Never, Winning, Observed}
use Rattle.doc_schema.specs.Schema.{SchemaParts}
use Rattle.doc_tower.specs.declared.either.Either.TheVariants.{Left, Right}
use Rattle.doc_tower.specs.Document.{doc_meaning, rows_meaning}
use Rattle.doc_tower.specs.Fields.{FieldState, field_meaning}
use Rattle.doc_tower.specs.FieldLaws.{field_lawful, winning_lawful}
use Rattle.doc_tower.specs.KindLaws.{kind_lawful, kind_plain}
use Rattle.doc_tower.specs.declared.kinds.KindState.{KindState}
use Rattle.doc_tower.specs.Kinds.{kind_meaning}
use Rattle.doc_tower.specs.Reshown.{reshown_lawful}
use Rattle.doc_tower.specs.Shown.{field_data, field_members, fields_data, kind_data}

kind_settled : (k : Kind) (s : KindState) (c : Clock) → (kind_meaning k).settle s c ≡ s
kind_settled k s c = (kind_lawful k).plain_settle s c (kind_plain k)

abbrev of_kind : (name : List ℕ) (k : Kind) (r : Reset) → Field
of_kind name k r = record { name = name; kind = k; reset = r }

field_settled : (name : List ℕ) (k : Kind) (r : Reset) (s : FieldState) (c : Clock)
    → field_data (of_kind name k r) ((field_meaning (of_kind name k r)).settle s c) ≡ field_data (of_kind name k r) s
field_settled name k Never (Left s) c = ap (kind_data k) (kind_settled k s c)
field_settled name k Never (Right s) c = refl
field_settled name k Winning (Left s) c = refl
field_settled name k Winning (Right (Left s)) c = ap (kind_data k) (kind_settled k s c)
field_settled name k Winning (Right (Right s)) c = refl
field_settled name k Observed (Left s) c = refl
field_settled name k Observed (Right (Left s)) c = refl
field_settled name k Observed (Right (Right s)) c = ap (kind_data k) (value-settle (kind_meaning k) s c)

members_settled : (fs : List Field) (ss : List FieldState) (c : Clock) (ms : Members)
    → field_members fs (settle_all field_meaning fs ss c) ms ≡ field_members fs ss ms
members_settled [] ss c ms = refl
members_settled (f ∷ fs) [] c ms = refl
members_settled (f ∷ fs) (s ∷ ss) c ms =
    ap (λ d. field_members fs (settle_all field_meaning fs ss c) (put f.name d ms)) (field_settled f.name f.kind f.reset s c)
    ∙ members_settled fs ss c (put f.name (field_data f s) ms)

pub rows_lawful : (s : SchemaParts) → IsLawful (rows_meaning s)
rows_lawful s = winning_lawful (row_meaning field_meaning s.fields) (row_lawful field_meaning field_lawful s.fields)

pub doc_lawful : (s : SchemaParts) → IsLawful (doc_meaning s)
doc_lawful s = reshown_lawful (rows_meaning s) (fields_data s.fields) (rows_lawful s) (λ n ss c _. ap object (members_settled s.fields ss c no_members))
