-- The canonical bytes of a schema are read again as that schema.
use Rattle.std.specs.Prelude.{◌≡◌, ◌≤◌, length, Ok}
use Rattle.std.proofs.Common.{arith, inr, subst}
use Rattle.serde_json.specs.Data.{Data}
use Rattle.action_tables.specs.TableText.{IsJson}
use Rattle.doc_schema.specs.Canonical.{canonical_text, schema_data}
use Rattle.doc_schema.specs.Schema.{SchemaParts, Spells, ValueResult}
use Rattle.doc_schema.specs.Sound.{IsSchema}
use Rattle.action_tables.proofs.Texts.{value_alike}
use Rattle.doc_schema.proofs.Back.{schema_again}
use Rattle.doc_schema.proofs.Plain.{read_text, utf8_text}
use Rattle.doc_schema.proofs.Shaped.{plain_schema}
use Rattle.doc_schema.proofs.Whole.{value_settled}

is_json : (s : SchemaParts) → IsSchema s → IsJson (canonical_text s) (schema_data s)
is_json s h =
    (utf8_text 6 (schema_data s) (plain_schema s h), read_text 6 (schema_data s) (omega arith) (plain_schema s h))

pub value_read : (s : SchemaParts) → IsSchema s → (d : Data) × IsJson (canonical_text s) d × ValueResult d (Ok s)
value_read s h = (schema_data s, is_json s h, schema_again s h)

pub read_again : (s : SchemaParts) → IsSchema s → length (canonical_text s) ≤ 65536 → Spells (canonical_text s) s
read_again s h short = inr (short, inr (schema_data s, is_json s h, schema_again s h))

pub one_schema_each : (s t : SchemaParts) → IsSchema s → IsSchema t → canonical_text s ≡ canonical_text t → s ≡ t
one_schema_each s t h k e =
    let same : schema_data s ≡ schema_data t =
    value_alike (canonical_text t) (schema_data s) (schema_data t) (subst (λ text. IsJson text (schema_data s)) e (is_json s h)) (is_json t k) in
    let alike : Ok s ≡ Ok t = (value_settled (schema_data t)).one (Ok s) (Ok t) (subst (λ d. ValueResult d (Ok s)) same (schema_again s h)) (schema_again t k) in
    cc
