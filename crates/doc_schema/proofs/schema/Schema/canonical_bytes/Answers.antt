use Rattle.std.proofs.Common.{ap, false, subst, ◌≡◌, ◌∙◌}
use Rattle.serde_json.specs.View.{view}
use Rattle.serde_json.specs.Written.{compact_text, has_float}
use Rattle.doc_schema.specs.Canonical.{schema_data}
use Rattle.doc_schema.specs.Sound.{IsSchema}
use Rattle.doc_schema.proofs.Plain.{no_float}
use Rattle.doc_schema.proofs.Shaped.{plain_schema}
use Rattle.doc_schema.proofs.schema.Schema.canonical_bytes.Goals as goal

pub returns : goal.returns
returns c =
    let same : view c.in_ok-value.value ≡ schema_data c.args.self.now = c.in_ok-value.ensures ∙ ap schema_data c.self.view_is in
    let sound : IsSchema c.args.self.now = subst IsSchema c.self.view_is c.self.invariant.0 in
    let whole : has_float (view c.in_ok-value.value) ≡ false =
    ap has_float same ∙ no_float 6 (schema_data c.args.self.now) (plain_schema c.args.self.now sound) in
    ap (λ v. v.items) c.into_bytes.ensures.value ∙ c.in_ok-text.ensures.text whole ∙ ap compact_text same
