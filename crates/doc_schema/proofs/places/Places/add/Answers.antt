use Rattle.std.proofs.Common.{◌∙◌}
use Rattle.doc_schema.proofs.Lookups.{name_added}
use Rattle.doc_schema.proofs.places.Places.add.Goals as goal

pub returns : goal.returns
returns c =
    name_added (λ v. v.items) c.self.inside.names.keys c.insert.new.self.keys c.in_ok-from_slice.field-0 c.args.self.now c.args.name.now
    c.in_ok-insert.ensures.keys c.self.view_is (c.in_ok-from_slice.ensures.items ∙ c.deref.ensures.value ∙ c.name.view_is) c.requires
