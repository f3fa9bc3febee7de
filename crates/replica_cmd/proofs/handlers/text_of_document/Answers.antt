use Rattle.std.proofs.Common.{◌≡◌, false, [], ◌∷◌, ◌++◌, ◌∙◌, ap}
use Rattle.std.specs.Prelude.{codes, ◌||◌}
use Rattle.serde_json.specs.Data.{Data, member, no_members, object}
use Rattle.serde_json.specs.View.{view}
use Rattle.serde_json.specs.Written.{compact_text, has_float}
use Rattle.replica_cmd.proofs.handlers.text_of_document.Goals as goal

whole : (d n : Data) → d ≡ object (member (codes "n") n no_members) → has_float n ≡ false → has_float d ≡ false
whole d n e h = ap has_float e ∙ ap (λ b. b || false) h

pub returns : goal.returns
returns c =
    c.in_ok-push_str.ensures.bytes
    ∙ ap (λ t. t ++ 10 ∷ []) (c.in_ok-text.ensures.text (whole (view c.in_ok-document.document) (view c.args.n) c.in_ok-document.ensures c.requires) ∙ ap compact_text c.in_ok-document.ensures)
