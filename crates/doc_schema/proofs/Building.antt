-- The array of operations, which is built one after another.
use Rattle.std.specs.Prelude.{◌≡◌, ℕ, ◌+◌, ◌<◌, List, [], ◌∷◌, ◌++◌, map, length, take, get_or}
use Rattle.std.proofs.Common.{ap, ap₂, sym, ◌∙◌, arith}
use Rattle.std.proofs.lemmas.List.{length-take-le, map_push, take_more}
use Rattle.serde_json.specs.Data.{Data}
use Rattle.serde_json.specs.View.{view}
use Rattle.serde_json.specs.declared.value.Value.{Value}
use Rattle.action_tables.specs.Table.{ActionTable}
use Rattle.doc_schema.specs.Canonical.{op_data, ops_from}

-- the operations of more names
ops_from-push : (t : ActionTable) (names : List (List ℕ)) (name : List ℕ) (at : ℕ)
    → ops_from t (names ++ name ∷ []) at ≡ ops_from t names at ++ op_data t name (at + length names) ∷ []
ops_from-push t [] name at = ap (λ n. op_data t name n ∷ []) (omega arith)
ops_from-push t (first ∷ names) name at =
    ap (λ ds. op_data t first at ∷ ds)
    (ops_from-push t names name (at + 1) ∙ ap (λ n. ops_from t names (at + 1) ++ op_data t name n ∷ []) (omega arith))

pub one_more_op : (t : ActionTable) (names : List (List ℕ)) (i : ℕ) (name : List ℕ) (vs ws : List Value) (v : Value) → i < length names
    → name ≡ get_or names i name → map view vs ≡ ops_from t (take i names) 0 → view v ≡ op_data t name i → ws ≡ vs ++ v ∷ []
    → map view ws ≡ ops_from t (take (i + 1) names) 0
one_more_op t names i name vs ws v low is before here more =
    let count : i ≡ 0 + length (take i names) = omega (arith, length-take-le i names (omega arith)) in
    ap (map view) more ∙ map_push view vs v
    ∙ ap₂ (λ (ds : List Data) d. ds ++ d ∷ []) before (here ∙ ap (λ n. op_data t n i) is ∙ ap (op_data t (get_or names i name)) count)
    ∙ sym (ops_from-push t (take i names) (get_or names i name) 0)
    ∙ ap (λ ns. ops_from t ns 0) (sym (take_more names i name low))
