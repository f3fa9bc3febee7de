use Rattle.std.proofs.Common.{rules}
use Rattle.std.proofs.lemmas.Fn.{always_returns_same}
use Rattle.rich_text.specs.declared.marks.MarkEntry.{MarkEntry}
use Rattle.rich_text.proofs.Joins.{found_mark}
use Rattle.rich_text.proofs.marks.find_mark.Goals as goal

pub returns-clause-there : goal.returns-clause-there
returns-clause-there c =
    let by_mark = c.binary_search_by_key.ensures.position (λ (e : MarkEntry). e.mark) (always_returns_same _ _ _ (λ a r g called. (search rules, search rules))) in
    (found_mark c.args.mark c.args.entries.now c.requires c.binary_search_by_key.result c.binary_search_by_key.ensures.bound by_mark).0

pub returns-clause-absent : goal.returns-clause-absent
returns-clause-absent c =
    let by_mark = c.binary_search_by_key.ensures.position (λ (e : MarkEntry). e.mark) (always_returns_same _ _ _ (λ a r g called. (search rules, search rules))) in
    (found_mark c.args.mark c.args.entries.now c.requires c.binary_search_by_key.result c.binary_search_by_key.ensures.bound by_mark).1
