use Rattle.rich_text.proofs.Reaches.{entries_from, range_latest, with_both, with_delete, with_insert, with_range}
use Rattle.rich_text.proofs.laws.next_ranges_are_latest.Goals as goal

pub returns : goal.returns
returns c =
    let t = c.args.tower.now in
    record {
      entries = λ n xs d e issued apart honest _ from member has. entries_from t.low.marks t.high.marks n t.fitting xs issued apart honest from d e member has;
      latest = λ n xs p r issued apart honest _ from after key. range_latest t.low.marks t.high.marks n t.fitting xs issued apart honest from p r after key;
      insert = λ n i ch xs p issued apart honest _ from. with_insert t.low.marks t.high.marks n t.fitting xs issued apart honest from i ch p;
      delete = with_delete;
      mark = with_range;
      both = with_both;
    }
