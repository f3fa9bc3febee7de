use Rattle.file_model.proofs.Promised.{merged_again_in}
use Rattle.file_model.proofs.Twice.{twice}
use Rattle.file_model.proofs.promises.merging_twice_is_merging_once.Goals as goal

pub returns : goal.returns
returns g c = record {
  replica = λ form lab r b honest there sent same. merged_again_in (g.S.Schemas.documents c.args.schemas.now) (g.S.Schemas.sound c.args.schemas.now) form lab honest r there b sent same;
  line = λ form lab in_script line file name r b format honest is found found_b ok.
      twice (g.S.Schemas.documents c.args.schemas.now) form (g.S.Schemas.sound c.args.schemas.now) format lab honest in_script line file name r b is found found_b ok;
}
