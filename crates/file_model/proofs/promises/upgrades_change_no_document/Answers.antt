use Rattle.file_model.proofs.Later.{upgrade_line, upgrade_shows}
use Rattle.file_model.proofs.promises.upgrades_change_no_document.Goals as goal

pub returns : goal.returns
returns g c = record {
  same = λ form lab in_script line file name is ok. upgrade_line (g.S.Schemas.documents c.args.schemas.now) form lab in_script line file name is ok;
  shown = λ form lab in_script line show file r format honest is shows there ok.
      upgrade_shows (g.S.Schemas.documents c.args.schemas.now) form (g.S.Schemas.sound c.args.schemas.now) format lab honest in_script line show file r is shows there ok;
}
