use Rattle.file_model.proofs.Promised.{exchanged_in}
use Rattle.file_model.proofs.Sent.{exchange_shows_alike}
use Rattle.file_model.proofs.promises.exchange_makes_alike.Goals as goal

pub returns : goal.returns
returns g c = record {
  replicas = λ form lab r s to from honest here there same none_r none_s meant_to meant_from.
      exchanged_in (g.S.Schemas.documents c.args.schemas.now) (g.S.Schemas.sound c.args.schemas.now) form lab honest r here s there same to from none_r none_s meant_to meant_from;
  lines = λ form lab a b sent back lines in_script show_a show_b r s format honest exchange a_is b_is found found_s same none_r none_s ok.
      exchange_shows_alike (g.S.Schemas.documents c.args.schemas.now) form (g.S.Schemas.sound c.args.schemas.now) format lab honest a b sent back lines r s exchange found found_s same none_r none_s
      in_script show_a show_b a_is b_is ok;
}
