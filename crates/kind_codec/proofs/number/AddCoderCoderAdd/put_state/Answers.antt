use Rattle.wire_core.specs.Calls.{rules_of}
use Rattle.kind_codec.specs.Number.{residue_allowed}
use Rattle.kind_codec.proofs.number.AddCoderCoderAdd.put_state.Goals as goal

pub put_residue-requires : goal.put_residue-requires
put_residue-requires c = residue_allowed c.args.tower.now.modulus (rules_of c.args.out.now) c.args.state.now c.requires
