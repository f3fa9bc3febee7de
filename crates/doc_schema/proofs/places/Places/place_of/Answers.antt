use Rattle.doc_schema.proofs.Lookups.{place_inside, there}
use Rattle.doc_schema.proofs.places.Places.place_of.Goals as goal

pub returns-clause-found : goal.returns-clause-found
returns-clause-found c =
    (place_inside (λ v. v.items) c.args.name.now c.self.inside.names.keys c.args.self.now c.get_index_of.result c.self.view_is c.get_index_of.ensures.index).0

pub returns-clause-absent : goal.returns-clause-absent
returns-clause-absent c =
    (place_inside (λ v. v.items) c.args.name.now c.self.inside.names.keys c.args.self.now c.get_index_of.result c.self.view_is c.get_index_of.ensures.index).1

pub returns-clause-there : goal.returns-clause-there
returns-clause-there c =
    there c.args.self.now c.args.name.now c.get_index_of.result
    (place_inside (λ v. v.items) c.args.name.now c.self.inside.names.keys c.args.self.now c.get_index_of.result c.self.view_is c.get_index_of.ensures.index)
