use Rattle.wy_value.proofs.FieldLemmas.{found}
use Rattle.wy_value.proofs.fields.FieldMap.has.Goals as goal

pub returns : goal.returns
returns c = let e = c.contains_key.ensures in let f = found c.self.inside.map.entries c.args.name.now in let v = c.self.view_is in cc
