use Rattle.std.proofs.Common.{ap, ◌∙◌, sym, map}
use Rattle.std.proofs.lemmas.List.{take-map}
use Rattle.wy_term.specs.Nodes.{plain}
use Rattle.wy_term.proofs.terms.cut.Goals as goal

pub returns : goal.returns
returns c = ap (map plain) c.truncate.ensures.keys ∙ sym (take-map plain _ _)
