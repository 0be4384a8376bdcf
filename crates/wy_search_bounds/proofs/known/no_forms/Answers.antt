use Rattle.wy_search_bounds.proofs.known.no_forms.Goals as goal
use Rattle.wy_term.specs.Nodes.{tree_at}
use Rattle.std.proofs.Common.{length}

pub returns : goal.returns
returns c = λ nodes le. record {
  floor = le;
  lasting = c.no_lasting.ensures c.args.floor (tree_at nodes);
  passing = c.no_passing.ensures (length nodes) (tree_at nodes);
}
