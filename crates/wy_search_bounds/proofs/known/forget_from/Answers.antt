use Rattle.std.proofs.Common.{length, arith}
use Rattle.wy_search_bounds.proofs.KnownLemmas.{lasting_kept}
use Rattle.wy_search_bounds.proofs.known.forget_from.Goals as goal
use Rattle.wy_term.specs.Nodes.{tree_at}

pub returns-then-count-known : goal.returns-then-count-known
returns-then-count-known c = λ old new agrees are. record {
  floor = agrees.within;
  lasting = c.no_lasting.ensures c.args.count (tree_at new);
  passing = c.no_passing.ensures (length new) (tree_at new);
}

pub returns-else-count-known : goal.returns-else-count-known
returns-else-count-known c = λ old new agrees are. record {
  floor = omega (arith, agrees.within, c.if-count-known.false);
  lasting = lasting_kept c.args.count old new c.args.known.now agrees are c.if-count-known.false;
  passing = c.no_passing.ensures (length new) (tree_at new);
}
