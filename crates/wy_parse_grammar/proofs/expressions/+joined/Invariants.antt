use Rattle.wy_parse_grammar.proofs.expressions.+joined.Given as goal

abbrev pub decreases-joined : goal.decreases-joined
decreases-joined g l = l.levels
