use Rattle.wy_parse_grammar.proofs.expressions.+unary.Given as goal

abbrev pub decreases-unary : goal.decreases-unary
decreases-unary l = l.levels
