use Rattle.wy_parse_grammar.proofs.types.+tight.Given as goal

abbrev pub decreases-tight : goal.decreases-tight
decreases-tight l = l.levels
