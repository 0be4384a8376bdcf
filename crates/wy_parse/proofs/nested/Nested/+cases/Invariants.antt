use Rattle.wy_parse.proofs.nested.Nested.+cases.Given as goal

abbrev pub decreases-cases : goal.decreases-cases
decreases-cases g l = l.levels
