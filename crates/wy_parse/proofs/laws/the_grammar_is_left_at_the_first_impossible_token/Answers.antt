use Rattle.wy_parse.proofs.FrontLemmas.{leaves-first, first-leaves}
use Rattle.wy_parse.proofs.laws.the_grammar_is_left_at_the_first_impossible_token.Goals as goal

pub returns : goal.returns
returns c = record { left = leaves-first; first = first-leaves }
