use Rattle.wy_sound_walks.proofs.depends_lemmas.WalkLemmas.{terms_depend}
use Rattle.wy_sound_walks.proofs.depends.terms_depend_on_names_below.Goals as goal

pub returns : goal.returns
returns c = record { depend = terms_depend }
