use Rattle.wy_sound_walks.proofs.points_lemmas.StayLemmas.{points_stay}
use Rattle.wy_sound_walks.proofs.points.points_stay_points.Goals as goal

pub returns : goal.returns
returns c = record { stay = points_stay }
