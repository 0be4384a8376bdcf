use Rattle.wy_sound_kinds.proofs.fits_lemmas.FitLemmas.{clauses_fit}
use Rattle.wy_sound_kinds.proofs.fits.clauses_fit.Goals as goal

pub returns : goal.returns
returns c = record { fit = clauses_fit }
