-- Terms that steps state of terms are sorted where these are.
use Rattle.std.proofs.Common.{refl}
use Rattle.wy_search_bounds.specs.wy_term.Term as term
use Rattle.wy_search_bounds.specs.wy_term.Term.{Term, Of, no_parts, part}
use Rattle.wy_search_bounds.specs.wy_term_subst.sorted.Sorted.{IsSorted}
use Rattle.wy_search_bounds.specs.wy_search_spec.Expansion.{measured}
use Rattle.wy_search_bounds.specs.wy_check_laws.sound.Sortedness.{AreSortedTerms}

pub measured_sorted : (t : Term) → IsSorted t → AreSortedTerms (measured t)
measured_sorted (Of term.len (part v no_parts)) h = (h.1, tt)
measured_sorted t h = tt
