use Rattle.wy_types.specs.Membership.{shape_of}
use Rattle.wy_types.proofs.RankedLemmas.{has_laws}
use Rattle.wy_types.proofs.TermLemmas.{any_in-dnf_part}
use Rattle.wy_types.proofs.laws.union_is_part.Goals as goal

pub returns : goal.returns
returns c = λ table rank k ranked d p. any_in-dnf_part table k (shape_of table k d) (has_laws table rank k ranked d) p
