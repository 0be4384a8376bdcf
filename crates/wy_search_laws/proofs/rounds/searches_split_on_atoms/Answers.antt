use Rattle.wy_search_laws.proofs.ends_lemmas.AtomLemmas.{next_is_atom}
use Rattle.wy_search_laws.proofs.rounds.searches_split_on_atoms.Goals as goal

pub returns : goal.returns
returns c = next_is_atom
