use Rattle.wy_check_spec.proofs.valid_lemmas.TreeLemmas.{valid_is_a_tree}
use Rattle.wy_check_spec.proofs.valid.valid_certificates_are_trees.Goals as goal

pub returns : goal.returns
returns c = record { trees = valid_is_a_tree }
