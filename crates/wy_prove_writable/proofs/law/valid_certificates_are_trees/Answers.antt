use Rattle.wy_prove_writable.proofs.TreeLemmas.{valid_is_one_tree}
use Rattle.wy_prove_writable.proofs.law.valid_certificates_are_trees.Goals as goal

pub returns : goal.returns
returns c = record { trees = valid_is_one_tree }
