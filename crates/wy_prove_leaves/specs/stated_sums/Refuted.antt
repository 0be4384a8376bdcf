-- What becomes of a draft where elimination refutes a node.
use Rattle.std.specs.Prelude.{◌≡◌, List, Bool, true, false}
use Rattle.wy_term.specs.Condition.{Entry}
use Rattle.wy_prove_drafts.specs.wy_check_spec.judge.Node.{Node}
use Rattle.wy_search_spec.specs.Bounds.{refuted, ending}
use Rattle.wy_prove_drafts.specs.Progress.{Progress, Goes, Ends}

-- steps were written that close the node; or else elimination doesn't refute the base
abbrev pub EndsIfRefuted : List Entry → Node → Progress → Progress → Bool → Type 0
EndsIfRefuted types base old new true = Ends types old new
EndsIfRefuted types base old new false = Goes types old new × (ending base ≡ refuted → ⊥)
