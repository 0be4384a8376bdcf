-- What it means that nodes close where elimination refutes them.
use Rattle.std.specs.Prelude.{◌≡◌, List}
use Rattle.wy_search_laws.specs.sound.Closed.{AreLiterals}
use Rattle.wy_search_bounds.specs.wy_term.Condition.{Entry}
use Rattle.wy_search_bounds.specs.wy_check_spec.judge.Node.{Node}
use Rattle.wy_search_bounds.specs.wy_search_spec.Bounds.{refuted, ending}
use Rattle.wy_search_bounds.specs.wy_check_laws.sound.Sortedness.{AreFormulas}
use Rattle.wy_search_laws.specs.chains.Chains.{HasLiterals, HasSteps}

-- where elimination refutes a node, whose formulas are sorted, steps close each node that has its literals
abbrev pub RefutedClose : Type 0
RefutedClose = (types : List Entry) (base node : Node) → AreLiterals base.literals → AreFormulas base.pending → ending base ≡ refuted → HasLiterals base node → HasSteps types node
