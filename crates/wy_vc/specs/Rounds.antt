-- The loop around a statement, as the definition has it.
use Rattle.std.specs.Prelude.{List}
use Rattle.wy_core.specs.CoreTree as tree
use Rattle.wy_core.specs.CoreSeen.{seen_exprs}
use Rattle.wy_vc_spec.specs.Numbered.{Node, numbered_list}
use Rattle.wy_vc.specs.declared.rounds.Round.{Round}

-- its invariants, each expression with its number
abbrev pub around : Round → List (tree.Expr Node)
around r = numbered_list (seen_exprs r.invariants.now) r.first
