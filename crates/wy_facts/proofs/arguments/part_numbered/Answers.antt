use Rattle.std.proofs.Common.{◌≡◌, to_z, of_z, arith}
use mir.Syntax.{w128}
use Rattle.std.proofs.lemmas.Int.{ints, to_z-of_z}
use Rattle.wy_term_subst.specs.wy_term.Nodes.{tree_at}
use Rattle.wy_facts.proofs.StepLemmas.{numbered_above, numbered_here}
use Rattle.wy_facts.proofs.arguments.part_numbered.Goals as goal

pub returns-then-elements-place-clause-value : goal.returns-then-elements-place-clause-value
returns-then-elements-place-clause-value c = numbered_above (tree_at c.args._terms.now) c.args.elements.now c.args.place (omega (arith, ints))

pub returns-clause-value : goal.returns-clause-value
returns-clause-value c =
    let same : to_z w128 (of_z w128 c.args.place) ≡ c.args.place = grind (arith, ints, to_z-of_z) in
    numbered_here (tree_at c.args._terms.now) c.args.elements.now c.args.place _ same (omega (arith, ints)) (omega (arith, ints))
