use Rattle.std.proofs.Common.{◌∙◌, ap, refl, subst, sym}
use Rattle.wy_term.specs.Folding.{folded}
use Rattle.wy_term.specs.Nodes.{of, plain}
use Rattle.wy_term.specs.Term.{Term}
use Rattle.wy_prove_writable.specs.Listed.{IsFoldedThere}
use Rattle.wy_prove_writable.proofs.FoldedLemmas.{made_there}
use Rattle.wy_prove_writable.proofs.folding.made_again.Goals as goal

pub folded_to_itself-requires-clause-value : goal.folded_to_itself-requires-clause-value
folded_to_itself-requires-clause-value c =
    c.in_ok-number.ensures.tree
    ∙ ap folded (made_there c.args.again.now c.intern.new.self (plain c.in_ok-copy_of.field-0) (plain c.in_ok-copy.copy) (of (plain c.args.node.now).symbol c.args.parts.now) c.in_ok-copy_of.ensures c.in_ok-copy.ensures c.requires.parts c.intern.ensures.kept)

pub returns-clause-value : goal.returns-clause-value
returns-clause-value c =
    let made = of (plain c.args.node.now).symbol c.args.parts.now in
    subst (λ (u : Term). IsFoldedThere c.intern.new.self u c.folded_to_itself.result)
    (sym (made_there c.args.again.now c.intern.new.self made (plain c.in_ok-copy.copy) made refl c.in_ok-copy.ensures c.requires.parts c.intern.ensures.kept))
    c.folded_to_itself.ensures.value
