use Rattle.std.proofs.Common.{◌≡◌, ◌∙◌, ap, length, List, ℕ, rules}
use Rattle.wy_term.specs.Nodes.{of, plain}
use Rattle.wy_term_subst.specs.Substitution.{renumbered}
use Rattle.wy_term_subst.specs.View.{symbol_at}
use Rattle.wy_term_subst.proofs.WalkLemmas.{count_of_parts, closed_if}
use Rattle.wy_term_subst.proofs.walk.closed.Goals as goal

pub with_parts-requires : goal.with_parts-requires
with_parts-requires c =
    ap (λ (ks : List ℕ). length ks) c.deref.ensures.value
    ∙ (c.requires.full ∙ count_of_parts c.args.terms.now c.args.current.now.term (symbol_at c.args.terms.now c.args.current.now.term) c.args.current.now.parts.items (plain c.node.result.now) c.requires.current.tree c.node.ensures.tree)

pub returns-clause-value : goal.returns-clause-value
returns-clause-value c = λ env.
    let made : plain c.in_ok-node.node ≡ of (renumbered (plain c.node.result.now).symbol c.args.current.now.number) c.args.current.now.images.items = search rules in
    closed_if c.args.terms.now c.intern.new.self c.intern.result c.args.current.now.term (plain c.node.result.now) (plain c.in_ok-node.node) c.args.current.now.number c.args.current.now.images.items env c.node.ensures.tree made c.requires.current.name c.intern.ensures.tree
