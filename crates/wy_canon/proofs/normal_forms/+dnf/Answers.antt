use Rattle.std.proofs.Common.{◌≡◌, ℕ, IfOk, List, Bool, subst}
use Rattle.wy_types.specs.declared.conjuncts.Conjunct.{Conjunct}
use Rattle.wy_canon.specs.Width.{Exactly}
use Rattle.wy_canon.proofs.StepLemmas.{dnf-step, narrow-step}
use Rattle.wy_canon.proofs.normal_forms.+dnf.Goals as goal

pub dnf-returns-clause-value : goal.dnf-returns-clause-value
dnf-returns-clause-value t c =
    subst (λ (x : List (Conjunct ℕ)). IfOk c.node_dnf.result (λ made. made ≡ x))
    (dnf-step c.args.table.now c.args.sides c.args.depth c.args.up c.args.inside c.args.term c.node_of-node.result.now c.if-depth-eq0.false c.node_of-node.ensures.value) c.node_dnf.ensures.value

pub dnf-returns-clause-width : goal.dnf-returns-clause-width
dnf-returns-clause-width t c =
    subst (λ (x : Bool). Exactly c.node_dnf.result x)
    (narrow-step c.args.table.now c.args.sides c.args.depth c.args.up c.args.inside c.args.term c.node_of-node.result.now c.if-depth-eq0.false c.node_of-node.ensures.value) c.node_dnf.ensures.width
