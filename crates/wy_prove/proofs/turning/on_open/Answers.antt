use Rattle.std.proofs.Common.{◌∙◌, sym, ap, subst}
use Rattle.std.specs.Prelude.{IfOk, option_map}
use Rattle.wy_term.specs.Nodes.{tree_at}
use Rattle.wy_prove_leaves.specs.wy_search_spec.Expansion.{Spot}
use Rattle.wy_prove_leaves.specs.wy_search_spec.Splitting.{next_atom}
use Rattle.wy_prove.specs.Turns.{IsJudged, IsOpenNode}
use Rattle.wy_prove.proofs.turning.on_open.Goals as goal

pub returns-in-Some-clause-value : goal.returns-in-Some-clause-value
returns-in-Some-clause-value c = λ free.
    let at = tree_at c.args.terms.now in
    let same = c.in_ok-found.ensures.seen in
    subst (λ (p : Spot). IfOk c.split.result (IsJudged at p)) same
    (c.split.ensures.value (subst (λ (p : Spot). IsOpenNode p.node) (sym same) free) (ap (λ (p : Spot). next_atom p.node) same ∙ (sym c.in_ok-found.ensures.value ∙ ap (option_map at) c.in-Some.is)))

pub returns-in-None-clause-value : goal.returns-in-None-clause-value
returns-in-None-clause-value c = λ free.
    let at = tree_at c.args.terms.now in
    (free, sym c.in_ok-found.ensures.value ∙ ap (option_map at) c.in-None.is, c.in_ok-found.ensures.seen)
