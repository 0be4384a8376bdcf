use Rattle.std.proofs.Common.{◌≡◌, ◌∙◌, ap, length, rules, sym}
use Rattle.wy_search_facts.proofs.ElementLemmas.{count_parts}
use Rattle.wy_search_facts.proofs.elements.written_count.Goals as goal
use Rattle.wy_search_facts.specs.Adding.{count, written}
use Rattle.wy_term.specs.Nodes.{parts_at, tree_at}
use Rattle.wy_term.specs.Term.{Term, Of, array}

pub returns-in-Array : goal.returns-in-Array
returns-in-Array c =
    let at = tree_at c.args.terms.now in
    let many : c.len.result ≡ length c.in-Array.vs.items = search rules in
    let is : at c.args.a ≡ Of array (parts_at at c.in-Array.vs.items) = search rules in
    many ∙ count_parts at c.in-Array.vs.items ∙ ap (λ (t : Term). count (written t)) (sym is)
