use Rattle.std.proofs.Common.{◌≡◌, ◌∙◌, ap, rules, sym}
use Rattle.wy_cong.specs.wy_search_spec.Expansion.{read_from}
use Rattle.wy_search_facts.proofs.ElementLemmas.{read_written}
use Rattle.wy_search_facts.proofs.elements.read_count.Goals as goal
use Rattle.wy_search_facts.specs.Adding.{count}
use Rattle.wy_term.specs.Nodes.{tree_at}
use Rattle.wy_term.specs.Term.{Term, Of, no_parts, part, get}

pub returns-in-Get : goal.returns-in-Get
returns-in-Get c =
    let at = tree_at c.args.terms.now in
    let is : at c.args.t ≡ Of get (part (at c.in-Get.a) (part (at c.in-Get.field-1) no_parts)) = search rules in
    c.written_count.ensures ∙ read_written (at c.in-Get.a) (at c.in-Get.field-1) ∙ ap (λ (t : Term). count (read_from t)) (sym is)
