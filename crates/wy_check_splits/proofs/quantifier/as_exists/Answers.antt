use Rattle.std.proofs.Common.{◌≡◌, rules, sym, ap, ◌∙◌}
use Rattle.wy_lemmas.proofs.Options.{some}
use Rattle.wy_check_nodes.specs.wy_term.Term.{Of, no_parts, part, exists}
use Rattle.wy_check_nodes.specs.wy_term.Nodes.{tree_at}
use Rattle.wy_check_nodes.specs.wy_check_spec.valid.Ranges.{as_exists}
use Rattle.wy_check_splits.proofs.quantifier.as_exists.Goals as goal

pub returns-in-Ok-clause-value : goal.returns-in-Ok-clause-value
returns-in-Ok-clause-value c =
    let at = tree_at c.args.terms.now in
    let q = c.in-Some.q in
    let is : at c.args.f ≡ Of (exists q.word q.number) (part (at q.from) (part (at q.below) (part (at q.body) no_parts))) = search rules in
    ap some (c.in-Ok.ensures.value at) ∙ sym (ap as_exists is)
